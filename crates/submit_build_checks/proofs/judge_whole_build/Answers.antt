-- What was not refused stands in the table.
use Rattle.ray_tracing.proofs.Firsts.{or_none}
use Rattle.submit_checks.specs.Outcome.{blases_of}
use Rattle.submit_checks.proofs.Judged.{nothing}
use Rattle.submit_checks.proofs.Start.{ids_inside}
use Rattle.submit_build_checks.proofs.judge_whole_build.Goals as goal

pub judge_compacted-requires : goal.judge_compacted-requires
judge_compacted-requires c = ids_inside (blases_of c.args.blases.now) c.args.ids.now (or_none _ _ (nothing c.judge_mentions.ensures c.in_ok-judge_mentions.was)).0
