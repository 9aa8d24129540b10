-- The invariant: what is left to do, done from here, is what the whole was to be.
use Rattle.std.proofs.Common.{◌≡◌, drop}
use Rattle.ray_tracing.specs.Submission.{first, compacted}
use Rattle.submit_checks.specs.Outcome.{blases_of}
use Rattle.submit_build_checks.proofs.judge_compacted.Given as goal

abbrev pub invariant-loop-id : goal.invariant-loop-id
invariant-loop-id l = first (compacted (blases_of l.blases)) (drop l.id-index l.ids) ≡ first (compacted (blases_of l.blases)) l.ids
