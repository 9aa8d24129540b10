-- `build_plan::counts` meets its contract: field by field.
use Rattle.ray_tracing.specs.Plan.{lent_tables}
use Rattle.build_plan.proofs.Lengths.{counts_are}
use Rattle.build_plan.proofs.counts.Goals as goal

pub returns : goal.returns
returns c = counts_are (lent_tables c.args.tables.now) c.requires.2 c.present_of-present.ensures.0 c.count_ranges-init_ranges.ensures c.count_compactable-compactable.ensures
