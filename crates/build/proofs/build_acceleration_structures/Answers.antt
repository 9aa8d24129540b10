-- `build::build_acceleration_structures` meets its contract: the answer is the judged one, and what it leaves is the answer's.
use Rattle.std.proofs.Common.{◌∙◌}
use Rattle.ray_tracing.specs.Plan.{lent_tables, lent_outputs}
use Rattle.build.proofs.Judged.{left_is}
use Rattle.build.proofs.build_acceleration_structures.Goals as goal

pub returns-clause-built : goal.returns-clause-built
returns-clause-built c =
    let e = c.in_ok-built.ensures.answer in
    record { answer = e; left = c.write.ensures.left ∙ left_is (lent_tables c.args.tables.now) (lent_outputs c.args.outputs.now) e }
