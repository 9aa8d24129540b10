use Rattle.std.proofs.Common.{◌+◌, ap, ◌∙◌, arith}
use Rattle.ray_tracing.specs.Plan.{lent_tables, checked_e}
use Rattle.ray_tracing.proofs.Verdicts.{found}
use Rattle.build_entries.proofs.Within.{checked-at}
use Rattle.build_entries.proofs.Index.{nth_found}
use Rattle.build_entries.proofs.judge_entry.Goals as goal

pub returns-in-Err : goal.returns-in-Err
returns-in-Err c =
    let x = c.args.tables.now in
    let declared = rw c.requires.declared at c.get-declared.ensures ∙ nth_found x.declared.now _ _ _ c.loop-j.invariant.at_hand in
    let checked =
    checked-at (lent_tables x) c.args.i (c.args.g + c.loop-j.j) c.entry_at-entry.ensures c.geometry_of-geometry.ensures _
    c.blas_of_entry-blas.ensures declared c.in-Err.ensures in
    let here = ap (checked_e c.args.i c.loop-j.j) checked in
    grind (arith, found, here)
