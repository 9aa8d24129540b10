-- `build_plan::write_compactable` meets its contract. The invariant: what is left, written from here on, is the whole.
use Rattle.std.proofs.Common.{◌-◌}
use Rattle.build_ranges.proofs.Appending.{Left}
use Rattle.ray_tracing.specs.Plan.{compactable_from}
use Rattle.ray_tracing.specs.Parts.{entries_in, of_entries}
use Rattle.build_plan.proofs.write_compactable.Given as goal

abbrev pub invariant-loop-i : goal.invariant-loop-i
invariant-loop-i l =
    let x = of_entries l.blases l.entries in
    let n = entries_in l.entries in
    Left l.out l.at (compactable_from x l.i (n - l.i)) l.initial.out 0 (compactable_from x 0 n)
