-- `build_plan::count_compactable` meets its contract. The invariant: what is counted and what is left are the whole.
use Rattle.std.proofs.Common.{◌≡◌, ◌+◌, ◌-◌, ◌≤◌, length}
use Rattle.ray_tracing.specs.Plan.{compactable_from}
use Rattle.ray_tracing.specs.Parts.{entries_in, of_entries}
use Rattle.build_plan.proofs.count_compactable.Given as goal

abbrev pub invariant-loop-i : goal.invariant-loop-i
invariant-loop-i l =
    let x = of_entries l.blases l.entries in
    let n = entries_in l.entries in record {
      most : l.n ≤ l.i;
      left : l.n + length (compactable_from x l.i (n - l.i)) ≡ length (compactable_from x 0 n);
    }
