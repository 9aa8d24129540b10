-- `build_ranges::count_ranges` meets its contract. The invariant: what is counted and what is left are the whole.
use mathlib.Core.Path.{◌≡◌}
use mathlib.Core.List.{[]}
use Prim.Native.Nat.{◌+◌, ◌-◌, ◌*◌, ◌≤◌}
use lib.ListN.{length}
use Rattle.ray_tracing.proofs.Inside.{drawn_before}
use Rattle.ray_tracing.specs.Parts.{entries_in, of_entries}
use Rattle.build_ranges.specs.Ranges.{all_ranges}
use Rattle.build_ranges.proofs.count_ranges.Given as goal

abbrev pub invariant-loop-i : goal.invariant-loop-i
invariant-loop-i l = (l.g ≡ drawn_before (of_entries [] l.entries) l.i)
    × (l.n ≤ 9 * l.g)
    × (l.n + length (all_ranges l.version l.entries l.geometries l.i l.g (entries_in l.entries - l.i)) ≡ length (all_ranges l.version l.entries l.geometries 0 0 (entries_in l.entries)))
