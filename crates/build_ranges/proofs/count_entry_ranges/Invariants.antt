-- `build_ranges::count_entry_ranges` meets its contract. The invariant: what is counted and what is left are the whole.
use mathlib.Core.Path.{◌≡◌}
use Prim.Native.Nat.{◌+◌, ◌-◌, ◌*◌, ◌≤◌}
use lib.ListN.{length}
use Rattle.build_ranges.specs.Ranges.{entry_ranges}
use Rattle.build_ranges.proofs.count_entry_ranges.Given as goal

abbrev pub invariant-loop-g : goal.invariant-loop-g
invariant-loop-g l = record {
  within : l.n ≤ 9 * (l.g - l.first);
  counted : l.n + length (entry_ranges l.version l.geometries l.kind l.g (l.first + l.count - l.g)) ≡ length (entry_ranges l.version l.geometries l.kind l.first l.count);
}
