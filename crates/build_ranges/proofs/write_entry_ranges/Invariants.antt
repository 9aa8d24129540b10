-- `build_ranges::write_entry_ranges` meets its contract. The invariant: what is left, written from here on, is the whole.
use Prim.Native.Nat.{◌+◌, ◌-◌}
use Rattle.build_ranges.proofs.Appending.{Left}
use Rattle.build_ranges.specs.Ranges.{entry_ranges}
use Rattle.build_ranges.proofs.write_entry_ranges.Given as goal

abbrev pub invariant-loop-g : goal.invariant-loop-g
invariant-loop-g l = Left l.out l.end (entry_ranges l.version l.geometries l.kind l.g (l.first + l.count - l.g)) l.initial.out l.at (entry_ranges l.version l.geometries l.kind l.first l.count)
