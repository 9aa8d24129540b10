-- `build_ranges::write_init_ranges` meets its contract. The invariant: what is left, written from here on, is the whole; g counts the geometries that the entries before drew.
use mathlib.Core.Path.{◌≡◌}
use mathlib.Core.List.{[]}
use Prim.Native.Nat.{◌-◌}
use Rattle.build_ranges.proofs.Appending.{Left}
use Rattle.ray_tracing.proofs.Inside.{drawn_before}
use Rattle.ray_tracing.specs.Parts.{entries_in, of_entries}
use Rattle.build_ranges.specs.Ranges.{all_ranges}
use Rattle.build_ranges.proofs.write_init_ranges.Given as goal

abbrev pub invariant-loop-i : goal.invariant-loop-i
invariant-loop-i l = (l.g ≡ drawn_before (of_entries [] l.entries) l.i)
    × Left l.out l.at (all_ranges l.version l.entries l.geometries l.i l.g (entries_in l.entries - l.i)) l.initial.out 0 (all_ranges l.version l.entries l.geometries 0 0 (entries_in l.entries))
