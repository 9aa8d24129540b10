-- `build_lists::write_entry_blases` meets its contract. The invariant: what is left, written from here on, is the whole.
use mathlib.Core.List.{[]}
use Prim.Native.Nat.{◌-◌}
use Rattle.build_ranges.proofs.Appending.{Left}
use Rattle.ray_tracing.specs.Plan.{entry_blases}
use Rattle.ray_tracing.specs.Parts.{entries_in, of_entries}
use Rattle.build_lists.proofs.write_entry_blases.Given as goal

abbrev pub invariant-loop-i : goal.invariant-loop-i
invariant-loop-i l = Left l.out l.i (entry_blases (of_entries [] l.entries) l.i (entries_in l.entries - l.i)) l.initial.out 0 (entry_blases (of_entries [] l.entries) 0 (entries_in l.entries))
