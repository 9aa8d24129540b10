use native.Mathlib.Nat.{sub-zero, zero-add}
use mathlib.Core.Path.{sym}
use mathlib.Core.List.{[]}
use Rattle.build_ranges.proofs.Appending.{starts, room, turn, done}
use Rattle.ray_tracing.proofs.Inside.{drawn-none}
use Rattle.ray_tracing.specs.Parts.{of_entries}
use Rattle.build_ranges.proofs.Ranges.{all_more, all_none, entry_next}
use Rattle.build_ranges.proofs.write_init_ranges.Goals as goal

pub loop-i-init : goal.loop-i-init
loop-i-init c = (sym (drawn-none (of_entries [] c.args.entries.now)), starts _ _ _ (rw sub-zero))

pub write_entry_ranges-at-requires-clause-count_in_bounds : goal.write_entry_ranges-at-requires-clause-count_in_bounds
write_entry_ranges-at-requires-clause-count_in_bounds c = room c.loop-i.invariant.1 (all_more _ _ _ _ _ _ c.loop-i-test.true c.entry_at-entry.ensures c.from-count.ensures) (rw zero-add c.requires.geometries_in_bounds)

pub loop-i-preserved : goal.loop-i-preserved
loop-i-preserved c = (entry_next _ _ c.entry_at-entry.ensures c.from-count.ensures c.loop-i.invariant.0, turn c.loop-i.invariant.1 (all_more _ _ _ _ _ _ c.loop-i-test.true c.entry_at-entry.ensures c.from-count.ensures) c.write_entry_ranges-at.ensures.value c.write_entry_ranges-at.ensures.out_after)

pub returns : goal.returns
returns c = done c.loop-i.invariant.1 (all_none _ _ _ _ _ _ c.loop-i-test.false)
