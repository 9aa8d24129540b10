-- `groups::put_slots` meets its contract. The invariant: writing the items that are left, from here on, gives what writing all was to give.
use Rattle.std.proofs.Common.{◌≡◌, ◌*◌, drop}
use lib.Seq.{sets}
use Rattle.groups.specs.Items.{items_at}
use Rattle.groups.proofs.put_slots.Given as goal

abbrev pub invariant-loop-at : goal.invariant-loop-at
invariant-loop-at l =
    (l.to ≡ l.at-index * 56)
    × (sets l.initial.slots 0 (items_at l.groups l.places) ≡ sets l.slots l.to (items_at l.groups (drop l.at-index l.places)))
