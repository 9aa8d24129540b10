-- `groups_open::open_group` and `groups_open::open_item` meet their contracts. Opening group g measures 2 g + 1 and opening an item of it
-- 2 g: the item's group is its own, and the group that it names is before it. The loop's invariant: the items left, opened after `total`
-- slots, give what the whole group was to give. Assumes nothing.
use Rattle.std.proofs.Common.{◌*◌, ◌+◌, ◌≤◌}
use Rattle.groups_open.proofs.Laws.{Rest, LeftFine}
use Rattle.groups_open.proofs.+open_group_open_item.Given as goal

abbrev pub decreases-open_group : goal.decreases-open_group
decreases-open_group l = 2 * l.group + 1

abbrev pub decreases-open_item : goal.decreases-open_item
decreases-open_item l = 2 * l.group

abbrev pub invariant-open_group-loop-i : goal.invariant-open_group-loop-i
invariant-open_group-loop-i l =
    (l.total ≤ 512)
    × LeftFine l.groups l.group l.count l.at l.i
    × Rest l.groups l.group l.count l.n l.initial.places l.places l.total l.at l.i
