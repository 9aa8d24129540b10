-- Groups of slots: "Add the row card: a u16 group count, at most 64, then per group a u16 item count and its items." Assumes nothing.
use Rattle.std.specs.Prelude.{ℕ, zero, suc, ◌+◌, ◌-◌, ◌≡◌, Bool, true, false, not, cond, length, take, drop, ltb, eqb, Result, Ok, Err}
use mathlib.Core.List.{List, [], ◌∷◌, ◌++◌, map, flatten}
use Rattle.std.proofs.lemmas.List.Edits.{sets}
use Rattle.wire.specs.Wire.{le_at}
use Rattle.ray_tracing.specs.declared.GroupsError.TheVariants as groups-error
use Rattle.ray_tracing.specs.declared.OpenGroupsError.{OpenGroupsError}
use Rattle.ray_tracing.specs.declared.OpenGroupsError.TheVariants as open-groups
use Rattle.ray_tracing.specs.Layout.{Field, layout, total}
use Rattle.ray_tracing.specs.Reading as reading
use Rattle.ray_tracing.specs.Causes.{sheet_number}

infixr 20 ◌and_then◌
-- What is written

-- "An item is a byte 1 and a slot's fields after its present byte, or a byte 2 and a u16 group number"
pub data GroupItem (A : Type 0) : Type 0 where
  slot : A → GroupItem A
  named : ℕ → GroupItem A

-- a slot as it is written: its group, its item there, and the byte at which its item begins
pub record Slot : Type 0 where
  pub group : ℕ
  pub item : ℕ
  pub at : ℕ

abbrev pub slot_fields : List Field
slot_fields = drop 1 (layout 8).fields

-- the item that begins at a byte is a slot
abbrev pub is_slot : List ℕ → ℕ → Bool
is_slot s at = eqb (le_at 1 s at) 1

-- item i of group g, which begins there; and its bytes
unfoldable pub item_of : List ℕ → ℕ → ℕ → ℕ → GroupItem Slot
item_of s g i at = cond (is_slot s at) (slot (record { group = g; item = i; at = at })) (named (le_at 2 s (at + 1)))

unfoldable pub item_size : List ℕ → ℕ → ℕ
item_size s at = 1 + cond (is_slot s at) (total slot_fields) 2

-- n items of group g end to end, from item i on; and where they end
unfoldable pub items_of : List ℕ → ℕ → ℕ → ℕ → ℕ → List (GroupItem Slot)
items_of s g zero i at = []
items_of s g (suc n) i at = item_of s g i at ∷ items_of s g n (i + 1) (at + item_size s at)

unfoldable pub past_items : List ℕ → ℕ → ℕ → ℕ
past_items s zero at = at
past_items s (suc n) at = past_items s n (at + item_size s at)

-- "a u16 group count"
abbrev pub group_count : List ℕ → ℕ
group_count s = le_at 2 s 0

-- "then per group a u16 item count and its items": where group g begins, the first behind the group count and each where the one before
-- ends; and its items
unfoldable pub group_at : List ℕ → ℕ → ℕ
group_at s zero = 2
group_at s (suc g) = past_items s (le_at 2 s (group_at s g)) (group_at s g + 2)

unfoldable pub group_of : List ℕ → ℕ → List (GroupItem Slot)
group_of s g = items_of s g (le_at 2 s (group_at s g)) 0 (group_at s g + 2)

-- Opening

-- "Opening a group and opening an item call on each other until only slots are left, in written order": an item, where `lower` opens the
-- groups; a group's items; and group h of those before group g, since no group names itself or a later one
unfoldable pub open_item : {A : Type 0} → (ℕ → List A) → GroupItem A → List A
open_item lower (slot x) = x ∷ []
open_item lower (named h) = lower h

unfoldable pub open_items : {A : Type 0} → (ℕ → List A) → List (GroupItem A) → List A
open_items lower [] = []
open_items lower (x ∷ xs) = open_item lower x ++ open_items lower xs

unfoldable pub open_below : {A : Type 0} → (ℕ → List (GroupItem A)) → ℕ → ℕ → List A
open_below groups zero h = []
open_below groups (suc g) h = cond (eqb h g) (open_items (open_below groups g) (groups g)) (open_below groups g h)

unfoldable pub open_group : {A : Type 0} → (ℕ → List (GroupItem A)) → ℕ → List A
open_group groups g = open_items (open_below groups g) (groups g)

-- "The last group is the house": its slots
unfoldable pub slots_of : List ℕ → List Slot
slots_of s = open_group (group_of s) (group_count s - 1)

-- a slot as a record of section 8: the present byte 1, and the fields after it
unfoldable pub slot_record : List ℕ → Slot → List ℕ
slot_record s x = 1 ∷ take (total slot_fields) (drop (x.at + 1) s)

unfoldable pub slot_records : List ℕ → List ℕ
slot_records s = flatten (map (slot_record s) (slots_of s))

-- Judging

-- nothing to refuse; or a refusal's number, its byte, and its "group and item as written, 0 where there is none"
pub data Finding : Type 0 where
  fine : Finding
  refused : ℕ → ℕ → ℕ → ℕ → Finding

abbrev pub at_byte : ℕ → ℕ → Finding
at_byte n place = refused n place 0 0

abbrev pub at_item : ℕ → ℕ → ℕ → Finding
at_item n g i = refused n 0 g i

abbrev pub found_when : Bool → Finding → Finding
found_when true j = j
found_when false j = fine

-- the first of two
abbrev pub ◌and_then◌ : Finding → Finding → Finding
◌and_then◌ fine j = j
◌and_then◌ (refused n p g i) j = refused n p g i

-- what a sheet's judge finds, at its byte
abbrev pub by_byte : reading.Judged → Finding
by_byte reading.fine = fine
by_byte (reading.refused n p) = at_byte n p

-- the number of a group, in item i of group g: "45 for (...) a group that names itself or a later one"
abbrev pub judge_name : List ℕ → ℕ → ℕ → ℕ → Finding
judge_name s g i at =
    found_when (ltb (length s) (at + 2)) (at_byte 2 at) and_then found_when (not (ltb (le_at 2 s at) g)) (at_item 45 g i)

-- "Card cut short, (...) another item byte: the sheet's 2, (...) and 5"; a slot's fields may have any values
unfoldable pub judge_item : List ℕ → ℕ → ℕ → ℕ → Finding
judge_item s g i at =
    found_when (ltb (length s) (at + 1)) (at_byte 2 at)
    and_then cond (is_slot s at) (by_byte (reading.judge_fields (reading.begin 0 [] false) s (at + 1) slot_fields))
    (cond (eqb (le_at 1 s at) 2) (judge_name s g i (at + 1)) (at_byte 5 at))

-- n items of group g, from item i on
unfoldable pub judge_items : List ℕ → ℕ → ℕ → ℕ → ℕ → Finding
judge_items s g zero i at = fine
judge_items s g (suc n) i at = judge_item s g i at and_then judge_items s g n (i + 1) (at + item_size s at)

-- group g, which begins at a byte: "45 for a (...) item count of 0"
unfoldable pub judge_group : List ℕ → ℕ → ℕ → Finding
judge_group s g at =
    found_when (ltb (length s) (at + 2)) (at_byte 2 at)
    and_then found_when (eqb (le_at 2 s at) 0) (at_item 45 g 0)
    and_then judge_items s g (le_at 2 s at) 0 (at + 2)

-- n groups, from group g on
unfoldable pub judge_from : List ℕ → ℕ → ℕ → Finding
judge_from s g zero = fine
judge_from s g (suc n) = judge_group s g (group_at s g) and_then judge_from s (g + 1) n

-- "the whole card is judged first, from the start on, 45 included": "over 64 groups", "45 for a group (...) count of 0", "bytes left over"
unfoldable pub judge_groups : List ℕ → Finding
judge_groups s =
    found_when (ltb (length s) 2) (at_byte 2 0)
    and_then found_when (ltb 64 (group_count s)) (at_byte 4 0)
    and_then found_when (eqb (group_count s) 0) (at_item 45 0 0)
    and_then judge_from s 0 (group_count s)
    and_then found_when (ltb (group_at s (group_count s)) (length s)) (at_byte 3 (group_at s (group_count s)))

-- "46 for a 513th slot of the house": where it is written
abbrev pub at_first : ℕ → List Slot → Finding
at_first n [] = fine
at_first n (x ∷ xs) = at_item n x.group x.item

abbrev pub judge_most : List Slot → Finding
judge_most xs = at_first 46 (drop 512 xs)

-- A call

-- how many bytes it wrote; or a refusal's number, byte, group and item
pub data Opening : Type 0 where
  opened : ℕ → Opening
  unopened : ℕ → ℕ → ℕ → ℕ → Opening

-- what the code's answer says
abbrev pub opening_of : Result ℕ OpenGroupsError → Opening
opening_of (Ok n) = opened n
opening_of (Err (open-groups.Invalid (groups-error.Malformed r))) = unopened (sheet_number r.error) r.place 0 0
opening_of (Err (open-groups.Invalid (groups-error.InvalidGroup g i))) = unopened 45 0 g i
opening_of (Err (open-groups.TooManySlots g i)) = unopened 46 0 g i
opening_of (Err open-groups.OutputTooShort) = unopened 39 0 0 0

abbrev pub after_judging : Finding → ℕ → Opening
after_judging fine n = opened n
after_judging (refused n p g i) m = unopened n p g i

-- "the whole card is judged first, (...) then 46, then 39"
unfoldable pub judge_opening : List ℕ → ℕ → Finding
judge_opening s room =
    judge_groups s
    and_then judge_most (slots_of s)
    and_then found_when (ltb room (length (slot_records s))) (at_byte 39 0)

unfoldable pub open_rule : List ℕ → ℕ → Opening
open_rule s room = after_judging (judge_opening s room) (length (slot_records s))

-- "nothing written"; past what is written the bytes out are kept
abbrev pub opening_leaves : Opening → List ℕ → List ℕ → List ℕ
opening_leaves (opened n) text out = sets out 0 text
opening_leaves (unopened n p g i) text out = out

-- a call that is to open the groups s into the bytes out: it answered a, by what it says of that, and left p
pub record OpensGroupsAs {A : Type 0} (says : Opening → A) (s out : List ℕ) (a : A) (p : List ℕ) : Type 0 where
  pub answer : a ≡ says (open_rule s (length out))
  pub left : p ≡ opening_leaves (open_rule s (length out)) (slot_records s) out

-- it answered a itself
abbrev pub OpensGroups : List ℕ → List ℕ → Opening → List ℕ → Type 0
OpensGroups s out a p = OpensGroupsAs (λ r. r) s out a p
