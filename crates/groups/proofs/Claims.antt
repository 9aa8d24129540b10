-- What is claimed of groups that are judged fine, and of calls that are not refused: each group is its items opened in turn; each opens to a
-- slot at least, so that few calls reach the 513th; where there is one group, what is written is the bytes behind the two counts; what is
-- written is read as slots; a named group may as well be typed out.
use Prim.Native.Nat.{ℕ, zero, suc, ◌+◌, ◌-◌, ◌≤◌, ◌<◌}
use native.Mathlib.Nat.{add-zero, not-suc-le-zero}
use native.Mathlib.Omega.{arith}
use mathlib.Core.Path.{◌≡◌, refl, sym, ap, ◌∙◌}
use mathlib.Core.Bool.{Bool, true, false, cond}
use mathlib.Core.List.{List, [], ◌∷◌, ◌++◌, map, flatten, append-nil, append_assoc}
use lib.Dec.{eqb}
use lib.ListN.{length, drop, length-append, length-map, take-append-drop}
use lib.Seq.{sets, drop-drop, drop-length}
use borrow.Author.Tests.{eqb-true, eqb-false}
use Rattle.wire.specs.Wire.{le_at}
use Rattle.wire.proofs.Laws.{le_append_left, le_append_right, le_drop, le_take}
use Rattle.ray_tracing.specs.Layout.{Seen, layout}
use Rattle.ray_tracing.specs.Reading as reading
use Rattle.ray_tracing.specs.Groups.{GroupItem, slot, named, Slot, item_of, item_size, items_of, past_items, group_count, group_at, group_of, open_item, open_items, open_below, open_group, slots_of, slot_record, slot_records, Finding, fine, refused, judge_items, judge_groups, opened, OpensGroups}
use Rattle.ray_tracing.specs.Claim.{Each}
use Rattle.ray_tracing.proofs.Groups.{opens-plainly, replaced, records_in, by_records, judged_first, opened-wrote}
use Rattle.groups_judge.proofs.Laws.{size-slot, item-inside, item_earlier, items_first, items_next, fine_groups}
use Rattle.groups_judge.proofs.Steps.{then_nothing, slot-there, slot-as-record}
use Rattle.groups.proofs.Slots.{Stands, item_by, Judged, group_judged, slots_stand, record_is, part_length}

module _ (s : List ℕ) where
  -- "Opening a group and opening an item call on each other until only slots are left, in written order"
  pub judged_plainly :
      judge_groups s ≡ fine → (g : ℕ) → g < group_count s → open_group (group_of s) g ≡ open_items (open_group (group_of s)) (group_of s g)
  judged_plainly f g l = opens-plainly (group_of s) (λ (x : Slot). Stands s x.at) g (group_judged s f g l)

  -- where every lower group has a slot, so have items
  items_some :
      (lower : ℕ → List Slot) (g : ℕ) (xs : List (GroupItem Slot))
      → 1 ≤ length xs
      → Judged s g xs
      → ((h : ℕ) → h < g → 1 ≤ length (lower h))
      → 1 ≤ length (open_items lower xs)
  unfolding open_items open_item
  items_some lower g [] l e some = absurd (omega (arith, l))
  items_some lower g (slot x ∷ xs) l e some = omega arith
  items_some lower g (named h ∷ xs) l e some = omega (arith, some h e.0, length-append (lower h) (open_items lower xs))

  items_there : (g n i at : ℕ) → 1 ≤ n → 1 ≤ length (items_of s g n i at)
  unfolding items_of
  items_there g zero i at l = absurd (omega (arith, l))
  items_there g (suc n) i at l = omega arith

  module _ (f : judge_groups s ≡ fine) where
    group-some :
        (lower : ℕ → List Slot) (g : ℕ)
        → g < group_count s
        → ((h : ℕ) → h < g → 1 ≤ length (lower h))
        → 1 ≤ length (open_items lower (group_of s g))
    unfolding group_of
    group-some lower g l some =
        items_some lower g (group_of s g)
        (items_there g (le_at 2 s (group_at s g)) 0 (group_at s g + 2) ((fine_groups s f).groups g l).some)
        (group_judged s f g l) some

    below-some : (n : ℕ) → n ≤ group_count s → (h : ℕ) → h < n → 1 ≤ length (open_below (group_of s) n h)
    unfolding open_below
    below-some zero l h k = absurd (not-suc-le-zero k)
    below-some (suc n) l h k =
        let some = below-some n (omega (arith, l)) in
        go (eqb h n) refl (group-some (open_below (group_of s) n) n (omega (arith, l)) some) (some h)
      where
        go :
            (b : Bool)
            → eqb h n ≡ b
            → 1 ≤ length (open_items (open_below (group_of s) n) (group_of s n))
            → (h < n → 1 ≤ length (open_below (group_of s) n h))
            → 1 ≤ length (cond b (open_items (open_below (group_of s) n) (group_of s n)) (open_below (group_of s) n h))
        go true e x y = x
        go false e x y = let d = eqb-false h n e in y (omega (arith, k))

    -- "every group opens to at least one slot"
    pub each_opens : (g : ℕ) → g < group_count s → 1 ≤ length (open_group (group_of s) g)
    unfolding open_group
    each_opens g l =
        group-some (open_below (group_of s) g) g l (below-some g (omega (arith, l)))

  -- the items of the first group are slots, and their records are the bytes that stand there
  first_items :
      (lower : ℕ → List Slot) (n i at : ℕ)
      → judge_items s 0 n i at ≡ fine
      → flatten (map (slot_record s) (open_items lower (items_of s 0 n i at))) ++ drop (past_items s n at) s ≡ drop at s
  unfolding open_items open_item items_of item_of past_items flatten
  first_items lower zero i at f = refl
  first_items lower (suc n) i at f =
      go (eqb (le_at 1 s at) 1) refl (first_items lower n (i + 1) (at + item_size s at) (items_next s 0 n i at f))
    where
      go :
          (b : Bool)
          → eqb (le_at 1 s at) 1 ≡ b
          → flatten (map (slot_record s) (open_items lower (items_of s 0 n (i + 1) (at + item_size s at)))) ++ drop (past_items s n (at + item_size s at)) s ≡ drop (at + item_size s at) s
          → flatten (map (slot_record s) (open_item lower (item_by s 0 i at b) ++ open_items lower (items_of s 0 n (i + 1) (at + item_size s at)))) ++ drop (past_items s n (at + item_size s at)) s ≡ drop at s
      go true e rec =
          let one = eqb-true (le_at 1 s at) 1 e in
          let size = size-slot s at one in
          let w = item-inside s 0 i at (items_first s 0 n i at f) in
          let x : Slot = record { group = 0; item = i; at = at } in
          append_assoc (slot_record s x) _ _
          ∙ ap (λ (l : List ℕ). slot_record s x ++ l) (rec ∙ ap (λ (m : ℕ). drop (at + m) s) size ∙ sym (drop-drop 56 at s))
          ∙ ap (λ (l : List ℕ). l ++ drop 56 (drop at s)) (record_is s x (record { byte = one; whole = omega (arith, w, size) }))
          ∙ take-append-drop 56 (drop at s)
      go false e rec =
          absurd (not-suc-le-zero (item_earlier s 0 i at (items_first s 0 n i at f) (eqb-false (le_at 1 s at) 1 e)))

  -- "a card of one group with slots only gives those slots": a first group has no others, and the item of each is its record
  pub one-group : judge_groups s ≡ fine → group_count s ≡ 1 → slot_records s ≡ drop 4 s
  unfolding slot_records slots_of open_group group_of group_at
  one-group f one =
      let w = fine_groups s f in
      let items = first_items (open_below (group_of s) 0) (le_at 2 s 2) 0 4 (w.groups 0 (omega (arith, one))).items in
      let ends : past_items s (le_at 2 s 2) 4 ≡ length s = ap (group_at s) (sym one) ∙ w.ends in
      ap (λ (n : ℕ). flatten (map (slot_record s) (open_group (group_of s) (n - 1)))) one
      ∙ sym (append-nil _)
      ∙ ap (λ (l : List ℕ). flatten (map (slot_record s) (open_group (group_of s) 0)) ++ l) (sym (ap (λ (n : ℕ). drop n s) ends ∙ drop-length s))
      ∙ items

-- ---- "Slots are written as section 8's records"

-- 56 bytes that begin with a present byte 1
pub record Record (r : List ℕ) : Type 0 where
  pub present : le_at 1 r 0 ≡ 1
  pub size : length r ≡ 56

record_read :
    (c : Seen) (u : List ℕ) (at : ℕ)
    → at + 56 ≤ length u
    → le_at 1 u at ≡ 1
    → reading.judge_fields c u at (layout 8).fields ≡ reading.fine
unfolding reading.judge_records
record_read c u at h e =
    sym (then_nothing (reading.judge_fields c u at (layout 8).fields))
    ∙ slot-as-record u at (omega arith) e c
    ∙ slot-there u at h

records_read :
    (c : Seen) (rs : List (List ℕ)) (front : List ℕ)
    → Each Record rs
    → reading.judge_records c (layout 8).fields (front ++ flatten rs) (length front) (length rs) ≡ reading.fine
unfolding reading.judge_records flatten
records_read c [] front t = refl
records_read c (r ∷ rs) front t =
    let u = front ++ (r ++ flatten rs) in
    let first : le_at 1 u (length front) ≡ 1 =
    ap (le_at 1 u) (sym (add-zero (length front)))
    ∙ le_append_right 1 front (r ++ flatten rs) 0
    ∙ le_append_left 1 r (flatten rs) 0 (omega (arith, t.0.size))
    ∙ t.0.present in
    let whole : length front + 56 ≤ length u =
    omega (arith, length-append front (r ++ flatten rs), length-append r (flatten rs), t.0.size) in
    let past : length (front ++ r) ≡ length front + 56 = omega (arith, length-append front r, t.0.size) in
    rw (record_read c u (length front) whole first)
    (ap (λ (l : List ℕ). reading.judge_records c (layout 8).fields l (length front + 56) (length rs)) (sym (append_assoc front r (flatten rs)))
    ∙ ap (λ (n : ℕ). reading.judge_records c (layout 8).fields ((front ++ r) ++ flatten rs) n (length rs)) (sym past)
    ∙ records_read c rs (front ++ r) t.1)

stand_records : (s : List ℕ) (xs : List Slot) → Each (λ (x : Slot). Stands s x.at) xs → Each Record (map (slot_record s) xs)
stand_records s [] t = tt
stand_records s (x ∷ xs) t =
    let e = record_is s x t.0 in (
      record {
        present = ap (λ (l : List ℕ). le_at 1 l 0) e ∙ le_take 1 56 (drop x.at s) 0 (omega arith) ∙ le_drop 1 x.at s 0 ∙ ap (le_at 1 s) (add-zero x.at) ∙ t.0.byte;
        size = ap length e ∙ part_length s 56 x.at t.0.whole;
      },
      stand_records s xs t.1,
    )

pub read_as_slots :
    (s : List ℕ)
    → judge_groups s ≡ fine
    → (c : Seen)
    → reading.judge_records c (layout 8).fields (slot_records s) 0 (length (slots_of s)) ≡ reading.fine
unfolding slot_records
read_as_slots s f c =
    ap (reading.judge_records c (layout 8).fields (flatten (map (slot_record s) (slots_of s))) 0) (sym (length-map (slots_of s) (slot_record s)))
    ∙ records_read c (map (slot_record s) (slots_of s)) [] (stand_records s (slots_of s) (slots_stand s f))

-- ---- calls that are not refused

module _ (s out : List ℕ) (m : ℕ) (p : List ℕ) (call : OpensGroups s out (opened m) p) where
  pub opened-fine : judge_groups s ≡ fine
  opened-fine = go (judge_groups s) refl
    where
      go : (j : Finding) → judge_groups s ≡ j → j ≡ fine
      go fine e = refl
      go (refused n a g i) e =
          let r = call.answer ∙ judged_first s (length out) n a g i e in
          let z : ◌≡◌ {A = ℕ} 0 1 = cc in
          absurd (omega arith)

  -- "The last group is the house": its slots are what it wrote, and by plain recursion they are its items opened, each by opening the group
  -- that it names
  pub opens_the_last :
      (p ≡ sets out 0 (flatten (map (slot_record s) (open_group (group_of s) (group_count s - 1)))))
      × ((g : ℕ) → g < group_count s → open_group (group_of s) g ≡ open_items (open_group (group_of s)) (group_of s g))
  unfolding slot_records slots_of
  opens_the_last = ((opened-wrote s out m p call).1, judged_plainly s opened-fine)

-- "A house of 512 slots is four bays of the same rows, typed out": two calls on groups that are the same but for a named group that the
-- second types out wrote the same
pub opens_the_same :
    (s t : List ℕ) (g h : ℕ) (xs ys : List (GroupItem (List ℕ)))
    → h < g
    → records_in s g ≡ xs ++ (named h ∷ ys)
    → records_in t g ≡ xs ++ (map slot (open_group (records_in s) h) ++ ys)
    → ((k : ℕ) → k < group_count s → (k ≡ g → ⊥) → records_in t k ≡ records_in s k)
    → group_count t ≡ group_count s
    → (out : List ℕ) (m n : ℕ) (p q : List ℕ)
    → OpensGroups s out (opened m) p
    → OpensGroups t out (opened n) q
    → (m ≡ n) × (p ≡ q)
opens_the_same s t g h xs ys earlier named-there typed-out others same out m n p q a b =
    let some = (fine_groups s (opened-fine s out m p a)).some in
    let records : slot_records s ≡ slot_records t =
    by_records s
    ∙ ap flatten
    (sym (replaced (records_in s) (records_in t) (group_count s) g h xs ys earlier named-there typed-out others (group_count s - 1) (omega (arith, some)))
    ∙ ap (λ (k : ℕ). open_group (records_in t) (k - 1)) (sym same))
    ∙ sym (by_records t) in
    let u = opened-wrote s out m p a in
    let v = opened-wrote t out n q b in
    (u.0 ∙ ap length records ∙ sym v.0, u.1 ∙ ap (sets out 0) records ∙ sym v.1)
