-- The slots of groups that are judged fine stand whole where they are written, with their byte 1: a slot's item is its record.
use Prim.Native.Nat.{ℕ, zero, suc, ◌+◌, ◌-◌, ◌*◌, ◌≤◌, ◌<◌}
use native.Mathlib.Nat.{suc-mul}
use native.Mathlib.Numerals.{add-one}
use native.Mathlib.Omega.{arith}
use mathlib.Core.Path.{◌≡◌, refl, sym, ap, ◌∙◌}
use mathlib.Core.Bool.{Bool, true, false, cond}
use mathlib.Core.List.{List, [], ◌∷◌, ◌++◌, map, flatten}
use lib.Dec.{eqb}
use lib.ListN.{length, get_or, take, drop, length-append, length-drop, drop_of_length-le}
use lib.Seq.{sets, drop-cons, length-take-le}
use borrow.Author.Tests.{eqb-true, eqb-false}
use Rattle.wire.specs.Wire.{le_at}
use Rattle.wire.proofs.Laws.{sets-append}
use Rattle.ray_tracing.specs.Groups.{GroupItem, slot, named, Slot, item_of, item_size, items_of, group_count, group_at, group_of, open_item, open_items, open_below, open_group, slots_of, slot_record, fine, judge_items, judge_groups}
use Rattle.ray_tracing.specs.Claim.{Each}
use Rattle.ray_tracing.proofs.Groups.{FineItems}
use Rattle.groups_judge.proofs.Laws.{size-slot, item-inside, item_earlier, items_first, items_next, fine_groups}
use Rattle.groups.specs.Items.{items_at, Within}

-- ---- what holds of every slot that is written holds of every slot that is opened

module _ {A : Type 0} (P : A → Type 0) where
  each_append : (xs ys : List A) → Each P xs → Each P ys → Each P (xs ++ ys)
  each_append [] ys a b = b
  each_append (x ∷ xs) ys a b = (a.0, each_append xs ys a.1 b)

  items_each :
      (lower : ℕ → List A) → ((h : ℕ) → Each P (lower h)) → (g : ℕ) (xs : List (GroupItem A)) → FineItems P g xs → Each P (open_items lower xs)
  unfolding open_items open_item
  items_each lower l g [] e = tt
  items_each lower l g (slot x ∷ xs) e = (e.0, items_each lower l g xs e.1)
  items_each lower l g (named h ∷ xs) e = each_append (lower h) (open_items lower xs) (l h) (items_each lower l g xs e.1)

  module _ (c : ℕ → List (GroupItem A)) where
    below_each : (n : ℕ) → ((g : ℕ) → g < n → FineItems P g (c g)) → (h : ℕ) → Each P (open_below c n h)
    unfolding open_below
    below_each zero e h = tt
    below_each (suc n) e h =
        go (eqb h n) (items_each (open_below c n) (below_each n (λ g l. e g (omega arith))) n (c n) (e n (omega arith)))
        (below_each n (λ g l. e g (omega arith)) h)
      where
        go :
            (b : Bool)
            → Each P (open_items (open_below c n) (c n))
            → Each P (open_below c n h)
            → Each P (cond b (open_items (open_below c n) (c n)) (open_below c n h))
        go true x y = x
        go false x y = y

    pub group-each : (g : ℕ) → ((k : ℕ) → k ≤ g → FineItems P k (c k)) → Each P (open_group c g)
    unfolding open_group
    group-each g e = items_each (open_below c g) (below_each g (λ k l. e k (omega arith))) g (c g) (e g (omega arith))

-- ---- a slot's item

-- it begins at a place, and is whole
pub record Stands (s : List ℕ) (at : ℕ) : Type 0 where
  pub byte : le_at 1 s at ≡ 1
  pub whole : at + 56 ≤ length s

-- an item is a slot or names a group
abbrev pub item_by : List ℕ → ℕ → ℕ → ℕ → Bool → GroupItem Slot
item_by s g i at b = cond b (slot (record { group = g; item = i; at = at })) (named (le_at 2 s (at + 1)))

module _ (s : List ℕ) where
  -- what judging says of the items of a group
  abbrev pub Judged : ℕ → List (GroupItem Slot) → Type 0
  Judged g xs = FineItems (λ (x : Slot). Stands s x.at) g xs

  items_judged : (g n i at : ℕ) → judge_items s g n i at ≡ fine → Judged g (items_of s g n i at)
  unfolding items_of item_of
  items_judged g zero i at f = tt
  items_judged g (suc n) i at f =
      go (eqb (le_at 1 s at) 1) refl (items_judged g n (i + 1) (at + item_size s at) (items_next s g n i at f))
    where
      go :
          (b : Bool)
          → eqb (le_at 1 s at) 1 ≡ b
          → Judged g (items_of s g n (i + 1) (at + item_size s at))
          → Judged g (item_by s g i at b ∷ items_of s g n (i + 1) (at + item_size s at))
      go true e rest =
          let one = eqb-true (le_at 1 s at) 1 e in
          let w = item-inside s g i at (items_first s g n i at f) in
          (record { byte = one; whole = omega (arith, w, size-slot s at one) }, rest)
      go false e rest = (item_earlier s g i at (items_first s g n i at f) (eqb-false (le_at 1 s at) 1 e), rest)

  pub group_judged : judge_groups s ≡ fine → (g : ℕ) → g < group_count s → Judged g (group_of s g)
  unfolding group_of
  group_judged f g l = items_judged g (le_at 2 s (group_at s g)) 0 (group_at s g + 2) ((fine_groups s f).groups g l).items

  pub slots_stand : judge_groups s ≡ fine → Each (λ (x : Slot). Stands s x.at) (slots_of s)
  unfolding slots_of
  slots_stand f =
      group-each (λ (x : Slot). Stands s x.at) (group_of s) (group_count s - 1)
      (λ k l. group_judged f k (omega (arith, (fine_groups s f).some)))

  -- the record is the item's bytes
  pub record_is : (x : Slot) → Stands s x.at → slot_record s x ≡ take 56 (drop x.at s)
  unfolding slot_record le_at
  record_is x t =
      let e : get_or s x.at 0 ≡ 1 = omega (arith, t.byte) in
      ap (λ (n : ℕ). 1 ∷ take 55 (drop n s)) (add-one x.at)
      ∙ ap (λ (v : ℕ). v ∷ take 55 (drop (suc x.at) s)) (sym e)
      ∙ ap (take 56) (sym (drop-cons s x.at 0 (omega (arith, t.whole))))

  pub part_length : (n at : ℕ) → at + n ≤ length s → length (take n (drop at s)) ≡ n
  part_length n at h = length-take-le n (drop at s) (omega (arith, length-drop at s))

  pub records_are :
      (xs : List Slot)
      → Each (λ (x : Slot). Stands s x.at) xs
      → flatten (map (slot_record s) xs) ≡ items_at s (map (λ (x : Slot). x.at) xs)
  unfolding items_at flatten
  records_are [] t = refl
  records_are (x ∷ xs) t = λ i. record_is x t.0 i ++ records_are xs t.1 i

  pub records_length :
      (xs : List Slot)
      → Each (λ (x : Slot). Stands s x.at) xs
      → length (flatten (map (slot_record s) xs)) ≡ length xs * 56
  unfolding flatten
  records_length [] t = refl
  records_length (x ∷ xs) t =
      omega (
        arith,
        length-append (slot_record s x) (flatten (map (slot_record s) xs)),
        ap length (record_is x t.0) ∙ part_length 56 x.at t.0.whole,
        records_length xs t.1,
        suc-mul (length xs) 56,
      )

  pub within : (xs : List Slot) → Each (λ (x : Slot). Stands s x.at) xs → Within s (map (λ (x : Slot). x.at) xs)
  within [] t k h = absurd (omega (arith, h))
  within (x ∷ xs) t zero h = t.0.whole
  within (x ∷ xs) t (suc k) h = within xs t.1 k (omega (arith, h))

-- ---- items copied one behind the other

pub put_next :
    (s places out : List ℕ) (to k : ℕ)
    → k < length places
    → get_or places k 0 + 56 ≤ length s
    → sets (sets out to (take 56 (drop (get_or places k 0) s))) (to + 56) (items_at s (drop (k + 1) places)) ≡
    sets out to (items_at s (drop k places))
unfolding items_at flatten
put_next s places out to k h w =
    let item = take 56 (drop (get_or places k 0) s) in
    let rest = items_at s (drop (k + 1) places) in
    let next : to + 56 ≡ to + length item = omega (arith, part_length s 56 (get_or places k 0) w) in
    ap (λ (m : ℕ). sets (sets out to item) m rest) next
    ∙ sets-append item rest out to
    ∙ ap (λ (m : ℕ). sets out to (item ++ items_at s (drop m places))) (add-one k)
    ∙ ap (λ (l : List ℕ). sets out to (items_at s l)) (sym (drop-cons places k 0 h))

pub put_done : (s places out : List ℕ) (to k : ℕ) → length places ≤ k → sets out to (items_at s (drop k places)) ≡ out
unfolding items_at flatten
put_done s places out to k h = rw (drop_of_length-le places h)
