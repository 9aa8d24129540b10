-- What is claimed of opened groups: the definition is the plain recursion; slots alone are what is written; a named group may as well be
-- typed out. Over any kind of slot: where it is written, or its bytes.
use Prim.Native.Nat.{ℕ, zero, suc, ◌-◌, ◌<◌, ◌≤◌}
use native.Mathlib.Nat.{not-suc-le-zero}
use native.Mathlib.Omega.{arith}
use mathlib.Core.Path.{◌≡◌, refl, sym, ap, ◌∙◌}
use mathlib.Core.Bool.{Bool, true, false, cond}
use mathlib.Core.List.{List, [], ◌∷◌, ◌++◌, map, flatten, append_assoc, map-append}
use lib.Dec.{eqb}
use lib.ListN.{length, replicate}
use lib.Seq.{sets}
use borrow.Author.Tests.{eqb-true, eqb-false}
use Rattle.wire.specs.Wire.{le_at, le_bytes}
use Rattle.ray_tracing.specs.Reading.{judge_fields}
use Rattle.ray_tracing.specs.Groups.{GroupItem, slot, named, item_of, item_size, items_of, past_items, group_count, group_at, group_of, open_item, open_items, open_below, open_group, slots_of, slot_record, slot_records, Finding, fine, refused, judge_item, judge_items, judge_group, judge_from, judge_groups, judge_opening, opened, unopened, after_judging, open_rule, opening_leaves, OpensGroups}

module _ {A : Type 0} where
  pub items_append :
      (lower : ℕ → List A) (xs ys : List (GroupItem A)) → open_items lower (xs ++ ys) ≡ open_items lower xs ++ open_items lower ys
  unfolding open_items
  items_append lower [] ys = refl
  items_append lower (x ∷ xs) ys =
      ap (λ (l : List A). open_item lower x ++ l) (items_append lower xs ys) ∙ sym (append_assoc (open_item lower x) (open_items lower xs) (open_items lower ys))

  -- items of group g: each slot is as P has it, and each group that they name is before group g
  abbrev pub FineItems : (A → Type 0) → ℕ → List (GroupItem A) → Type 0
  FineItems P g [] = Unit
  FineItems P g (slot x ∷ xs) = P x × FineItems P g xs
  FineItems P g (named h ∷ xs) = (h < g) × FineItems P g xs

  module _ (c : ℕ → List (GroupItem A)) where
    -- how many groups there are below a number does not matter to those that are
    pub below-is : (g h : ℕ) → h < g → open_below c g h ≡ open_group c h
    unfolding open_group open_below
    below-is zero h l = absurd (not-suc-le-zero l)
    below-is (suc g) h l = go (eqb h g) refl (below-is g h)
      where
        go : (b : Bool) → eqb h g ≡ b → (h < g → open_below c g h ≡ open_group c h) → cond b (open_items (open_below c g) (c g)) (open_below c g h) ≡ open_items (open_below c h) (c h)
        go true p rec = ap (λ (k : ℕ). open_items (open_below c k) (c k)) (sym (eqb-true h g p))
        go false p rec = let d = eqb-false h g p in rec (omega arith)

    items-earlier :
        (P : A → Type 0) (g : ℕ) (xs : List (GroupItem A)) → FineItems P g xs → open_items (open_below c g) xs ≡ open_items (open_group c) xs
    unfolding open_items open_item
    items-earlier P g [] e = refl
    items-earlier P g (slot x ∷ xs) e = ap (λ (l : List A). x ∷ l) (items-earlier P g xs e.1)
    items-earlier P g (named h ∷ xs) e = λ i. below-is g h e.0 i ++ items-earlier P g xs e.1 i

    -- "Opening a group and opening an item call on each other": a group is its items opened, each by opening the group that it names
    pub opens-plainly : (P : A → Type 0) (g : ℕ) → FineItems P g (c g) → open_group c g ≡ open_items (open_group c) (c g)
    unfolding open_group
    opens-plainly P g e = items-earlier P g (c g) e

  -- "a card of one group with slots only gives those slots": any group
  only_slots : (lower : ℕ → List A) (xs : List A) → open_items lower (map slot xs) ≡ xs
  unfolding open_items open_item
  only_slots lower [] = refl
  only_slots lower (x ∷ xs) = ap (λ (l : List A). x ∷ l) (only_slots lower xs)

  pub slots_only : (c : ℕ → List (GroupItem A)) (g : ℕ) (xs : List A) → c g ≡ map slot xs → open_group c g ≡ xs
  unfolding open_group
  slots_only c g xs e = ap (open_items (open_below c g)) e ∙ only_slots (open_below c g) xs

  -- "replacing a named group by its items opened gives the same slots": in group g, of the groups before `top`
  module _ (c d : ℕ → List (GroupItem A)) (top g h : ℕ) (xs ys : List (GroupItem A)) (earlier : h < g)
      (named-there : c g ≡ xs ++ (named h ∷ ys)) (typed-out : d g ≡ xs ++ (map slot (open_group c h) ++ ys))
      (others : (k : ℕ) → k < top → (k ≡ g → ⊥) → d k ≡ c k) where
    here : (lower : ℕ → List A) → lower h ≡ open_group c h → open_items lower (d g) ≡ open_items lower (c g)
    unfolding open_items open_item
    here lower e =
        ap (open_items lower) typed-out
        ∙ items_append lower xs (map slot (open_group c h) ++ ys)
        ∙ ap (λ (l : List A). open_items lower xs ++ l)
        (items_append lower (map slot (open_group c h)) ys
        ∙ ap (λ (l : List A). l ++ open_items lower ys) (only_slots lower (open_group c h) ∙ sym e))
        ∙ sym (items_append lower xs (named h ∷ ys))
        ∙ ap (open_items lower) (sym named-there)

    group-kept :
        (lower : ℕ → List A) (k : ℕ) → k < top → (k ≡ g → lower h ≡ open_group c h) → open_items lower (d k) ≡ open_items lower (c k)
    group-kept lower k l e = go (eqb k g) refl
      where
        go : (b : Bool) → eqb k g ≡ b → open_items lower (d k) ≡ open_items lower (c k)
        go true p =
            let q = eqb-true k g p in
            ap (λ (j : ℕ). open_items lower (d j)) q ∙ here lower (e q) ∙ ap (λ (j : ℕ). open_items lower (c j)) (sym q)
        go false p = ap (open_items lower) (others k l (eqb-false k g p))

    below-kept : (n : ℕ) → n ≤ top → open_below d n ≡ open_below c n
    unfolding open_below
    below-kept zero l = refl
    below-kept (suc n) l = go (below-kept n (omega (arith, l)))
      where
        go : open_below d n ≡ open_below c n → open_below d (suc n) ≡ open_below c (suc n)
        go rec =
            let items : open_items (open_below d n) (d n) ≡ open_items (open_below c n) (c n) =
            ap (λ (r : ℕ → List A). open_items r (d n)) rec
            ∙ group-kept (open_below c n) n (omega (arith, l)) (λ e. below-is c n h (omega (arith, e))) in
            λ i k. cond (eqb k n) (items i) (rec i k)

    pub replaced : (k : ℕ) → k < top → open_group d k ≡ open_group c k
    unfolding open_group
    replaced k l =
        ap (λ (r : ℕ → List A). open_items r (d k)) (below-kept k (omega (arith, l)))
        ∙ group-kept (open_below c k) k l (λ e. below-is c k h (omega (arith, e)))

-- an item with its slot seen otherwise
abbrev pub item_with : {A B : Type 0} → (A → B) → GroupItem A → GroupItem B
item_with f (slot x) = slot (f x)
item_with f (named h) = named h

module _ {A B : Type 0} (f : A → B) where
  item-map : (lower : ℕ → List A) (x : GroupItem A) → open_item (λ (h : ℕ). map f (lower h)) (item_with f x) ≡ map f (open_item lower x)
  unfolding open_item
  item-map lower (slot x) = refl
  item-map lower (named h) = refl

  items_map : (lower : ℕ → List A) (xs : List (GroupItem A)) → open_items (λ (h : ℕ). map f (lower h)) (map (item_with f) xs) ≡ map f (open_items lower xs)
  unfolding open_items
  items_map lower [] = refl
  items_map lower (x ∷ xs) =
      (λ i. item-map lower x i ++ items_map lower xs i) ∙ sym (map-append f (open_item lower x) (open_items lower xs))

  pick_map :
      (b : Bool) (v w : List A) {x y : List B} → x ≡ map f v → y ≡ map f w → cond b x y ≡ map f (cond b v w)
  pick_map true v w p q = p
  pick_map false v w p q = q

  module _ (c : ℕ → List (GroupItem A)) where
    below-map : (n : ℕ) → open_below (λ (g : ℕ). map (item_with f) (c g)) n ≡ (λ (h : ℕ). map f (open_below c n h))
    unfolding open_below
    below-map zero = refl
    below-map (suc n) = go (below-map n)
      where
        go : open_below (λ (g : ℕ). map (item_with f) (c g)) n ≡ (λ (h : ℕ). map f (open_below c n h)) → open_below (λ (g : ℕ). map (item_with f) (c g)) (suc n) ≡ (λ (h : ℕ). map f (open_below c (suc n) h))
        go rec =
            let items = ap (λ (l : ℕ → List B). open_items l (map (item_with f) (c n))) rec ∙ items_map (open_below c n) (c n) in
            λ i h. pick_map (eqb h n) (open_items (open_below c n) (c n)) (open_below c n h) items (λ j. rec j h) i

    -- what a slot is seen as does not matter to opening
    pub group-map : (g : ℕ) → open_group (λ (k : ℕ). map (item_with f) (c k)) g ≡ map f (open_group c g)
    unfolding open_group
    group-map g = ap (λ (l : ℕ → List B). open_items l (map (item_with f) (c g))) (below-map g) ∙ items_map (open_below c g) (c g)

-- the groups by their slots' records
abbrev pub records_in : List ℕ → ℕ → List (GroupItem (List ℕ))
records_in s g = map (item_with (slot_record s)) (group_of s g)

-- the bytes that are written follow from those: two lists of groups that hold the same, however they are written, open to the same
pub by_records : (s : List ℕ) → slot_records s ≡ flatten (open_group (records_in s) (group_count s - 1))
unfolding slot_records slots_of
by_records s = ap flatten (sym (group-map (slot_record s) (group_of s) (group_count s - 1)))

-- "the whole card is judged first, (...) then 46, then 39"
pub judged_first : (s : List ℕ) (room n p g i : ℕ) → judge_groups s ≡ refused n p g i → open_rule s room ≡ unopened n p g i
unfolding open_rule judge_opening
judged_first s room n p g i e = rw e

-- a call that is not refused wrote those records, and nothing else
module _ (s out : List ℕ) (m : ℕ) (p : List ℕ) where
  pub opened-wrote : OpensGroups s out (opened m) p → (m ≡ length (slot_records s)) × (p ≡ sets out 0 (slot_records s))
  unfolding open_rule
  opened-wrote call = go (judge_opening s (length out)) call.answer call.left
    where
      go :
          (j : Finding)
          → opened m ≡ after_judging j (length (slot_records s))
          → p ≡ opening_leaves (after_judging j (length (slot_records s))) (slot_records s) out
          → (m ≡ length (slot_records s)) × (p ≡ sets out 0 (slot_records s))
      go fine e l = (let q : m ≡ length (slot_records s) = cc in q, l)
      go (refused n a g i) e l = let z : ◌≡◌ {A = ℕ} 0 1 = cc in absurd (omega arith)

-- "A house of 512 slots is four bays of the same rows, typed out": two slots, and a group that names them twice with a slot between
module _ where
  abbrev written : List ℕ
  written =
      le_bytes 2 2
      ++ (le_bytes 2 2
      ++ ((1 ∷ replicate 55 7)
      ++ ((1 ∷ replicate 55 8)
      ++ (le_bytes 2 3 ++ ((2 ∷ le_bytes 2 0) ++ ((1 ∷ replicate 55 9) ++ (2 ∷ le_bytes 2 0)))))))

  pub example :
      (open_rule written 280 ≡ opened 280) × (slot_records written ≡ flatten (map (λ (v : ℕ). 1 ∷ replicate 55 v) (7 ∷ 8 ∷ 9 ∷ 7 ∷ 8 ∷ [])))
  unfolding
      le_at le_bytes open_rule judge_opening slot_records slots_of slot_record open_group open_below open_items open_item group_of group_at items_of past_items item_of item_size judge_groups judge_from judge_group judge_items judge_item judge_fields flatten
  example = (refl, refl)
