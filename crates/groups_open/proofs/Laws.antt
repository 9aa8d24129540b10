-- Laws of counting and placing slots, and of the groups that are judged fine. Assumes nothing.
use Rattle.std.specs.Prelude.{Result, Ok, Err}
use Prim.Native.Nat.{ℕ, suc, ◌+◌, ◌-◌, ◌≤◌, ◌<◌}
use native.Mathlib.Omega.{arith}
use mathlib.Core.Path.{◌≡◌, refl, sym, ap, ◌∙◌, subst}
use mathlib.Core.Bool.{Bool, true, false, cond}
use mathlib.Core.List.{List, [], ◌∷◌, ◌++◌, map, map-append}
use lib.Dec.{ltb}
use lib.ListN.{length, get_or, set, take, drop, length-map}
use lib.Seq.{sets, sets-eq, take_all, take_at, drop-nil, take-append-le, take-append-add}
use borrow.Author.Tests.{lt-ltb, le-ltb, ltb-true, ltb-false}
use Rattle.wire.specs.Wire.{le_at}
use Rattle.wire.proofs.Laws.{sets-append}
use Rattle.ray_tracing.specs.Groups as groups
use Rattle.ray_tracing.specs.Groups.{Slot, item_of, item_size, items_of, group_at, group_of, open_item, open_items, open_below, open_group, fine, at_item, at_first, judge_item, judge_items, judge_most}
use Rattle.groups_judge.proofs.Laws.{items_first, items_next, FineGroup, fine_groups}
use Rattle.groups_open.proofs.Opening.{item-slot, item-named, items_more, items_none, group_items}
use Rattle.groups_open.specs.declared.Full.{Full}
use Rattle.groups_open.specs.Places.{counted, placed, JudgedFine}

-- Counted

under : {A : Type 0} (n m : ℕ) (a b : A) → n < m → cond (ltb n m) a b ≡ a
under n m a b h = rw (lt-ltb n m h)

over : {A : Type 0} (n m : ℕ) (a b : A) → m ≤ n → cond (ltb n m) a b ≡ b
over n m a b h = rw (le-ltb n m h)

-- a slot, where there is room for it; and where there is none
module _ (n : ℕ) (x : Slot) (xs : List Slot) where
  counted_next : n < 512 → counted n (x ∷ xs) ≡ counted (n + 1) xs
  unfolding counted
  counted_next h = under n _ _ _ (omega (arith, h))

  counted_last : 512 ≤ n → counted n (x ∷ xs) ≡ Err (record { group = x.group; item = x.item })
  unfolding counted
  counted_last h = over n _ _ _ (omega (arith, h))

by_room : {A : Type 0} (n : ℕ) → (n < 512 → A) → (512 ≤ n → A) → A
by_room {A} n f g = go (ltb n 512) refl
  where
    go : (b : Bool) → ltb n 512 ≡ b → A
    go true e = f (ltb-true n 512 e)
    go false e = g (ltb-false n 512 e)

abbrev then : Result ℕ Full → List Slot → Result ℕ Full
then (Ok k) xs = counted k xs
then (Err f) xs = Err f

counted-append : (n : ℕ) (xs ys : List Slot) → counted n (xs ++ ys) ≡ then (counted n xs) ys
unfolding counted
counted-append n [] ys = refl
counted-append n (x ∷ xs) ys =
    by_room n
    (λ h. counted_next n x (xs ++ ys) h ∙ counted-append (n + 1) xs ys ∙ ap (λ (r : Result ℕ Full). then r ys) (sym (counted_next n x xs h)))
    (λ h. counted_last n x (xs ++ ys) h ∙ ap (λ (r : Result ℕ Full). then r ys) (sym (counted_last n x xs h)))

module _ (n : ℕ) (xs ys : List Slot) where
  pub counted_then : (k : ℕ) → counted n xs ≡ Ok k → counted n (xs ++ ys) ≡ counted k ys
  counted_then k e = counted-append n xs ys ∙ ap (λ (r : Result ℕ Full). then r ys) e

  pub counted_stop : (f : Full) → counted n xs ≡ Err f → counted n (xs ++ ys) ≡ Err f
  counted_stop f e = counted-append n xs ys ∙ ap (λ (r : Result ℕ Full). then r ys) e

pub counted-all : (n k : ℕ) (xs : List Slot) → n ≤ 512 → counted n xs ≡ Ok k → (k ≡ n + length xs) × (k ≤ 512)
unfolding counted
counted-all n k [] h e = let q : n ≡ k = cc in omega arith
counted-all n k (x ∷ xs) h e =
    by_room n
    (λ u. let w = counted-all (n + 1) k xs (omega (arith, u)) (sym (counted_next n x xs u) ∙ e) in omega (arith, w.0, w.1))
    (λ o. let z = counted_last n x xs o in cc)

-- the one that is too many is what `judge_most` finds
abbrev over_of : Result ℕ Full → groups.Finding
over_of (Ok k) = fine
over_of (Err f) = at_item 46 f.group f.item

counted-most : (n : ℕ) (xs : List Slot) → n ≤ 512 → at_first 46 (drop (512 - n) xs) ≡ over_of (counted n xs)
unfolding counted
counted-most n [] h = ap (at_first 46) (drop-nil (512 - n))
counted-most n (x ∷ xs) h =
    by_room n
    (λ u.
    let e : 512 - n ≡ suc (512 - (n + 1)) = omega (arith, u) in
    ap (λ (k : ℕ). at_first 46 (drop k (x ∷ xs))) e ∙ counted-most (n + 1) xs (omega (arith, u)) ∙ ap over_of (sym (counted_next n x xs u)))
    (λ o.
    let e : 512 - n ≡ 0 = omega (arith, o) in
    ap (λ (k : ℕ). at_first 46 (drop k (x ∷ xs))) e ∙ ap over_of (sym (counted_last n x xs o)))

pub counted_over : (xs : List Slot) (f : Full) → counted 0 xs ≡ Err f → judge_most xs ≡ at_item 46 f.group f.item
counted_over xs f e = counted-most 0 xs (omega arith) ∙ ap over_of e

pub counted-fine : (xs : List Slot) (k : ℕ) → counted 0 xs ≡ Ok k → judge_most xs ≡ fine
counted-fine xs k e = counted-most 0 xs (omega arith) ∙ ap over_of e

-- one too many fill what is left
counted_fills : (n : ℕ) (f : Full) (xs : List Slot) → counted n xs ≡ Err f → 512 - n ≤ length xs
unfolding counted
counted_fills n f [] e = cc
counted_fills n f (x ∷ xs) e =
    by_room n
    (λ u. let w = counted_fills (n + 1) f xs (sym (counted_next n x xs u) ∙ e) in omega (arith, w))
    (λ o. omega (arith, o))

-- Placed

abbrev places : List Slot → List ℕ
places xs = map (λ (x : Slot). x.at) xs

-- slots for which there is room
placed_these : (n : ℕ) (xs : List Slot) (out : List ℕ) → n + length xs ≤ 512 → placed n xs out ≡ sets out n (places xs)
unfolding placed
placed_these n xs out h = ap (λ (ys : List Slot). sets out n (places ys)) (take_all (512 - n) xs (omega (arith, h)))

pub placed-all : (xs : List Slot) (out : List ℕ) → length xs ≤ 512 → 512 ≤ length out
    → take (length xs) (placed 0 xs out) ≡ map (λ (x : Slot). x.at) xs
placed-all xs out h room =
    let size : length (places xs) ≡ length xs = length-map xs _ in
    ap (take (length xs)) (placed_these 0 xs out (omega arith) ∙ sets-eq (places xs) out 0 (omega (arith, size)))
    ∙ take_at (places xs) _ (length xs) size

placed_full : (n : ℕ) (xs : List Slot) (out : List ℕ) → 512 ≤ n → placed n xs out ≡ out
unfolding placed
placed_full n xs out h = let e : 512 - n ≡ 0 = omega arith in ap (λ (k : ℕ). sets out n (places (take k xs))) e

module _ (n : ℕ) (xs ys : List Slot) (out : List ℕ) where
  placed_then : (k : ℕ) → n ≤ 512 → counted n xs ≡ Ok k → placed n (xs ++ ys) out ≡ placed k ys (placed n xs out)
  unfolding placed
  placed_then k most e =
      let w = counted-all n k xs most e in
      let room : 512 - n ≡ length xs + (512 - k) = omega (arith, w.0, w.1) in
      let next : n + length (places xs) ≡ k = omega (arith, w.0, length-map xs (λ (x : Slot). x.at)) in
      ap (λ (m : ℕ). sets out n (places (take m (xs ++ ys)))) room
      ∙ ap (λ (l : List Slot). sets out n (places l)) (take-append-add xs ys (512 - k))
      ∙ ap (sets out n) (map-append _ xs (take (512 - k) ys))
      ∙ sym (sets-append (places xs) (places (take (512 - k) ys)) out n)
      ∙ ap (λ (m : ℕ). sets (sets out n (places xs)) m (places (take (512 - k) ys))) next
      ∙ ap (placed k ys) (sym (placed_these n xs out (omega (arith, w.0, w.1))))

  placed_stop : (f : Full) → counted n xs ≡ Err f → placed n (xs ++ ys) out ≡ placed n xs out
  unfolding placed
  placed_stop f e = ap (λ (l : List Slot). sets out n (places l)) (take-append-le (512 - n) xs ys (counted_fills n f xs e))

-- An item

-- what opening is to give, if it comes to these slots
abbrev pub Given : ℕ → List Slot → List ℕ → Result ℕ Full → List ℕ → Type 0
Given n xs out r after = (r ≡ counted n xs) × (after ≡ placed n xs out)

abbrev pub opened : List ℕ → ℕ → ℕ → ℕ → List Slot
opened s g i at = open_item (open_below (group_of s) g) (item_of s g i at)

module _ (s : List ℕ) (g i at n : ℕ) (out : List ℕ) where
  pub item_room : le_at 1 s at ≡ 1 → n < 512 → Given n (opened s g i at) out (Ok (n + 1)) (set out n at)
  unfolding counted
  item_room e h =
      let x : Slot = record { group = g; item = i; at = at } in
      let one = item-slot s g i at (open_below (group_of s) g) e in (
        sym (ap (counted n) one ∙ counted_next n x [] h),
        sym (ap (λ (l : List Slot). placed n l out) one ∙ placed_these n (x ∷ []) out (omega (arith, h))),
      )

  pub item_full : le_at 1 s at ≡ 1 → 512 ≤ n → Given n (opened s g i at) out (Err (record { group = g; item = i })) out
  item_full e h =
      let one = item-slot s g i at (open_below (group_of s) g) e in
      (sym (ap (counted n) one ∙ counted_last n _ [] h), sym (placed_full n _ out h))

  pub item-group : ¬ (le_at 1 s at ≡ 1) → (h : ℕ) → h ≡ le_at 2 s (at + 1) → h < g → (r : Result ℕ Full) (after : List ℕ)
      → Given n (open_group (group_of s) h) out r after → Given n (opened s g i at) out r after
  item-group f h e l r after (p, q) =
      let there : open_group (group_of s) h ≡ opened s g i at = ap (open_group (group_of s)) e ∙ sym (item-named s g i at (group_of s) f (omega (arith, e))) in
      (p ∙ ap (counted n) there, q ∙ ap (λ (l : List Slot). placed n l out) there)

-- The groups that are judged fine

-- the items of group g from item i on, where n are in it
module _ (s : List ℕ) (g n : ℕ) where
  abbrev pub left : ℕ → ℕ → List Slot
  left at i = open_items (open_below (group_of s) g) (items_of s g (n - i) i at)

  abbrev pub LeftFine : ℕ → ℕ → Type 0
  LeftFine at i = judge_items s g (n - i) i at ≡ fine

  pub fine-all : (start : ℕ) → FineGroup s g start → n ≡ le_at 2 s start → LeftFine (start + 2) 0
  fine-all start f e =
      let z : le_at 2 s start ≡ n - 0 = omega (arith, e) in
      subst (λ (k : ℕ). judge_items s g k 0 (start + 2) ≡ fine) z f.items

  module _ (at i : ℕ) (h : i < n) where
    one_left : n - i ≡ suc (n - (i + 1))
    one_left = omega arith

    module _ (f : LeftFine at i) where
      pub fine-first : judge_item s g i at ≡ fine
      fine-first = items_first s g (n - (i + 1)) i at (subst (λ (k : ℕ). judge_items s g k i at ≡ fine) one_left f)

      pub fine_more : (size : ℕ) → size ≡ item_size s at → LeftFine (at + size) (i + 1)
      fine_more size e =
          subst (λ (k : ℕ). LeftFine (at + k) (i + 1)) (sym e)
          (items_next s g (n - (i + 1)) i at (subst (λ (k : ℕ). judge_items s g k i at ≡ fine) one_left f))

pub group-fine : (s starts : List ℕ) (g : ℕ) → JudgedFine s starts → g < length starts → FineGroup s g (get_or starts g 0)
group-fine s starts g j h = subst (FineGroup s g) (sym (j.place g h)) ((fine_groups s j.fine).groups g (omega (arith, j.most)))

-- The loop over a group's items

module _ (s : List ℕ) (g count n : ℕ) (out₀ : List ℕ) where
  -- what is left, after `total` slots, gives what the whole group was to give
  pub record Rest (out : List ℕ) (total at i : ℕ) : Type 0 where
    pub answer : counted n (open_group (group_of s) g) ≡ counted total (left s g count at i)
    pub places : placed n (open_group (group_of s) g) out₀ ≡ placed total (left s g count at i) out

  pub rest_all : (start : ℕ) → start ≡ group_at s g → count ≡ le_at 2 s start → Rest out₀ n (start + 2) 0
  rest_all start p e =
      let z : le_at 2 s (group_at s g) ≡ count - 0 = omega (arith, e, ap (le_at 2 s) p) in
      let all : open_group (group_of s) g ≡ left s g count (start + 2) 0 =
      group_items s g ∙ (λ j. open_items (open_below (group_of s) g) (items_of s g (z j) 0 (sym p j + 2))) in
      record { answer = ap (counted n) all; places = ap (λ (l : List Slot). placed n l out₀) all }

  module _ (out : List ℕ) (total at i : ℕ) (rest : Rest out total at i) (most : total ≤ 512) where
    pub rest_none : count ≤ i → Given n (open_group (group_of s) g) out₀ (Ok total) out
    unfolding counted
    rest_none h =
        let none = items_none s g i at (open_below (group_of s) g) count h in (
          sym (rest.answer ∙ ap (counted total) none),
          sym (rest.places ∙ ap (λ (l : List Slot). placed total l out) none ∙ placed_these total [] out (omega (arith, most))),
        )

    module _ (h : i < count) (r : Result ℕ Full) (after : List ℕ) (given : Given total (opened s g i at) out r after) where
      more : left s g count at i ≡ opened s g i at ++ left s g count (at + item_size s at) (i + 1)
      more = items_more s g i at (open_below (group_of s) g) count h

      pub rest_more : (k size : ℕ) → size ≡ item_size s at → r ≡ Ok k → (k ≤ 512) × Rest after k (at + size) (i + 1)
      rest_more k size z told =
          let e = sym given.0 ∙ told in
          let there : left s g count (at + item_size s at) (i + 1) ≡ left s g count (at + size) (i + 1) = ap (λ (m : ℕ). left s g count (at + m) (i + 1)) (sym z) in (
            (counted-all total k _ most e).1,
            record {
              answer =
                  rest.answer ∙ ap (counted total) more ∙ counted_then total _ _ k e ∙ ap (counted k) there;
              places =
                  rest.places
                  ∙ ap (λ (l : List Slot). placed total l out) more
                  ∙ placed_then total _ _ out k most e
                  ∙ ap (placed k _) (sym given.1)
                  ∙ ap (λ (l : List Slot). placed k l after) there;
            },
          )

      pub rest-stop : (f : Full) → r ≡ Err f → Given n (open_group (group_of s) g) out₀ (Err f) after
      rest-stop f told =
          let e = sym given.0 ∙ told in (
            sym (rest.answer ∙ ap (counted total) more ∙ counted_stop total _ _ f e),
            given.1 ∙ sym (rest.places ∙ ap (λ (l : List Slot). placed total l out) more ∙ placed_stop total _ _ out f e),
          )
