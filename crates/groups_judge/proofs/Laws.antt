-- Laws of judging groups: what a judge that refuses nothing tells. Assumes nothing.
use Prim.Native.Nat.{ℕ, zero, suc, ◌+◌, ◌≤◌, ◌<◌}
use native.Mathlib.Nat.{add-zero, zero-add}
use native.Mathlib.Omega.{arith}
use mathlib.Core.Bool.{Bool, true, false, cond}
use mathlib.Core.Path.{◌≡◌, refl}
use mathlib.Core.List.{List, []}
use lib.Dec.{eqb, ltb}
use lib.ListN.{length}
use borrow.Author.Tests.{eq-eqb, ne_eqb, eqb-true, eqb-false, ltb-true, ltb-false, not-false}
use Rattle.wire.specs.Wire.{le_at}
use Rattle.ray_tracing.specs.Reading as reading
use Rattle.ray_tracing.proofs.Reading.{fields_whole}
use Rattle.ray_tracing.specs.Groups.{Finding, fine, refused, found_when, ◌and_then◌, at_byte, by_byte, slot_fields, is_slot, item_size, past_items, group_count, group_at, judge_name, judge_item, judge_items, judge_group, judge_from, judge_groups}

-- ---- the first of two

pub refused_not_fine : {n p g i : ℕ} → ¬ (refused n p g i ≡ fine)
refused_not_fine e =
    let z : ◌≡◌ {A = ℕ} 0 1 = cc in
    omega arith

pub first_fine : (a b : Finding) → (a and_then b) ≡ fine → a ≡ fine
first_fine fine b e = refl
first_fine (refused n p g i) b e = absurd (refused_not_fine e)

pub next-fine : (a b : Finding) → (a and_then b) ≡ fine → b ≡ fine
next-fine fine b e = e
next-fine (refused n p g i) b e = absurd (refused_not_fine e)

when_fine : (t : Bool) (n p g i : ℕ) → found_when t (refused n p g i) ≡ fine → t ≡ false
when_fine false n p g i e = refl
when_fine true n p g i e = absurd (refused_not_fine e)

by_byte-fine : (j : reading.Judged) → by_byte j ≡ fine → j ≡ reading.fine
by_byte-fine reading.fine e = refl
by_byte-fine (reading.refused n p) e = absurd (refused_not_fine e)

-- ---- an item

module _ (s : List ℕ) (at : ℕ) where
  pub size-slot : le_at 1 s at ≡ 1 → item_size s at ≡ 56
  unfolding item_size
  size-slot e = rw (eq-eqb (le_at 1 s at) 1 e)

  pub size-named : ¬ (le_at 1 s at ≡ 1) → item_size s at ≡ 3
  unfolding item_size
  size-named f = rw (ne_eqb (le_at 1 s at) 1 f)

-- the bytes of a name are there, and it is an earlier group's
module _ (s : List ℕ) (g i at : ℕ) (f : judge_name s g i at ≡ fine) where
  name_whole : at + 2 ≤ length s
  name_whole = ltb-false (length s) (at + 2) (when_fine _ 2 at 0 0 (first_fine _ _ f))

  name_earlier : le_at 2 s at < g
  name_earlier = ltb-true (le_at 2 s at) g (not-false _ (when_fine _ 45 0 g i (next-fine (found_when (ltb (length s) (at + 2)) _) _ f)))

-- an item's slot, and what else it may be
abbrev pub slot_judged : List ℕ → ℕ → reading.Judged
slot_judged s at = reading.judge_fields (reading.begin 0 [] false) s (at + 1) slot_fields

abbrev named_judged : List ℕ → ℕ → ℕ → ℕ → Finding
named_judged s g i at = cond (eqb (le_at 1 s at) 2) (judge_name s g i (at + 1)) (refused 5 at 0 0)

module _ (s : List ℕ) (g i at : ℕ) (f : judge_item s g i at ≡ fine) where
  pub item_begins : at + 1 ≤ length s
  unfolding judge_item
  item_begins = ltb-false (length s) (at + 1) (when_fine _ 2 at 0 0 (first_fine _ _ f))

  by_kind : cond (is_slot s at) (by_byte (slot_judged s at)) (named_judged s g i at) ≡ fine
  unfolding judge_item
  by_kind = next-fine (found_when (ltb (length s) (at + 1)) _) _ f

  slot-fine : le_at 1 s at ≡ 1 → slot_judged s at ≡ reading.fine
  slot-fine e = by_byte-fine (slot_judged s at) (rw (eq-eqb (le_at 1 s at) 1 e) at by_kind)

  named-fine : ¬ (le_at 1 s at ≡ 1) → judge_name s g i (at + 1) ≡ fine
  named-fine d = go (eqb (le_at 1 s at) 2) (rw (ne_eqb (le_at 1 s at) 1 d) at by_kind)
    where
      go : (b : Bool) → cond b (judge_name s g i (at + 1)) (refused 5 at 0 0) ≡ fine → judge_name s g i (at + 1) ≡ fine
      go true e = e
      go false e = absurd (refused_not_fine e)

  pub item-inside : at + item_size s at ≤ length s
  item-inside = go (is_slot s at) refl
    where
      go : (b : Bool) → is_slot s at ≡ b → at + item_size s at ≤ length s
      go true e =
          let d = eqb-true (le_at 1 s at) 1 e in
          let w = fields_whole slot_fields (reading.begin 0 [] false) s (at + 1) item_begins (slot-fine d) in
          omega (arith, size-slot s at d)
      go false e =
          let d = eqb-false (le_at 1 s at) 1 e in
          omega (arith, size-named s at d, name_whole s g i (at + 1) (named-fine d))

  pub item_earlier : ¬ (le_at 1 s at ≡ 1) → le_at 2 s (at + 1) < g
  item_earlier d = name_earlier s g i (at + 1) (named-fine d)

-- ---- items

module _ (s : List ℕ) (g n i at : ℕ) (f : judge_items s g (suc n) i at ≡ fine) where
  pub items_first : judge_item s g i at ≡ fine
  unfolding judge_items
  items_first = first_fine _ _ f

  pub items_next : judge_items s g n (i + 1) (at + item_size s at) ≡ fine
  unfolding judge_items
  items_next = next-fine (judge_item s g i at) _ f

pub items_inside : (s : List ℕ) (g n i at : ℕ) → at ≤ length s → judge_items s g n i at ≡ fine → past_items s n at ≤ length s
unfolding past_items
items_inside s g zero i at h f = h
items_inside s g (suc n) i at h f =
    items_inside s g n (i + 1) (at + item_size s at) (item-inside s g i at (items_first s g n i at f)) (items_next s g n i at f)

-- ---- groups

-- a group that is judged fine
pub record FineGroup (s : List ℕ) (g at : ℕ) : Type 0 where
  pub whole : at + 2 ≤ length s
  pub some : 1 ≤ le_at 2 s at
  pub items : judge_items s g (le_at 2 s at) 0 (at + 2) ≡ fine

pub fine-group : (s : List ℕ) (g at : ℕ) → judge_group s g at ≡ fine → FineGroup s g at
unfolding judge_group
fine-group s g at f =
    let w = next-fine (found_when (ltb (length s) (at + 2)) _) _ f in
    let none = eqb-false (le_at 2 s at) 0 (when_fine _ 45 0 g 0 (first_fine _ _ w)) in
    record {
      whole = ltb-false (length s) (at + 2) (when_fine _ 2 at 0 0 (first_fine _ _ f));
      some = omega (arith, none);
      items = next-fine (found_when (eqb (le_at 2 s at) 0) _) _ w;
    }

-- each of n groups from group g on
from-fine : (s : List ℕ) (n g k : ℕ) → k < n → judge_from s g n ≡ fine → judge_group s (g + k) (group_at s (g + k)) ≡ fine
unfolding judge_from
from-fine s zero g k h f = absurd (omega arith)
from-fine s (suc n) g zero h f = rw add-zero (first_fine _ _ f)
from-fine s (suc n) g (suc k) h f =
    let e : g + 1 + k ≡ g + suc k = omega arith in
    rw (← e) (from-fine s n (g + 1) k (omega arith) (next-fine (judge_group s g (group_at s g)) _ f))

-- a group ends inside
pub group-inside : (s : List ℕ) (g at : ℕ) → FineGroup s g at → past_items s (le_at 2 s at) (at + 2) ≤ length s
group-inside s g at w = items_inside s g (le_at 2 s at) 0 (at + 2) w.whole w.items

groups_inside :
    (s : List ℕ) (g : ℕ)
    → 2 ≤ length s
    → ((k : ℕ) → k < g → FineGroup s k (group_at s k))
    → group_at s g ≤ length s
unfolding group_at
groups_inside s zero h w = h
groups_inside s (suc g) h w = group-inside s g (group_at s g) (w g (omega arith))

-- groups that are judged fine
pub record FineGroups (s : List ℕ) : Type 0 where
  pub whole : 2 ≤ length s
  pub some : 1 ≤ group_count s
  pub most : group_count s ≤ 64
  pub groups : (g : ℕ) → g < group_count s → FineGroup s g (group_at s g)
  pub ends : group_at s (group_count s) ≡ length s

-- what is judged behind the last group
abbrev pub behind : List ℕ → Finding
behind s = found_when (ltb (group_at s (group_count s)) (length s)) (at_byte 3 (group_at s (group_count s)))

module _ (s : List ℕ) (f : judge_groups s ≡ fine) where
  all-fine :
      (found_when (ltb (length s) 2) (refused 2 0 0 0) ≡ fine)
      × ((found_when (ltb 64 (group_count s)) (refused 4 0 0 0) ≡ fine)
      × ((found_when (eqb (group_count s) 0) (refused 45 0 0 0) ≡ fine)
      × ((judge_from s 0 (group_count s) ≡ fine) × (behind s ≡ fine))))
  unfolding judge_groups
  all-fine =
      let a = next-fine (found_when (ltb (length s) 2) _) _ f in
      let b = next-fine (found_when (ltb 64 (group_count s)) _) _ a in
      let d = next-fine (found_when (eqb (group_count s) 0) _) _ b in
      (first_fine _ _ f, (first_fine _ _ a, (first_fine _ _ b, (first_fine _ _ d, next-fine (judge_from s 0 (group_count s)) _ d))))

  pub fine_groups : FineGroups s
  fine_groups =
      let whole = ltb-false (length s) 2 (when_fine _ 2 0 0 0 all-fine.0) in
      let none = eqb-false (group_count s) 0 (when_fine _ 45 0 0 0 all-fine.1.1.0) in
      let each : (g : ℕ) → g < group_count s → FineGroup s g (group_at s g) =
      λ g h. fine-group s g (group_at s g) (rw zero-add at (from-fine s (group_count s) 0 g h all-fine.1.1.1.0)) in
      let past = ltb-false (group_at s (group_count s)) (length s) (when_fine _ 3 _ 0 0 all-fine.1.1.1.1) in
      record {
        whole = whole;
        some = omega (arith, none);
        most = ltb-false 64 (group_count s) (when_fine _ 4 0 0 0 all-fine.1.0);
        groups = each;
        ends = omega (arith, groups_inside s (group_count s) whole each, past);
      }
