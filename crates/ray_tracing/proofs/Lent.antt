-- A lent table is refused by 4 or 5 alone: the records that are judged are whole.
use Prim.Native.Nat.{ℕ, zero, suc, ◌+◌, ◌*◌, ◌/◌, ◌%◌, ◌≤◌}
use native.Mathlib.Nat.{suc-mul, div-mul-le_self}
use native.Mathlib.Omega.{arith}
use mathlib.Core.Bool.{Bool, true, false, not, cond}
use mathlib.Core.Path.{◌≡◌, refl}
use mathlib.Core.List.{List, [], ◌∷◌}
use lib.Dec.{eqb, ltb}
use lib.ListN.{length}
use borrow.Author.Tests.{le-ltb, eqb-true}
use Rattle.wire.specs.Wire.{le_at}
use Rattle.ray_tracing.specs.Layout.{Seen, Field, Layout, fits, size, total}
use Rattle.ray_tracing.specs.Reading.{
  Judged,
  fine,
  refused,
  judged_when,
  ◌and_next◌,
  judge_fields,
  judge_records,
  begin,
  of_boxes,
  drawn_count,
  judge_drawn,
  judge_table,
  sum_of_counts,
  adds_up,
  by_record,
  judge_lent,
}

-- not refused, or with 4 or 5
pub data Only : Judged → Type 0 where
  none : Only fine
  four : {p : ℕ} → Only (refused 4 p)
  five : {p : ℕ} → Only (refused 5 p)

pub only_above : {n p : ℕ} → Only (refused n p) → 4 ≤ n
only_above four = omega arith
only_above five = omega arith

only_or : {x y : Judged} → Only x → Only y → Only (x and_next y)
only_or none g = g
only_or four g = four
only_or five g = five

only_on : {x : Judged} (t : Bool) → Only x → Only (judged_when t x)
only_on true f = f
only_on false f = none

only_by : {x : Judged} (w : ℕ) → Only x → Only (by_record w x)
only_by w none = none
only_by w four = four
only_by w five = five

fields_only : (fs : List Field) (c : Seen) (s : List ℕ) (p : ℕ) → p + total fs ≤ length s → Only (judge_fields c s p fs)
unfolding judge_fields
fields_only [] c s p h = none
fields_only (f ∷ fs) c s p h =
    rw (le-ltb (length s) (p + f.width) (omega arith))
    (only_or
    (only_on (not (fits f c (le_at f.width s p))) (five {p = p}))
    (fields_only fs (f.after c (le_at f.width s p)) s (p + f.width) (omega arith)))

records_only : (c : Seen) (fs : List Field) (s : List ℕ) (n p : ℕ) → p + n * total fs ≤ length s → Only (judge_records c fs s p n)
unfolding judge_records
records_only c fs s zero p h = none
records_only c fs s (suc n) p h =
    let w = rw suc-mul at h in
    only_or (fields_only fs c s p (omega arith)) (records_only c fs s n (p + total fs) (omega arith))

drawn_only :
    (fs : List Field) (t s : List ℕ) (n q p : ℕ)
    → p + sum_of_counts t (size 5) (q + 3) n * total fs ≤ length s
    → Only (judge_drawn fs t q s p n)
unfolding judge_drawn sum_of_counts
drawn_only fs t s zero q p h = none
drawn_only fs t s (suc n) q p h =
    let e : q + 3 + 5 ≡ q + 5 + 3 = omega arith in
    let w = rw e at h in
    only_or
    (records_only (begin (size 5) t (of_boxes t q)) fs s (drawn_count t q) p (omega arith))
    (drawn_only fs t s n (q + 5) (p + drawn_count t q * total fs) (omega arith))

table_only :
    (k : ℕ) (fs : List Field) (w : ℕ) (t s : List ℕ) (n : ℕ)
    → n * total fs ≤ length s
    → adds_up k t n ≡ true
    → Only (judge_table k fs w t s 0 n)
table_only k fs w t s n h a = go (eqb k 6) a
  where
    go :
        (b : Bool)
        → cond b (eqb (sum_of_counts t (size 5) 3 (length t / size 5)) n) (cond (eqb k 8) (eqb (sum_of_counts t (size 7) 2 (length t / size 7)) n) true) ≡ true
        → Only (cond b (judge_drawn fs t 0 s 0 (length t / size 5)) (judge_records (begin w t false) fs s 0 n))
    go true a =
        let d : sum_of_counts t (size 5) 3 (length t / size 5) ≡ n = eqb-true (sum_of_counts t (size 5) 3 (length t / size 5)) n a in
        drawn_only fs t s (length t / size 5) 0 0 (rw d (omega arith))
    go false a = records_only (begin w t false) fs s n 0 (omega arith)

pub lent_only : (k : ℕ) (l : Layout) (w : ℕ) (t s : List ℕ) → Only (judge_lent k l w t s)
unfolding judge_lent
lent_only k l w t s =
    only_or
    (only_on (ltb l.most (length s / total l.fields)) (four {p = 0}))
    (go (adds_up k t (length s / total l.fields)) refl)
  where
    go :
        (b : Bool)
        → adds_up k t (length s / total l.fields) ≡ b
        → Only
        (judged_when (not b) (refused 5 0)
        and_next by_record (total l.fields) (judge_table k l.fields w t s 0 (length s / total l.fields))
        and_next judged_when (not (eqb (length s % total l.fields) 0)) (refused 5 (length s / total l.fields)))
    go false e = five
    go true e =
        only_or
        (only_by (total l.fields) (table_only k l.fields w t s (length s / total l.fields) (div-mul-le_self (length s) (total l.fields)) e))
        (only_on (not (eqb (length s % total l.fields) 0)) (five {p = length s / total l.fields}))
