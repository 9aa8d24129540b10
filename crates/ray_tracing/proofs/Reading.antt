-- Laws of judging: what a judge that refuses nothing tells (the bytes are there), and one more field, record, entry or section.
use Prim.Native.Nat.{ℕ, zero, suc, ◌+◌, ◌-◌, ◌*◌, ◌/◌, ◌≤◌, ◌<◌}
use native.Mathlib.Nat.{zero-mul, suc-mul}
use native.Mathlib.Numerals.{sub-one, add-one}
use native.Mathlib.Omega.{arith}
use mathlib.Core.Bool.{Bool, true, false, not, cond}
use mathlib.Core.Path.{◌≡◌, refl, ap}
use mathlib.Core.List.{List, [], ◌∷◌}
use lib.Dec.{eqb, ltb}
use lib.ListN.{length, take, drop}
use borrow.Author.Tests.{eqb-true, ltb-false, not-false}
use Rattle.wire.specs.Wire.{le_at}
use Rattle.ray_tracing.specs.Layout.{Seen, Field, layout_in, size, size_in, total}
use Rattle.ray_tracing.specs.Reading.{
  Judged,
  fine,
  refused,
  judged_when,
  ◌and_next◌,
  judge_field,
  judge_fields,
  judge_records,
  begin,
  of_boxes,
  drawn_count,
  judge_drawn,
  judge_table,
  sum_of_counts,
  adds_up,
  version_in,
  past,
  from,
  judge_section,
  judge_sections,
}

-- ---- the first of two

-- a refusal is no acceptance
pub refused_not_fine : (n p : ℕ) → refused n p ≡ fine → ⊥
refused_not_fine n p e =
    let z : ◌≡◌ {A = ℕ} 0 1 = cc in
    omega arith

pub or_fine : (a b : Judged) → (a and_next b) ≡ fine → (a ≡ fine) × (b ≡ fine)
or_fine fine b e = (refl, e)
or_fine (refused n p) b e = absurd (refused_not_fine n p e)

pub on_fine : (t : Bool) (n p : ℕ) → judged_when t (refused n p) ≡ fine → t ≡ false
on_fine false n p e = refl
on_fine true n p e = absurd (refused_not_fine n p e)

-- ---- fields and records

-- a record's bytes are there
pub fields_whole :
    (fs : List Field) (c : Seen) (s : List ℕ) (p : ℕ) → p ≤ length s → judge_fields c s p fs ≡ fine → p + total fs ≤ length s
unfolding judge_fields
fields_whole [] c s p h e = omega arith
fields_whole (f ∷ fs) c s p h e =
    let x = or_fine (judge_field c s p f) (judge_fields (f.after c (le_at f.width s p)) s (p + f.width) fs) e in
    let y = or_fine (judged_when (ltb (length s) (p + f.width)) (refused 2 p)) _ x.0 in
    let z = ltb-false (length s) (p + f.width) (on_fine _ 2 p y.0) in
    omega (arith, fields_whole fs (f.after c (le_at f.width s p)) s (p + f.width) z x.1)

module _ (c : Seen) (fs : List Field) (s : List ℕ) where
  pub records_whole : (n p : ℕ) → p ≤ length s → judge_records c fs s p n ≡ fine → p + n * total fs ≤ length s
  unfolding judge_records
  records_whole zero p h e = simp zero-mul (omega arith)
  records_whole (suc n) p h e =
      let x = or_fine (judge_fields c s p fs) _ e in
      let w = fields_whole fs c s p h x.0 in
      simp suc-mul (omega (arith, records_whole n (p + total fs) w x.1))

  -- one record more
  pub record_fine :
      (n p : ℕ) → 0 < n → judge_fields c s p fs ≡ fine → judge_records c fs s p n ≡ judge_records c fs s (p + total fs) (n - 1)
  unfolding judge_records
  record_fine (suc n) p h e = rw (e, sub-one (suc n))
  record_fine zero p h e = absurd (omega arith)

-- ---- drawn records

pub one_less : (n w : ℕ) → 0 < n → n * w ≡ w + (n - 1) * w
one_less (suc n) w h = rw (sub-one (suc n), suc-mul) (omega arith)
one_less zero w h = absurd (omega arith)

pub sum_more : (t : List ℕ) (w q n : ℕ) → 0 < n → sum_of_counts t w q n ≡ le_at 2 t q + sum_of_counts t w (q + w) (n - 1)
unfolding sum_of_counts
sum_more t w q (suc n) h = rw (sub-one (suc n))
sum_more t w q zero h = absurd (omega arith)

module _ (fs : List Field) (t s : List ℕ) where
  -- one entry more
  module _ (q : ℕ) where
    pub drawn-fine :
        (n p : ℕ)
        → 0 < n
        → judge_records (begin (size 5) t (of_boxes t q)) fs s p (drawn_count t q) ≡ fine
        → judge_drawn fs t q s p n ≡ judge_drawn fs t (q + size 5) s (p + drawn_count t q * total fs) (n - 1)
    unfolding judge_drawn
    drawn-fine (suc n) p h f = rw (f, sub-one (suc n))
    drawn-fine zero p h f = absurd (omega arith)

  pub drawn_whole :
      (n q p : ℕ) → p ≤ length s → judge_drawn fs t q s p n ≡ fine → p + sum_of_counts t (size 5) (q + 3) n * total fs ≤ length s
  unfolding judge_drawn sum_of_counts
  drawn_whole zero q p h f = simp zero-mul (omega arith)
  drawn_whole (suc n) q p h f =
      let x = or_fine (judge_records (begin (size 5) t (of_boxes t q)) fs s p (drawn_count t q)) _ f in
      let w = records_whole _ fs s (drawn_count t q) p h x.0 in
      let e : q + 5 + 3 ≡ q + 3 + 5 = omega arith in
      omega (arith, rw e at (drawn_whole n (q + 5) (p + drawn_count t q * total fs) w x.1))

-- ---- sections

-- a table that is judged fine has all its bytes
pub table_whole :
    (k : ℕ) (fs : List Field) (w : ℕ) (t s : List ℕ) (p n : ℕ)
    → p ≤ length s
    → adds_up k t n ≡ true
    → judge_table k fs w t s p n ≡ fine
    → p + n * total fs ≤ length s
table_whole k fs w t s p n h a f = go (eqb k 6) a f
  where
    go :
        (b : Bool)
        → cond b (eqb (sum_of_counts t (size 5) 3 (length t / size 5)) n) (cond (eqb k 8) (eqb (sum_of_counts t (size 7) 2 (length t / size 7)) n) true) ≡ true
        → cond b (judge_drawn fs t 0 s p (length t / size 5)) (judge_records (begin w t false) fs s p n) ≡ fine
        → p + n * total fs ≤ length s
    go true a f =
        let d : sum_of_counts t (size 5) 3 (length t / size 5) ≡ n = eqb-true (sum_of_counts t (size 5) 3 (length t / size 5)) n a in
        rw (← d) (drawn_whole fs t s (length t / size 5) 0 p h f)
    go false a f = records_whole (begin w t false) fs s n p h f

-- what a section that is judged fine tells
module _ (s : List ℕ) (k a p : ℕ) (f : judge_section s k a p ≡ fine) where
  abbrev before : List ℕ
  before = take (p - a) (drop a s)

  parts :
      (judged_when (ltb (length s) (p + 2)) (refused 2 p) ≡ fine)
      × ((judged_when (ltb (layout_in (version_in s) (k + 1)).most (le_at 2 s p)) (refused 4 p) ≡ fine)
      × ((judged_when (not (adds_up (k + 1) before (le_at 2 s p))) (refused 5 p) ≡ fine)
      × (judge_table (k + 1) (layout_in (version_in s) (k + 1)).fields (size_in (version_in s) k) before s (p + 2) (le_at 2 s p) ≡ fine)))
  unfolding judge_section
  parts =
      let x = or_fine (judged_when (ltb (length s) (p + 2)) (refused 2 p)) _ f in
      let y = or_fine (judged_when (ltb (layout_in (version_in s) (k + 1)).most (le_at 2 s p)) (refused 4 p)) _ x.1 in
      let z = or_fine (judged_when (not (adds_up (k + 1) before (le_at 2 s p))) (refused 5 p)) _ y.1 in
      (x.0, (y.0, (z.0, z.1)))

  pub section_count : p + 2 ≤ length s
  section_count = ltb-false (length s) (p + 2) (on_fine _ 2 p parts.0)

  pub section_most : le_at 2 s p ≤ (layout_in (version_in s) (k + 1)).most
  section_most = ltb-false (layout_in (version_in s) (k + 1)).most (le_at 2 s p) (on_fine _ 4 p parts.1.0)

  pub section_adds_up : adds_up (k + 1) before (le_at 2 s p) ≡ true
  section_adds_up = not-false _ (on_fine _ 5 p parts.1.1.0)

  pub section_table : judge_table (k + 1) (layout_in (version_in s) (k + 1)).fields (size_in (version_in s) k) before s (p + 2) (le_at 2 s p) ≡ fine
  section_table = parts.1.1.1

  pub section_whole : p + 2 + le_at 2 s p * size_in (version_in s) (k + 1) ≤ length s
  section_whole = table_whole (k + 1) (layout_in (version_in s) (k + 1)).fields (size_in (version_in s) k) before s (p + 2) (le_at 2 s p) section_count section_adds_up section_table

-- one section more

pub past_more : (s : List ℕ) (k : ℕ) → past s (k + 1) ≡ past s k + 2 + le_at 2 s (past s k) * size_in (version_in s) (k + 1)
unfolding past
past_more s k = ap (λ (j : ℕ). past s j) (add-one k)

pub from_more : (s : List ℕ) (k : ℕ) → from s (k + 1) ≡ past s k + 2
unfolding from
from_more s k = rw (add-one k)

module _ (s : List ℕ) (k : ℕ) (h : k < 9) where
  pub sections_more :
      judge_sections s k (9 - k) ≡ (judge_section s k (from s k) (past s k) and_next judge_sections s (k + 1) (9 - (k + 1)))
  unfolding judge_sections
  sections_more =
      let e : 9 - k ≡ suc (9 - (k + 1)) = omega arith in
      rw e

  pub section_fine :
      judge_section s k (from s k) (past s k) ≡ fine → judge_sections s k (9 - k) ≡ judge_sections s (k + 1) (9 - (k + 1))
  section_fine f = rw (sections_more, f)

  pub section_refused :
      (n q : ℕ) → judge_section s k (from s k) (past s k) ≡ refused n q → judge_sections s k (9 - k) ≡ refused n q
  section_refused n q f = rw (sections_more, f)
