-- The tables of an accepted sheet draw no 4 or 5 from a build, and none at a submission's start: a section of the sheet and a lent table
-- are judged alike.
use Prim.Native.Nat.{ℕ, zero, suc, ◌+◌, ◌-◌, ◌*◌, ◌/◌, ◌%◌, ◌≤◌, ◌<◌}
use native.Mathlib.Nat.{add-zero, mul-div_cancel, mul-mod_left}
use native.Mathlib.Numerals.{add-one}
use native.Mathlib.Decide.{ℕ_discrete}
use native.Mathlib.Omega.{arith}
use mathlib.Core.Bool.{Bool, true, false, not, ◌||◌, cond, true≢false, false≢true}
use mathlib.Core.Path.{◌≡◌, refl, sym, ◌∙◌}
use mathlib.Core.List.{List, []}
use lib.Dec.{eqb, ltb}
use lib.ListN.{length, take, drop, length-drop}
use lib.Seq.{length-take-le}
use borrow.Author.Tests.{le-ltb, ltb-true, ltb-false, eq-eqb, ne_eqb, eqb-true, not-false}
use Rattle.wire.specs.Wire.{le_at}
use Rattle.ray_tracing.specs.declared.Version.{Version}
use Rattle.ray_tracing.specs.declared.Version.TheVariants as version
use Rattle.ray_tracing.specs.declared.Sheet.{Sheet}
use Rattle.ray_tracing.specs.Layout.{Seen, Field, Layout, version_number, always, positive, u32, layout, layout_in, size, size_in, total}
use Rattle.ray_tracing.specs.Reading.{Judged, fine, refused, judged_when, judge_field, judge_fields, judge_records, begin, judge_table, adds_up, version_in, past, from, judge_section, judge_sections, taken, judge_sheet, section_of, sheet_of, accepted, answer, read_sheet, by_record, judge_lent, table}
use Rattle.ray_tracing.proofs.Each.{each, size-positive}
use Rattle.ray_tracing.proofs.Reading.{or_fine, on_fine, refused_not_fine, section_most, section_adds_up, section_table, section_whole, past_more, from_more, sections_more}
use Rattle.ray_tracing.proofs.Windows.{moved, window_part, table-window}

-- ---- a lent table

-- it draws none
pub record Lent (k : ℕ) (l : Layout) (w : ℕ) (t s : List ℕ) : Type 0 where
  pub few : length s / total l.fields ≤ l.most
  pub sum : adds_up k t (length s / total l.fields) ≡ true
  pub records : judge_table k l.fields w t s 0 (length s / total l.fields) ≡ fine
  pub whole : length s % total l.fields ≡ 0

by_fine : (w : ℕ) (j : Judged) → by_record w j ≡ fine → j ≡ fine
by_fine w fine e = refl
by_fine w (refused n p) e = absurd (refused_not_fine n (p / w) e)

module _ (k : ℕ) (l : Layout) (w : ℕ) (t s : List ℕ) where
  abbrev n : ℕ
  n = length s / total l.fields

  pub lent_tells : judge_lent k l w t s ≡ fine → Lent k l w t s
  unfolding judge_lent
  lent_tells e =
      let x = or_fine (judged_when (ltb l.most n) (refused 4 0)) _ e in
      let y = or_fine (judged_when (not (adds_up k t n)) (refused 5 0)) _ x.1 in
      let z = or_fine (by_record (total l.fields) (judge_table k l.fields w t s 0 n)) _ y.1 in
      record {
        few = ltb-false l.most n (on_fine _ 4 0 x.0);
        sum = not-false (adds_up k t n) (on_fine _ 5 0 y.0);
        records = by_fine (total l.fields) (judge_table k l.fields w t s 0 n) z.0;
        whole = eqb-true (length s % total l.fields) 0 (not-false _ (on_fine _ 5 n z.1));
      }

  pub lent_of : Lent k l w t s → judge_lent k l w t s ≡ fine
  unfolding judge_lent
  lent_of f =
      rw
      (le-ltb l.most n f.few, f.sum, f.records, eq-eqb (length s % total l.fields) 0 f.whole)

-- ---- sections that do not lean on the one before

-- those that do: declared geometries on Blases, geometries on entries, slots on packages
abbrev pub leans : ℕ → Bool
leans k = eqb k 3 || (eqb k 6 || eqb k 8)

or_false : (a b : Bool) → (a || b) ≡ false → (a ≡ false) × (b ≡ false)
or_false false b e = (refl, e)
or_false true b e = absurd (true≢false e)

abbrev Apart : ℕ → Type 0
Apart k =
    leans k ≡ false
    → (v w : ℕ) (a b s : List ℕ) (p : ℕ)
    → judge_fields (begin v a false) s p (layout k).fields ≡ judge_fields (begin w b false) s p (layout k).fields

fields-apart : (k : ℕ) → k < 10 → Apart k
unfolding judge_fields
fields-apart =
    each Apart 10 (
      (λ e v w a b s p. refl),
      (
        (λ e v w a b s p. refl),
        (
          (λ e v w a b s p. refl),
          (
            (λ e. absurd (true≢false e)),
            (
              (λ e v w a b s p. refl),
              (
                (λ e v w a b s p. refl),
                (
                  (λ e. absurd (true≢false e)),
                  (
                    (λ e v w a b s p. refl),
                    ((λ e. absurd (true≢false e)), ((λ e v w a b s p. refl), tt)),
                  ),
                ),
              ),
            ),
          ),
        ),
      ),
    )

records_same :
    (c d : Seen) (fs : List Field) (s : List ℕ)
    → ((p : ℕ) → judge_fields c s p fs ≡ judge_fields d s p fs)
    → (n p : ℕ)
    → judge_records c fs s p n ≡ judge_records d fs s p n
unfolding judge_records
records_same c d fs s e zero p = refl
records_same c d fs s e (suc n) p = rw (e p, records_same c d fs s e n (p + total fs))

-- what stands before them is not looked at, and they are the same in either version
pub lent-apart :
    (k : ℕ)
    → k < 10
    → leans k ≡ false
    → (x y : Version) (v w : ℕ) (a b s : List ℕ)
    → judge_lent k (layout_in x k) v a s ≡ judge_lent k (layout_in y k) w b s
unfolding judge_lent
lent-apart k h e x y v w a b s =
    let f = or_false (eqb k 6) (eqb k 8) (or_false (eqb k 3) _ e).1 in
    let n = length s / size k in
    let g = records_same (begin v a false) (begin w b false) (layout k).fields s (fields-apart k h e v w a b s) n 0 in
    rw (f.0, f.1, g)

-- ---- a section and its table

pub moved_fine : (a : ℕ) (j : Judged) → moved a j ≡ fine → j ≡ fine
moved_fine a fine e = refl
moved_fine a (refused n p) e = absurd (refused_not_fine n (a + p) e)

-- the section after section k, whose records stand from a on, with its count at p and all its bytes there, and those bytes
module _ (s : List ℕ) (k a p : ℕ) (h : k < 9) (l : p + 2 + le_at 2 s p * size_in (version_in s) (k + 1) ≤ length s) where
  abbrev before : List ℕ
  before = take (p - a) (drop a s)

  abbrev records : List ℕ
  records = take (le_at 2 s p * size_in (version_in s) (k + 1)) (drop (p + 2) s)

  records_length : length records ≡ le_at 2 s p * size_in (version_in s) (k + 1)
  records_length = length-take-le (le_at 2 s p * size_in (version_in s) (k + 1)) (drop (p + 2) s) (rw length-drop (omega arith))

  records_count : length records / size_in (version_in s) (k + 1) ≡ le_at 2 s p
  records_count = rw records_length (mul-div_cancel (le_at 2 s p) (size-positive (version_in s) (k + 1) (omega arith)))

  records_judged :
      adds_up (k + 1) before (le_at 2 s p) ≡ true
      → judge_table (k + 1) (layout_in (version_in s) (k + 1)).fields (size_in (version_in s) k) before s (p + 2) (le_at 2 s p)
      ≡ moved (p + 2) (judge_table (k + 1) (layout_in (version_in s) (k + 1)).fields (size_in (version_in s) k) before records 0 (le_at 2 s p))
  records_judged e =
      rw add-zero at
      (table-window
      (window_part (p + 2) (le_at 2 s p * size_in (version_in s) (k + 1)) s l)
      (layout_in (version_in s) (k + 1)).fields
      (k + 1)
      (size_in (version_in s) k)
      before
      0
      (le_at 2 s p)
      e
      (omega (arith, records_length)))

  pub section_lent : judge_section s k a p ≡ fine → judge_lent (k + 1) (layout_in (version_in s) (k + 1)) (size_in (version_in s) k) before records ≡ fine
  section_lent f =
      let e = section_adds_up s k a p f in
      lent_of (k + 1) (layout_in (version_in s) (k + 1)) (size_in (version_in s) k) before records
      (record {
        few = rw records_count (section_most s k a p f);
        sum = rw records_count e;
        records = rw records_count (moved_fine (p + 2) _ (sym (records_judged e) ∙ section_table s k a p f));
        whole = rw records_length (mul-mod_left (le_at 2 s p) (size_in (version_in s) (k + 1)));
      })

  pub lent_section : judge_lent (k + 1) (layout_in (version_in s) (k + 1)) (size_in (version_in s) k) before records ≡ fine → judge_section s k a p ≡ fine
  unfolding judge_section
  lent_section f =
      let t = lent_tells (k + 1) (layout_in (version_in s) (k + 1)) (size_in (version_in s) k) before records f in
      let e : adds_up (k + 1) before (le_at 2 s p) ≡ true = rw records_count at t.sum in
      rw (
        le-ltb (length s) (p + 2) (omega arith),
        le-ltb (layout_in (version_in s) (k + 1)).most (le_at 2 s p) (rw records_count at t.few),
        e,
        records_judged e,
        rw records_count at t.records,
      )

-- ---- an accepted sheet

or_none : (a : Bool) → (a || false) ≡ true → a ≡ true
or_none true e = refl
or_none false e = e

-- a field that is used has a value that it may have
pub field-allowed :
    (c : Seen) (s : List ℕ) (p : ℕ) (f : Field)
    → judge_field c s p f ≡ fine
    → f.used c ≡ true
    → f.allowed c (le_at f.width s p) ≡ true
field-allowed c s p f e u =
    let x = or_fine (judged_when (ltb (length s) (p + f.width)) (refused 2 p)) _ e in
    go (f.allowed c (le_at f.width s p)) (f.used c) (not-false _ (on_fine _ 5 p x.1)) u
  where
    go : (a u : Bool) → (a || not u) ≡ true → u ≡ true → a ≡ true
    go true u e h = refl
    go false u e h = absurd (false≢true (rw h at e))

-- a table by what is read of its section
pub table_section :
    (s : List ℕ) (k : ℕ) → table s (k + 1) ≡ take ((section_of s k).count * size_in (version_in s) (k + 1)) (drop (section_of s k).start s)
table_section s k =
    let d : past s k + 2 + le_at 2 s (past s k) * size_in (version_in s) (k + 1) - (past s k + 2) ≡ le_at 2 s (past s k) * size_in (version_in s) (k + 1) = omega arith in
    rw (past_more, from_more, d)

answer-accepted : (j : Judged) (y x : Sheet) → answer j y ≡ accepted x → (j ≡ fine) × (y ≡ x)
answer-accepted fine y x e = (refl, cc)
answer-accepted (refused n p) y x e =
    let z : ◌≡◌ {A = ℕ} 0 1 = cc in
    absurd (omega arith)

module _ (s : List ℕ) (x : Sheet) (e : read_sheet s ≡ accepted x) where
  judged : (judge_sheet s ≡ fine) × (sheet_of s ≡ x)
  unfolding read_sheet
  judged = answer-accepted (judge_sheet s) (sheet_of s) x e

  pub accepted_judged : judge_sheet s ≡ fine
  accepted_judged = judged.0

  parts :
      (judged_when (ltb (length s) 1) (refused 2 0) ≡ fine)
      × ((judged_when (not (taken (le_at 1 s 0))) (refused 1 0) ≡ fine)
      × ((judge_records (begin 0 [] false) (layout 0).fields s 1 1 ≡ fine)
      × ((judge_sections s 0 9 ≡ fine) × (judged_when (ltb (past s 9) (length s)) (refused 3 (past s 9)) ≡ fine))))
  unfolding judge_sheet
  parts =
      let a = or_fine (judged_when (ltb (length s) 1) (refused 2 0)) _ accepted_judged in
      let b = or_fine (judged_when (not (taken (le_at 1 s 0))) (refused 1 0)) _ a.1 in
      let c = or_fine (judge_records (begin 0 [] false) (layout 0).fields s 1 1) _ b.1 in
      (a.0, (b.0, (c.0, or_fine (judge_sections s 0 9) _ c.1)))

  pub accepted_is : x ≡ sheet_of s
  accepted_is = sym judged.1

  pub accepted-version : le_at 1 s 0 ≡ version_number (version_in s)
  unfolding version_in
  accepted-version = go (ℕ_discrete (le_at 1 s 0) 2) (not-false _ (on_fine _ 1 0 parts.1.0))
    where
      go : Dec (le_at 1 s 0 ≡ 2) → taken (le_at 1 s 0) ≡ true → le_at 1 s 0 ≡ version_number (cond (eqb (le_at 1 s 0) 2) version.Two version.One)
      go (yes e) t = rw e
      go (no d) t = rw (ne_eqb (le_at 1 s 0) 2 d) (eqb-true (le_at 1 s 0) 1 (or_none (eqb (le_at 1 s 0) 1) (rw (ne_eqb (le_at 1 s 0) 2 d) at t)))

  pub accepted-alignment : 0 < x.alignment
  unfolding judge_records judge_fields
  accepted-alignment =
      let f = or_fine (judge_fields (begin 0 [] false) s 1 (layout 0).fields) _ parts.1.1.0 in
      let g = or_fine (judge_field (begin 0 [] false) s 1 (u32 always positive)) _ f.0 in
      rw accepted_is (ltb-true 0 (le_at 4 s 1) (field-allowed (begin 0 [] false) s 1 (u32 always positive) g.0 refl))

  pub accepted_end : length s ≤ past s 9
  accepted_end = ltb-false (past s 9) (length s) (on_fine _ 3 (past s 9) parts.1.1.1.1)

  sections_fine : (k : ℕ) → k ≤ 9 → judge_sections s k (9 - k) ≡ fine
  sections_fine zero h = parts.1.1.1.0
  sections_fine (suc k) h =
      rw add-one at
      (or_fine (judge_section s k (from s k) (past s k)) _ (sym (sections_more s k (omega arith)) ∙ sections_fine k (omega arith))).1

  -- the section after section k
  module _ (k : ℕ) (h : k < 9) where
    pub accepted-section : judge_section s k (from s k) (past s k) ≡ fine
    accepted-section = (or_fine (judge_section s k (from s k) (past s k)) _ (sym (sections_more s k h) ∙ sections_fine k (omega arith))).0

    pub accepted-whole : past s k + 2 + le_at 2 s (past s k) * size_in (version_in s) (k + 1) ≤ length s
    accepted-whole = section_whole s k (from s k) (past s k) accepted-section

    pub accepted-length : length (table s (k + 1)) ≡ (section_of s k).count * size_in (version_in s) (k + 1)
    accepted-length = rw table_section (records_length s k (from s k) (past s k) h accepted-whole)

    pub accepted-lent : judge_lent (k + 1) (layout_in (version_in s) (k + 1)) (size_in (version_in s) k) (table s k) (table s (k + 1)) ≡ fine
    accepted-lent = rw (table_section s k) (section_lent s k (from s k) (past s k) h accepted-whole accepted-section)

    -- where a section does not lean on the one before, whatever stands for that
    pub accepted-apart :
        leans (k + 1) ≡ false
        → (v : Version) (w : ℕ) (t : List ℕ)
        → judge_lent (k + 1) (layout_in v (k + 1)) w t (table s (k + 1)) ≡ fine
    accepted-apart f v w t =
        lent-apart (k + 1) (omega arith) f v (version_in s) w (size_in (version_in s) k) t (table s k) (table s (k + 1)) ∙ accepted-lent
