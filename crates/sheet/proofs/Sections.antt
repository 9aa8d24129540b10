-- What the reader knows after k sections, carried over one section more, and what it answers by it.
use Prim.Native.Nat.{ℕ, ◌+◌, ◌-◌, ◌*◌, ◌≤◌, ◌<◌}
use native.Mathlib.Omega.{arith}
use mathlib.Core.Bool.{Bool, true, false, not, cond}
use mathlib.Core.Path.{◌≡◌, refl, sym, ◌∙◌}
use mathlib.Core.List.{List, []}
use lib.Dec.{eqb, ltb}
use lib.ListN.{length, get_or, set, length-set}
use lib.Seq.{get_or-set_same, get_or-set_other}
use borrow.Author.Tests.{lt-ltb, le-ltb, ltb-true, ltb-false, eqb-true, eqb-false}
use Rattle.wire.specs.Wire.{le_at}
use Rattle.ray_tracing.specs.Layout.{layout, size, size_in}
use Rattle.ray_tracing.specs.Reading.{
  Judged,
  fine,
  refused,
  judged_when,
  ◌and_next◌,
  begin,
  version_in,
  past,
  from,
  judge_section,
  judge_sections,
  taken,
  judge_sheet,
  section_of,
  sheet_of,
  accepted,
  rejected,
  read_sheet,
}
use Rattle.sheet.specs.Count.{count_at}
use Rattle.sheet.specs.Found.{judge_header, found, sheet_from}
use Rattle.ray_tracing.specs.declared.Section.{Section}
use Rattle.std.specs.Prelude.{Some, None}
use Rattle.ray_tracing.proofs.Reading.{or_fine, on_fine, records_whole, section_whole, past_more, from_more, section_fine, section_refused}

-- ---- the header

or_assoc : (a b c : Judged) → ((a and_next b) and_next c) ≡ (a and_next b and_next c)
or_assoc fine b c = refl
or_assoc (refused n p) b c = refl

module _ (s : List ℕ) where
  rest : Judged
  rest = judge_sections s 0 9 and_next judged_when (ltb (past s 9) (length s)) (refused 3 (past s 9))

  header-first : judge_sheet s ≡ (judge_header s and_next rest)
  unfolding judge_sheet rest
  header-first = simp or_assoc

  pub header_refused : (n q : ℕ) → judge_header s ≡ refused n q → read_sheet s ≡ rejected n q
  unfolding read_sheet
  header_refused n q e = rw (header-first, e)

  module _ (e : judge_header s ≡ fine) where
    pub header-fine : judge_sheet s ≡ (judge_sections s 0 9 and_next judged_when (ltb (past s 9) (length s)) (refused 3 (past s 9)))
    unfolding rest
    header-fine = rw (header-first, e)

    pub header-there : 1 + size 0 ≤ length s
    header-there =
        let x = or_fine (judged_when (ltb (length s) 1) (refused 2 0)) _ e in
        let y = or_fine (judged_when (not (taken (le_at 1 s 0))) (refused 1 0)) _ x.1 in
        records_whole (begin 0 [] false) (layout 0).fields s 1 1 (ltb-false (length s) 1 (on_fine _ 2 0 x.0)) y.1

-- what a count that is read tells, and one that is not
pub count_there : (s : List ℕ) (at n : ℕ) → count_at s at ≡ Some n → (at + 2 ≤ length s) × (n ≡ le_at 2 s at)
count_there s at n e = go (ltb (length s) (at + 2)) refl e
  where
    go :
        (b : Bool)
        → ltb (length s) (at + 2) ≡ b
        → cond b None (Some (le_at 2 s at)) ≡ Some n
        → (at + 2 ≤ length s) × (n ≡ le_at 2 s at)
    go true b e = cc
    go false b e =
        let z : n ≡ le_at 2 s at = cc in
        (ltb-false (length s) (at + 2) b, z)

pub count_early : (s : List ℕ) (at : ℕ) → count_at s at ≡ None → length s < at + 2
count_early s at e = go (ltb (length s) (at + 2)) refl e
  where
    go : (b : Bool) → ltb (length s) (at + 2) ≡ b → cond b None (Some (le_at 2 s at)) ≡ None → length s < at + 2
    go true b e = ltb-true (length s) (at + 2) b
    go false b e = cc

pub section_early : (s : List ℕ) (k a p : ℕ) → length s < p + 2 → judge_section s k a p ≡ refused 2 p
unfolding judge_section
section_early s k a p h = rw (lt-ltb (length s) (p + 2) h)

-- what is known after k sections
pub record Known (s : List ℕ) (sections : List Section) (a p k : ℕ) : Type 0 where
  pub order : a ≤ p
  pub header : 1 + size 0 ≤ p
  pub whole : p ≤ length s
  pub nine : length sections ≡ 9
  pub begins : a ≡ from s k
  pub ends : p ≡ past s k
  pub found_is : (j : ℕ) → j < k → found sections j ≡ section_of s j
  pub judged : judge_sheet s ≡ (judge_sections s k (9 - k) and_next judged_when (ltb (past s 9) (length s)) (refused 3 (past s 9)))

-- one section more is found
more_found :
    (s : List ℕ) (sections : List Section) (k : ℕ) (x : Section)
    → k < length sections
    → x ≡ section_of s k
    → ((j : ℕ) → j < k → found sections j ≡ section_of s j)
    → (j : ℕ)
    → j < k + 1
    → found (set sections k x) j ≡ section_of s j
more_found s sections k x h e g j l = go (eqb j k) refl
  where
    go : (b : Bool) → eqb j k ≡ b → found (set sections k x) j ≡ section_of s j
    go true b = rw (eqb-true j k b) (get_or-set_same sections k x _ h ∙ e)
    go false b = get_or-set_other sections k j x _ (eqb-false j k b) ∙ g j (omega (arith, eqb-false j k b))

module _ (s : List ℕ) (sections : List Section) (a p k : ℕ) (g : Known s sections a p k) where
  section_is : judge_section s k a p ≡ judge_section s k (from s k) (past s k)
  section_is = λ i. judge_section s k (g.begins i) (g.ends i)

  pub refused-at : (n q : ℕ) → k < 9 → judge_section s k a p ≡ refused n q → read_sheet s ≡ rejected n q
  unfolding read_sheet
  refused-at n q h f = rw (g.judged, section_refused s k h n q (sym section_is ∙ f))

  pub known_next :
      k < 9
      → judge_section s k a p ≡ fine
      → Known s (set sections k (record { start = p + 2; count = le_at 2 s p })) (p + 2) (p + 2 + le_at 2 s p * size_in (version_in s) (k + 1)) (k + 1)
  known_next h f =
      let w = section_whole s k a p f in
      record {
        order = omega arith;
        header = omega (arith, g.header);
        whole = w;
        nine = length-set sections k _ ∙ g.nine;
        begins = rw g.ends (sym (from_more s k));
        ends = rw g.ends (sym (past_more s k));
        found_is = more_found s sections k _ (omega (arith, g.nine)) (rw g.ends) g.found_is;
        judged = rw (g.judged, section_fine s k h (sym section_is ∙ f));
      }

  module _ (last : k ≡ 9) where
    pub left_over : p < length s → read_sheet s ≡ rejected 3 p
    unfolding read_sheet judge_sections
    left_over l =
        let e : p ≡ past s 9 = rw last at g.ends in
        let f = rw last at g.judged in
        rw (f, ← e, lt-ltb p (length s) l)

    pub read : length s ≤ p → read_sheet s ≡ accepted (sheet_of s)
    unfolding read_sheet judge_sections
    read l =
        let e : p ≡ past s 9 = rw last at g.ends in
        let f = rw last at g.judged in
        rw (f, ← e, le-ltb p (length s) l)

    pub sheet-found : sheet_from s sections ≡ sheet_of s
    sheet-found =
        λ i. record {
          version = version_in s;
          alignment = le_at 4 s 1;
          counter = le_at 8 s 5;
          buffers = g.found_is 0 (omega arith) i;
          blases = g.found_is 1 (omega arith) i;
          declared = g.found_is 2 (omega arith) i;
          tlases = g.found_is 3 (omega arith) i;
          entries = g.found_is 4 (omega arith) i;
          geometries = g.found_is 5 (omega arith) i;
          packages = g.found_is 6 (omega arith) i;
          slots = g.found_is 7 (omega arith) i;
          actions = g.found_is 8 (omega arith) i;
        }
