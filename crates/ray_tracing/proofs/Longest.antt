-- The answer depends on the first longest + 1 bytes only: no section has more than its most records, so a list that is longer is judged
-- within those bytes, and refused at the latest for the bytes left over.
use Prim.Native.Nat.{ℕ, zero, suc, ◌+◌, ◌*◌, ◌≤◌, ◌<◌}
use native.Mathlib.Nat.{add-zero, zero-add, mul-le-mul_right}
use native.Mathlib.Numerals.{add-one}
use native.Mathlib.Omega.{arith}
use mathlib.Core.Bool.{Bool, true, false, not}
use mathlib.Core.Path.{◌≡◌, refl, sym, ap, ◌∙◌}
use mathlib.Core.List.{List, []}
use lib.Dec.{leb, ltb}
use lib.ListN.{length, take}
use lib.Seq.{take_all, length-take-le}
use borrow.Author.Tests.{lt-ltb, le-ltb, leb-true, leb-false}
use Rattle.wire.specs.Wire.{le_at}
use Rattle.ray_tracing.specs.declared.Version.{Version}
use Rattle.ray_tracing.specs.declared.Version.TheVariants as version
use Rattle.ray_tracing.specs.declared.Sheet.{Sheet}
use Rattle.ray_tracing.specs.Layout.{layout, layout_in, size, size_in}
use Rattle.ray_tracing.specs.Reading.{Judged, fine, refused, judged_when, ◌and_next◌, judge_records, begin, version_in, past, from, judge_section, judge_sections, taken, judge_sheet, sheet_of, accepted, answer, read_sheet}
use Rattle.ray_tracing.specs.Sizes.{longest, longest_of, sections_up_to}
use Rattle.ray_tracing.proofs.Reading.{refused_not_fine, section_most, past_more, from_more}
use Rattle.ray_tracing.proofs.Sheets.{accepted_judged}
use Rattle.ray_tracing.proofs.Windows.{Window, moved_none, window_part, le_window, records-window, section_window}

pub longest_are : (longest_of version.One ≡ 56415) × (longest ≡ 57439)
unfolding sections_up_to
longest_are = (refl, refl)

-- none is longer than one of version 2
longest-of : (v : Version) → longest_of v ≤ longest
unfolding sections_up_to
longest-of version.One = omega arith
longest-of version.Two = omega arith

-- ---- two that refuse alike

data Alike : Judged → Judged → Type 0 where
  alike : {n p : ℕ} → Alike (refused n p) (refused n p)

alike_or : (x : Judged) {y z : Judged} → (x ≡ fine → Alike y z) → Alike (x and_next y) (x and_next z)
alike_or fine f = f refl
alike_or (refused n p) f = alike

or_assoc : (x y z : Judged) → ((x and_next y) and_next z) ≡ (x and_next y and_next z)
or_assoc fine y z = refl
or_assoc (refused n p) y z = refl

alike_refuses : {x y : Judged} → Alike x y → x ≡ fine → ⊥
alike_refuses (alike {n} {p}) e = refused_not_fine n p e

alike_answer : {x y : Judged} (a b : Sheet) → Alike x y → answer x a ≡ answer y b
alike_answer a b alike = refl

-- ---- where sections end

-- at most, section k of a version
abbrev end : Version → ℕ → ℕ
end v k = 1 + size 0 + sections_up_to v k

end_more : (v : Version) (k : ℕ) → end v (k + 1) ≡ end v k + 2 + (layout_in v (k + 1)).most * size_in v (k + 1)
unfolding sections_up_to
end_more v k = ap (end v) (add-one k) ∙ omega arith

end_up : (v : Version) (n k : ℕ) → end v k ≤ end v (k + n)
end_up v zero k = simp add-zero (omega arith)
end_up v (suc n) k =
    let e : k + suc n ≡ k + 1 + n = omega arith in
    rw e (omega (arith, end_more v k, end_up v n (k + 1)))

-- ---- a list that is longer, and a part of it from the start on that is longer too

-- both have section k's end at one place
record Reached (t s : List ℕ) (k : ℕ) : Type 0 where
  ends : past t k ≡ past s k
  begins : from t k ≡ from s k
  ordered : from s k ≤ past s k
  near : past s k ≤ end (version_in s) k

module _ {t s : List ℕ} (w : Window 0 t s) (h : longest < length t) where
  same_version : version_in s ≡ version_in t
  unfolding version_in
  same_version = rw (le_window w 1 0 (omega arith))

  reached : Reached t s 0
  unfolding past from sections_up_to
  reached = record { ends = refl; begins = refl; ordered = omega arith; near = omega arith }

  module _ (k : ℕ) (r : Reached t s k) (l : end (version_in s) (k + 1) ≤ longest) where
    same_count : le_at 2 t (past t k) ≡ le_at 2 s (past s k)
    same_count = rw r.ends (sym (rw zero-add at (le_window w 2 (past s k) (omega (arith, end_more (version_in s) k, r.near)))))

    same-section : judge_section s k (from s k) (past s k) ≡ judge_section t k (from t k) (past t k)
    same-section =
        rw (r.begins, r.ends)
        (simp (zero-add, moved_none) at (section_window w k (from s k) (past s k) same_version r.ordered (rw (← same_version) (omega (arith, end_more (version_in s) k, r.near)))))

    reached-more : judge_section s k (from s k) (past s k) ≡ fine → Reached t s (k + 1)
    reached-more f =
        let m = mul-le-mul_right (size_in (version_in s) (k + 1)) (section_most s k (from s k) (past s k) f) in
        record {
          ends = rw (past_more, past_more, same_count, r.ends, same_version);
          begins = rw (from_more, from_more, r.ends);
          ordered = rw (past_more, from_more) (omega arith);
          near = rw past_more (omega (arith, end_more (version_in s) k, r.near));
        }

  sections_alike :
      (n k : ℕ)
      → k + n ≡ 9
      → Reached t s k
      → Alike
      (judge_sections s k n and_next judged_when (ltb (past s 9) (length s)) (refused 3 (past s 9)))
      (judge_sections t k n and_next judged_when (ltb (past t 9) (length t)) (refused 3 (past t 9)))
  unfolding judge_sections
  sections_alike zero k e r =
      let z : k ≡ 9 = omega arith in
      let q = rw z at r in
      rw (q.ends, lt-ltb (past s 9) (length s) (omega (arith, longest-of (version_in s), q.near, w.inside)), lt-ltb (past s 9) (length t) (omega (arith, longest-of (version_in s), q.near)))
      alike
  sections_alike (suc n) k e r =
      let z : k + 1 + n ≡ 9 = omega arith in
      let l : end (version_in s) (k + 1) ≤ longest = omega (arith, longest-of (version_in s), rw z at (end_up (version_in s) n (k + 1))) in
      rw (or_assoc, or_assoc, ← same-section k r l)
      (alike_or (judge_section s k (from s k) (past s k)) (λ f. sections_alike n (k + 1) z (reached-more k r l f)))

  sheet_alike : Alike (judge_sheet s) (judge_sheet t)
  unfolding judge_sheet
  sheet_alike =
      rw (
        le-ltb (length s) 1 (omega (arith, w.inside)),
        le-ltb (length t) 1 (omega arith),
        le_window w 1 0 (omega arith),
        records-window w (layout 0).fields (begin 0 [] false) 1 1 (omega arith),
        moved_none,
      )
      (alike_or (judged_when (not (taken (le_at 1 t 0))) (refused 1 0))
      (λ e. alike_or (judge_records (begin 0 [] false) (layout 0).fields t 1 1) (λ f. sections_alike 9 0 refl reached)))

  pub longer : read_sheet s ≡ read_sheet t
  unfolding read_sheet
  longer = alike_answer (sheet_of s) (sheet_of t) sheet_alike

pub prefix_decides : (s : List ℕ) → read_sheet (take (longest + 1) s) ≡ read_sheet s
prefix_decides s = go (leb (length s) (longest + 1)) refl
  where
    go : (b : Bool) → leb (length s) (longest + 1) ≡ b → read_sheet (take (longest + 1) s) ≡ read_sheet s
    go true e = ap read_sheet (take_all (longest + 1) s (leb-true (length s) (longest + 1) e))
    go false e =
        let l = leb-false (length s) (longest + 1) e in
        sym (longer (window_part 0 (longest + 1) s (omega arith)) (omega (arith, length-take-le (longest + 1) s (omega arith))))

-- no sheet that is accepted is longer
pub accepted-longest : (s : List ℕ) (x : Sheet) → read_sheet s ≡ accepted x → length s ≤ longest
accepted-longest s x e = go (leb (length s) longest) refl
  where
    go : (b : Bool) → leb (length s) longest ≡ b → length s ≤ longest
    go true f = leb-true (length s) longest f
    go false f =
        let w : Window 0 s s = record { inside = omega arith; same = λ i h. rw zero-add } in
        absurd (alike_refuses (sheet_alike w (leb-false (length s) longest f)) (accepted_judged s x e))
