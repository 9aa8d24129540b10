-- Judging looks only at the bytes that it judges: in a list, and in any part of it that holds them, it finds the same, at the same place
-- counted from where the part begins. So a section's records are judged in the sheet as they are in a table of their own.
use Prim.Native.Nat.{ℕ, zero, suc, ◌+◌, ◌-◌, ◌*◌, ◌/◌, ◌≤◌, ◌<◌}
use native.Mathlib.Nat.{add_assoc, zero-add, suc-mul, mul-le-mul_right}
use native.Mathlib.Omega.{arith}
use mathlib.Core.Bool.{Bool, true, false, not, cond}
use mathlib.Core.Path.{◌≡◌, refl, sym, ap, ◌∙◌}
use mathlib.Core.List.{List, [], ◌∷◌}
use lib.Dec.{eqb, ltb}
use lib.ListN.{length, get_or, take, drop, length-drop}
use lib.Seq.{length-take-le, get_or-take, get_or-drop, ext_get_or}
use borrow.Author.Tests.{le-ltb, ltb-false, eqb-true}
use Rattle.wire.specs.Wire.{le_at}
use Rattle.wire.proofs.Laws.{le_cong}
use Rattle.ray_tracing.specs.Layout.{Seen, Field, layout_in, size, size_in, total}
use Rattle.ray_tracing.specs.Reading.{Judged, fine, refused, judged_when, ◌and_next◌, judge_fields, judge_records, begin, of_boxes, drawn_count, judge_drawn, judge_table, sum_of_counts, adds_up, version_in, judge_section}

-- t is a part of s, from a on
pub record Window (a : ℕ) (t s : List ℕ) : Type 0 where
  pub inside : a + length t ≤ length s
  pub same : (i : ℕ) → i < length t → get_or s (a + i) 0 ≡ get_or t i 0

-- a judgement with its place a further on
abbrev pub moved : ℕ → Judged → Judged
moved a fine = fine
moved a (refused n p) = refused n (a + p)

moved_or : (a : ℕ) (x y : Judged) → moved a (x and_next y) ≡ (moved a x and_next moved a y)
moved_or a fine y = refl
moved_or a (refused n p) y = refl

moved_on : (a : ℕ) (t : Bool) (x : Judged) → moved a (judged_when t x) ≡ judged_when t (moved a x)
moved_on a true x = refl
moved_on a false x = refl

pub moved_none : (x : Judged) → moved 0 x ≡ x
moved_none fine = refl
moved_none (refused n p) = ap (refused n) (zero-add p)

-- ---- windows

pub window_part : (a n : ℕ) (s : List ℕ) → a + n ≤ length s → Window a (take n (drop a s)) s
window_part a n s h =
    let l : length (take n (drop a s)) ≡ n = length-take-le n (drop a s) (rw length-drop (omega arith)) in
    record { inside = omega arith; same = λ i k. sym (get_or-take n (drop a s) i 0 (omega arith) ∙ get_or-drop a s i 0) }

module _ {a : ℕ} {t s : List ℕ} (w : Window a t s) where
  -- a number, and a part, that lie in the window
  pub le_window : (n p : ℕ) → p + n ≤ length t → le_at n s (a + p) ≡ le_at n t p
  le_window n p h = le_cong n s t (a + p) p (λ k l. rw add_assoc (w.same (p + k) (omega arith)))

  pub part_window : (n p : ℕ) → p + n ≤ length t → take n (drop (a + p) s) ≡ take n (drop p t)
  part_window n p h =
      let u = window_part (a + p) n s (omega (arith, w.inside)) in
      let v = window_part p n t h in
      let l : length (take n (drop (a + p) s)) ≡ n = length-take-le n (drop (a + p) s) (rw length-drop (omega (arith, w.inside))) in
      let m : length (take n (drop p t)) ≡ n = length-take-le n (drop p t) (rw length-drop (omega arith)) in
      ext_get_or 0 (take n (drop (a + p) s)) (take n (drop p t)) (l ∙ sym m)
      (λ i k. sym (u.same i k) ∙ rw add_assoc (w.same (p + i) (omega arith)) ∙ v.same i (omega arith))

  -- ---- fields, records, drawn records, a table

  pub fields_window :
      (fs : List Field) (c : Seen) (p : ℕ) → p + total fs ≤ length t → judge_fields c s (a + p) fs ≡ moved a (judge_fields c t p fs)
  unfolding judge_fields
  fields_window [] c p h = refl
  fields_window (f ∷ fs) c p h =
      let e : le_at f.width s (a + p) ≡ le_at f.width t p = le_window f.width p (omega arith) in
      rw (le-ltb (length s) (a + p + f.width) (omega (arith, w.inside)), le-ltb (length t) (p + f.width) (omega arith), e, add_assoc)
      (rw (fields_window fs (f.after c (le_at f.width t p)) (p + f.width) (omega arith), moved_or, moved_on))

  module _ (fs : List Field) where
    pub records-window :
        (c : Seen) (n p : ℕ) → p + n * total fs ≤ length t → judge_records c fs s (a + p) n ≡ moved a (judge_records c fs t p n)
    unfolding judge_records
    records-window c zero p h = refl
    records-window c (suc n) p h =
        let h' = rw suc-mul at h in
        rw (add_assoc, fields_window fs c p (omega arith), records-window c n (p + total fs) (omega arith), moved_or)

    pub drawn-window :
        (b : List ℕ) (n q p : ℕ)
        → p + sum_of_counts b (size 5) (q + 3) n * total fs ≤ length t
        → judge_drawn fs b q s (a + p) n ≡ moved a (judge_drawn fs b q t p n)
    unfolding judge_drawn sum_of_counts
    drawn-window b zero q p h = refl
    drawn-window b (suc n) q p h =
        let e : q + 3 + 5 ≡ q + 5 + 3 = omega arith in
        let h' = rw e at h in
        rw (
          add_assoc,
          records-window (begin (size 5) b (of_boxes b q)) (drawn_count b q) p (omega arith),
          drawn-window b n (q + 5) (p + drawn_count b q * total fs) (omega arith),
          moved_or,
        )

    -- what lies before the table is a list of its own: a part of s, and the same part of t (`part_window`)
    pub table-window :
        (k w : ℕ) (b : List ℕ) (p n : ℕ)
        → adds_up k b n ≡ true
        → p + n * total fs ≤ length t
        → judge_table k fs w b s (a + p) n ≡ moved a (judge_table k fs w b t p n)
    table-window k w b p n e h = go (eqb k 6) e
      where
        go :
            (six : Bool)
            → cond six (eqb (sum_of_counts b (size 5) 3 (length b / size 5)) n) (cond (eqb k 8) (eqb (sum_of_counts b (size 7) 2 (length b / size 7)) n) true) ≡ true
            → cond six (judge_drawn fs b 0 s (a + p) (length b / size 5)) (judge_records (begin w b false) fs s (a + p) n)
            ≡ moved a (cond six (judge_drawn fs b 0 t p (length b / size 5)) (judge_records (begin w b false) fs t p n))
        go true e =
            let d : sum_of_counts b (size 5) 3 (length b / size 5) ≡ n = eqb-true (sum_of_counts b (size 5) 3 (length b / size 5)) n e in
            drawn-window b (length b / size 5) 0 p (rw d (omega arith))
        go false e = records-window (begin w b false) n p h

  -- the section after section k, where the window holds the most records that it may have
  pub section_window :
      (k q p : ℕ)
      → version_in s ≡ version_in t
      → q ≤ p
      → p + 2 + (layout_in (version_in t) (k + 1)).most * size_in (version_in t) (k + 1) ≤ length t
      → judge_section s k (a + q) (a + p) ≡ moved a (judge_section t k q p)
  unfolding judge_section
  section_window k q p v h l =
      let e : a + p - (a + q) ≡ p - q = omega arith in
      rw (
        e,
        v,
        part_window (p - q) q (omega arith),
        le_window 2 p (omega arith),
        le-ltb (length s) (a + p + 2) (omega (arith, w.inside)),
        le-ltb (length t) (p + 2) (omega arith),
        add_assoc,
      )
      (go (take (p - q) (drop q t)) (ltb (layout_in (version_in t) (k + 1)).most (le_at 2 t p)) refl (adds_up (k + 1) (take (p - q) (drop q t)) (le_at 2 t p)) refl)
    where
      go :
          (b : List ℕ) (many : Bool)
          → ltb (layout_in (version_in t) (k + 1)).most (le_at 2 t p) ≡ many
          → (sum : Bool)
          → adds_up (k + 1) b (le_at 2 t p) ≡ sum
          → (judged_when many (refused 4 (a + p))
          and_next judged_when (not sum) (refused 5 (a + p))
          and_next judge_table (k + 1) (layout_in (version_in t) (k + 1)).fields (size_in (version_in t) k) b s (a + (p + 2)) (le_at 2 t p))
          ≡ moved a
          (judged_when many (refused 4 p)
          and_next judged_when (not sum) (refused 5 p)
          and_next judge_table (k + 1) (layout_in (version_in t) (k + 1)).fields (size_in (version_in t) k) b t (p + 2) (le_at 2 t p))
      go b true e sum f = refl
      go b false e false f = refl
      go b false e true f =
          let m = mul-le-mul_right (size_in (version_in t) (k + 1)) (ltb-false (layout_in (version_in t) (k + 1)).most (le_at 2 t p) e) in
          table-window (layout_in (version_in t) (k + 1)).fields (k + 1) (size_in (version_in t) k) b (p + 2) (le_at 2 t p) f (omega arith)
