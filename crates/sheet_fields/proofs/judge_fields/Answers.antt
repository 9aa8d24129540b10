-- `sheet_fields::judge_fields` meets its contract: what is left of the fields, from the place reached, is judged as all of them are.
use Rattle.std.proofs.Common.{◌≡◌, refl, true, false, ℕ, List, ◌∷◌, ◌+◌, ◌≤◌, ◌<◌, length, drop, map, get_or, add-one, drop-cons, arith}
use Rattle.std.proofs.lemmas.List.{drop_all}
use Rattle.wire.specs.Wire.{le_at}
use borrow.Author.Tests.{lt-ltb, le-ltb}
use Rattle.ray_tracing.specs.declared.Version.{Version}
use Rattle.ray_tracing.specs.Layout.{Seen}
use Rattle.ray_tracing.specs.Reading.{Judged, refused}
use Rattle.sheet_fields.specs.declared.Width.TheVariants.{U8}
use Rattle.sheet_fields.specs.declared.Rule.{Rule}
use Rattle.sheet_fields.specs.declared.Rule.TheVariants.{Any, Always, Triangles, WithBuffer, Blas, OrNone}
use Rattle.sheet_fields.specs.declared.Field.{Field}
use Rattle.sheet_fields.specs.Table.{seen, untagged, judge_views, view_of, bytes_of, fits_of, after_of}
use Rattle.sheet_fields.proofs.judge_fields.Goals.{in-Blas, in-OrNone, in_default}
use Rattle.sheet_fields.proofs.judge_fields.Goals as goal

-- field i of a table
abbrev field : List Field → ℕ → Field
field fs i = get_or fs i (record { 0 = U8; 1 = Any })

-- one field more
module _ (v : Version) (fs : List Field) (c : Seen) (s : List ℕ) (p i : ℕ) (all : Judged) (h : i < length fs) (left : judge_views c s p (map (view_of v) (drop i fs)) ≡ all) where
  here : map (view_of v) (drop i fs) ≡ view_of v (field fs i) ∷ map (view_of v) (drop (i + 1) fs)
  here = rw (add-one, drop-cons fs i (record { 0 = U8; 1 = Any }))

  abbrev width : ℕ
  width = bytes_of v (field fs i).0

  abbrev rule : Rule
  rule = (field fs i).1

  short : length s < p + width → refused 2 p ≡ all
  unfolding judge_views
  short l = rw (here, lt-ltb (length s) (p + width) l) at left

  bad : p + width ≤ length s → fits_of rule c (le_at width s p) ≡ false → refused 5 p ≡ all
  unfolding judge_views
  bad l f = rw (here, le-ltb (length s) (p + width) l, f) at left

  good :
      p + width ≤ length s
      → fits_of rule c (le_at width s p) ≡ true
      → judge_views (after_of rule c (le_at width s p)) s (p + width) (map (view_of v) (drop (i + 1) fs)) ≡ all
  unfolding judge_views
  good l f = rw (here, le-ltb (length s) (p + width) l, f) at left

-- most rules tell nothing
kept : (r : Rule) (c : Seen) (n : ℕ) → (r ≡ Blas → ⊥) → (r ≡ OrNone → ⊥) → after_of r c n ≡ untagged c
kept Any c n a b = refl
kept (Always x) c n a b = refl
kept (Triangles x) c n a b = refl
kept (WithBuffer x) c n a b = refl
kept Blas c n a b = absurd (a refl)
kept OrNone c n a b = absurd (b refl)

pub returns-then-s-here : goal.returns-then-s-here
returns-then-s-here c =
    let a = c.args in
    let l = c.loop-field in
    short a.version a.fields.now (seen a.before.now.records.now a.before.now.each l.boxes l.none) a.s.now l.p l.field-index _ c.loop-field-test.true l.invariant.left
    (rw (← c.bytes-bytes.ensures) (omega arith))

pub returns-then-not-fits : goal.returns-then-not-fits
returns-then-not-fits c =
    let a = c.args in
    let l = c.loop-field in
    bad a.version a.fields.now (seen a.before.now.records.now a.before.now.each l.boxes l.none) a.s.now l.p l.field-index _ c.loop-field-test.true l.invariant.left
    (rw (← c.bytes-bytes.ensures) (omega arith))
    (rw (← c.number_at-v.ensures, ← c.fits.ensures) c.if-not-fits.true)

pub loop-field-preserved : goal.loop-field-preserved
loop-field-preserved c =
    let a = c.args in
    let l = c.loop-field in
    let known : after_of (field a.fields.now l.field-index).1 (seen a.before.now.records.now a.before.now.each l.boxes l.none) c.number_at-v.result
    ≡ seen a.before.now.records.now a.before.now.each c.match-field.boxes c.match-field.none
    = elim c.match-field.branch [
      | in-Blas w ↦ rw (w.in-Blas.is, w.boxes-is, w.none-is)
      | in-OrNone w ↦ rw (w.in-OrNone.is, w.boxes-is, w.none-is, w.from.ensures)
      | in_default w ↦ rw (w.boxes-is, w.none-is) (kept _ _ _ w.in_default.not-Blas w.in_default.not-OrNone)
    ] in
    let next = good a.version a.fields.now (seen a.before.now.records.now a.before.now.each l.boxes l.none) a.s.now l.p l.field-index _ c.loop-field-test.true l.invariant.left
    (rw (← c.bytes-bytes.ensures) (omega arith))
    (rw (← c.number_at-v.ensures, ← c.fits.ensures) c.if-not-fits.false) in
    record {
      within = omega arith;
      left = rw (← c.number_at-v.ensures, known, ← c.bytes-bytes.ensures) at next;
    }

pub returns : goal.returns
unfolding judge_views
returns c = rw (drop_all _ c.args.fields.now c.loop-field-test.false) at c.loop-field.invariant.left
