-- Judging one offset more, writing one geometry more, and the whole sheet out of its parts.
use Prim.Native.Nat.{ℕ, zero, suc, ◌+◌, ◌-◌, ◌*◌, ◌^◌, ◌≤◌, ◌<◌}
use native.Mathlib.Numerals.{sub-one}
use native.Mathlib.Nat.{suc-mul}
use native.Mathlib.Omega.{arith}
use mathlib.Core.Bool.{Bool, true, false, not}
use mathlib.Core.Path.{◌≡◌, refl, sym, ap, ◌∙◌}
use mathlib.Core.List.{List, ◌++◌}
use lib.Dec.{ltb}
use lib.ListN.{length, take, drop, length-drop}
use lib.Seq.{sets, length-take-le, take-take, take-add, take-append-le, drop-append-le, drop_at, drop-drop}
use borrow.Author.Tests.{ltb-true, not-false}
use Rattle.wire.specs.Wire.{le_at, le_bytes}
use Rattle.wire.proofs.Laws.{le_drop, le_take, length-le_bytes, sets-append}
use Rattle.ray_tracing.specs.declared.Version.{Version}
use Rattle.ray_tracing.specs.Layout.{offset_width, size_in}
use Rattle.ray_tracing.specs.Reading.{fine, refused, judged_when}
use Rattle.ray_tracing.specs.Conversion.{converted_record, converted_records, judge_offsets}
use Rattle.ray_tracing.proofs.Reading.{or_fine, on_fine}
use Rattle.ray_tracing.proofs.Versions.{geometry-size}
use Rattle.ray_tracing.proofs.Converted.{record_length}

-- ---- offsets

module _ (v w : Version) (s : List ℕ) (p : ℕ) where
  abbrev fits : Bool
  fits = ltb (le_at (offset_width v) s (p + 5)) (256 ^ offset_width w)

  pub offsets_next : (n : ℕ) → 0 < n → fits ≡ true → judge_offsets v w s p n ≡ judge_offsets v w s (p + size_in v 6) (n - 1)
  unfolding judge_offsets
  offsets_next (suc n) h f = rw (f, sub-one (suc n))
  offsets_next zero h f = absurd (omega arith)

  pub offsets_far : (n : ℕ) → 0 < n → fits ≡ false → judge_offsets v w s p n ≡ refused 47 (p + 5)
  unfolding judge_offsets
  offsets_far (suc n) h f = rw f
  offsets_far zero h f = absurd (omega arith)

  offset_tested : (n : ℕ) → 0 < n → judge_offsets v w s p n ≡ fine → fits ≡ true
  unfolding judge_offsets
  offset_tested (suc n) h e = not-false _ (on_fine _ 47 (p + 5) (or_fine (judged_when (not fits) (refused 47 (p + 5))) _ e).0)
  offset_tested zero h e = absurd (omega arith)

  pub offset_here : (n : ℕ) → 0 < n → judge_offsets v w s p n ≡ fine → le_at (offset_width v) s (p + 5) < 256 ^ offset_width w
  offset_here n h e = ltb-true (le_at (offset_width v) s (p + 5)) (256 ^ offset_width w) (offset_tested n h e)

  pub offsets_after : (n : ℕ) → 0 < n → judge_offsets v w s p n ≡ fine → judge_offsets v w s (p + size_in v 6) (n - 1) ≡ fine
  offsets_after n h e = sym (offsets_next n h (offset_tested n h e)) ∙ e

pub none_left : (v w : Version) (s : List ℕ) (p n : ℕ) → n ≡ 0 → judge_offsets v w s p n ≡ fine
unfolding judge_offsets
none_left v w s p n e = rw e

-- ---- a geometry

module _ (v w : Version) (s : List ℕ) (at : ℕ) (h : at + size_in v 6 ≤ length s) where
  abbrev geometry : List ℕ
  geometry = take (size_in v 6) (drop at s)

  pub geometry_long : length geometry ≡ size_in v 6
  geometry_long = length-take-le (size_in v 6) (drop at s) (rw length-drop (omega arith))

  front : take 5 geometry ≡ take 5 (drop at s)
  front = take-take 5 (size_in v 6) (drop at s) (omega (arith, geometry-size v))

  offset : le_at (offset_width v) geometry 5 ≡ le_at (offset_width v) s (at + 5)
  offset = le_take (offset_width v) (size_in v 6) (drop at s) 5 (omega (arith, geometry-size v)) ∙ le_drop (offset_width v) at s 5

  rest : drop (5 + offset_width v) geometry ≡ take 35 (drop (at + 5 + offset_width v) s)
  rest =
      let k = 5 + offset_width v in
      let e : size_in v 6 ≡ k + 35 = omega (arith, geometry-size v) in
      let l = length-take-le k (drop at s) (rw length-drop (omega (arith, geometry-size v))) in
      let a : at + k ≡ at + 5 + offset_width v = omega arith in
      ap (λ (n : ℕ). drop k (take n (drop at s))) e
      ∙ ap (drop k) (take-add k 35 (drop at s))
      ∙ drop_at (take k (drop at s)) (take 35 (drop k (drop at s))) k l
      ∙ ap (take 35) (drop-drop k at s ∙ ap (λ (n : ℕ). drop n s) a)

  -- its three parts, one after the other
  pub record_written :
      (to : ℕ) (out out₁ : List ℕ) {out₂ out₃ : List ℕ}
      → out₁ ≡ sets out to (take 5 (drop at s))
      → out₂ ≡ sets out₁ (to + 5) (le_bytes (offset_width w) (le_at (offset_width v) s (at + 5)))
      → out₃ ≡ sets out₂ (to + 5 + offset_width w) (take 35 (drop (at + 5 + offset_width v) s))
      → out₃ ≡ sets out to (converted_record v w geometry)
  unfolding converted_record
  record_written to out out₁ a b c =
      let x = take 5 (drop at s) in
      let y = le_bytes (offset_width w) (le_at (offset_width v) s (at + 5)) in
      let z = take 35 (drop (at + 5 + offset_width v) s) in
      let lx : length x ≡ 5 = length-take-le 5 (drop at s) (rw length-drop (omega (arith, geometry-size v))) in
      let ly : length y ≡ offset_width w = length-le_bytes (offset_width w) (le_at (offset_width v) s (at + 5)) in
      let p : to + 5 + offset_width w ≡ to + 5 + length y = omega (arith, ly) in
      let q : to + 5 ≡ to + length x = omega (arith, lx) in
      c
      ∙ ap (λ (u : List ℕ). sets u (to + 5 + offset_width w) z) b
      ∙ ap (λ (n : ℕ). sets (sets out₁ (to + 5) y) n z) p
      ∙ sets-append y z out₁ (to + 5)
      ∙ ap (λ (u : List ℕ). sets u (to + 5) (y ++ z)) a
      ∙ ap (λ (n : ℕ). sets (sets out to x) n (y ++ z)) q
      ∙ sets-append x (y ++ z) out to
      ∙ (λ i. sets out to (sym front i ++ (le_bytes (offset_width w) (sym offset i) ++ sym rest i)))

  -- it, and then the others
  pub records_next :
      (to n : ℕ) (out : List ℕ) {out₁ : List ℕ}
      → 0 < n
      → out₁ ≡ sets out to (converted_record v w geometry)
      → sets out₁ (to + size_in w 6) (converted_records v w (drop (at + size_in v 6) s) (n - 1))
      ≡ sets out to (converted_records v w (drop at s) n)
  unfolding converted_records
  records_next to (suc n) out k e =
      let l : to + size_in w 6 ≡ to + length (converted_record v w geometry) = omega (arith, record_length v w geometry geometry_long) in
      rw (sub-one (suc n), e, l, ← drop-drop (size_in v 6) at s)
      (sets-append (converted_record v w geometry) (converted_records v w (drop (size_in v 6) (drop at s)) n) out to)
  records_next to zero out k e = absurd (omega arith)

pub nothing_left : (v w : Version) (s out : List ℕ) (at n : ℕ) → n ≡ 0 → sets out at (converted_records v w s n) ≡ out
unfolding converted_records
nothing_left v w s out at n e = rw e

-- those of a list's first bytes
pub records_first :
    (v w : Version) (n : ℕ) (u r : List ℕ) → n * size_in v 6 ≤ length u → converted_records v w (u ++ r) n ≡ converted_records v w u n
unfolding converted_records
records_first v w zero u r h = refl
records_first v w (suc n) u r h =
    let h' = rw suc-mul at h in
    rw (
      take-append-le (size_in v 6) u r (omega arith),
      drop-append-le (size_in v 6) u r (omega arith),
      records_first v w n (drop (size_in v 6) u) r (rw length-drop (omega arith)),
    )
