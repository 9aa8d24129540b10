-- A table that is judged fine stays so when a Build writes a record's number and state: each other record has the bytes it had.
use Prim.Native.Nat.{ℕ, zero, suc, ◌+◌, ◌*◌, ◌/◌, ◌%◌, ◌^◌, ◌<◌}
use native.Mathlib.Nat.{add_assoc, suc-mul, zero-add}
use native.Mathlib.Decide.{dec_lt, ℕ_discrete}
use native.Mathlib.Omega.{arith}
use mathlib.Core.Path.{◌≡◌, refl, sym, ap, ◌∙◌}
use mathlib.Core.Bool.{false, not, ◌||◌}
use mathlib.Core.List.{List, [], ◌∷◌}
use lib.ListN.{length, get_or}
use lib.Dec.{ltb, leb, eqb}
use Rattle.wire.specs.Wire.{le_at}
use Rattle.wire.proofs.Laws.{le_cong}
use Rattle.ray_tracing.specs.declared.Blas.{Blas}
use Rattle.ray_tracing.specs.declared.Tlas.{Tlas}
use Rattle.ray_tracing.specs.Layout.{Seen, Field, fits, layout, size, total}
use Rattle.ray_tracing.specs.Records.{blas_at, tlas_at}
use Rattle.ray_tracing.specs.Reading.{Judged, fine, refused, judged_when, ◌and_next◌, judge_fields, judge_records, judge_lent, begin, by_record}
use Rattle.ray_tracing.specs.Submission.{blas_in, tlas_in, built_blas, built_tlas}
use Rattle.ray_tracing.proofs.Tables.{blas_with, tlas_with, built-length, built-before, built-past, built_same, tlas-length, tlas-before, tlas-past, tlas_same}

pub or_fine : (a b : Judged) → a and_next b ≡ fine → (a ≡ fine) × (b ≡ fine)
or_fine fine b e = (refl, e)
or_fine (refused n p) b e = let z : ◌≡◌ {A = ℕ} 0 1 = cc in absurd (omega arith)

pub fine_or : {a b : Judged} → a ≡ fine → b ≡ fine → a and_next b ≡ fine
fine_or {a} {b} e f = rw e f

-- ---- a record

-- goes by its own bytes and the table's length
fields_cong : (fs : List Field) (c : Seen) (s t : List ℕ) (at : ℕ) → length s ≡ length t
    → ((k : ℕ) → k < total fs → get_or s (at + k) 0 ≡ get_or t (at + k) 0) → judge_fields c s at fs ≡ judge_fields c t at fs
unfolding judge_fields
fields_cong [] c s t at e h = refl
fields_cong (f ∷ fs) c s t at e h =
    let v : le_at f.width s at ≡ le_at f.width t at = le_cong f.width s t at at (λ k l. h k (omega arith)) in
    rw (e, v)
    (ap (λ (j : Judged). (judged_when (ltb (length t) (at + f.width)) (refused 2 at) and_next judged_when (not (fits f c (le_at f.width t at))) (refused 5 at)) and_next j)
    (fields_cong fs (f.after c (le_at f.width t at)) s t (at + f.width) e (λ k l. rw add_assoc (h (f.width + k) (omega arith)))))

-- ---- records

module _ (c : Seen) (fs : List Field) (s t : List ℕ) where
  records_kept : (at n : ℕ)
      → ((j : ℕ) → j < n → judge_fields c s (at + j * total fs) fs ≡ fine → judge_fields c t (at + j * total fs) fs ≡ fine)
      → judge_records c fs s at n ≡ fine → judge_records c fs t at n ≡ fine
  unfolding judge_records
  records_kept at zero k e = refl
  records_kept at (suc n) k e =
      let p = or_fine (judge_fields c s at fs) (judge_records c fs s (at + total fs) n) e in
      fine_or (here (k 0 (omega arith)) p.0) (records_kept (at + total fs) n (λ j l. there j (k (suc j) (omega arith))) p.1)
    where
      here : (judge_fields c s (at + 0 * total fs) fs ≡ fine → judge_fields c t (at + 0 * total fs) fs ≡ fine)
          → judge_fields c s at fs ≡ fine → judge_fields c t at fs ≡ fine
      here g = let z : at + 0 * total fs ≡ at = omega arith in rw z at g

      there : (j : ℕ) → (judge_fields c s (at + suc j * total fs) fs ≡ fine → judge_fields c t (at + suc j * total fs) fs ≡ fine)
          → judge_fields c s (at + total fs + j * total fs) fs ≡ fine → judge_fields c t (at + total fs + j * total fs) fs ≡ fine
      there j g = let z : at + suc j * total fs ≡ at + total fs + j * total fs = omega (arith, suc-mul j (total fs)) in rw z at g

-- ---- the records that a Build writes

-- a u8 of at most n at o, a number of any value, of which only the place is judged
abbrev small : ℕ → ℕ → ℕ → ℕ → Judged
small len at n v = judged_when (ltb len (at + 1)) (refused 2 at) and_next judged_when (not (leb v n || false)) (refused 5 at)

abbrev number : ℕ → ℕ → ℕ → Judged
number len at w = judged_when (ltb len (at + w)) (refused 2 at) and_next fine

-- a Blas's fields by their values
blas-fields : ℕ → ℕ → Blas → Judged
blas-fields len at r =
    small len at 1 r.kind
    and_next small len (at + 1) 7 r.flags
    and_next small len (at + 2) 3 r.compacted_state
    and_next small len (at + 3) 1 r.destroyed
    and_next number len (at + 4) 8
    and_next number len (at + 12) 8
    and_next number len (at + 20) 8
    and_next fine

blas_judged : (c : Seen) (s : List ℕ) (at : ℕ) → judge_fields c s at (layout 2).fields ≡ blas-fields (length s) at (blas_at s at)
unfolding judge_fields blas-fields
blas_judged c s at = simp add_assoc

blas-kept : (len at n : ℕ) (r : Blas) → blas-fields len at r ≡ fine → blas-fields len at (blas_with 0 n r) ≡ fine
unfolding blas-fields
blas-kept len at n r e =
    let a = or_fine (small len at 1 r.kind) _ e in
    let b = or_fine (small len (at + 1) 7 r.flags) _ a.1 in
    let c = or_fine (small len (at + 2) 3 r.compacted_state) _ b.1 in
    let d = or_fine (judged_when (ltb len (at + 2 + 1)) (refused 2 (at + 2))) _ c.0 in
    fine_or a.0 (fine_or b.0 (fine_or (fine_or d.0 refl) c.1))

-- a Tlas's fields by their values
tlas-fields : ℕ → ℕ → Tlas → Judged
tlas-fields len at r =
    (judged_when (ltb len (at + 1)) (refused 2 at) and_next judged_when (not ((eqb r.flags 0 || eqb r.flags 2) || false)) (refused 5 at))
    and_next small len (at + 1) 1 r.destroyed
    and_next number len (at + 2) 8
    and_next number len (at + 10) 4
    and_next number len (at + 14) 8
    and_next fine

tlas_judged : (c : Seen) (s : List ℕ) (at : ℕ) → judge_fields c s at (layout 4).fields ≡ tlas-fields (length s) at (tlas_at s at)
unfolding judge_fields tlas-fields
tlas_judged c s at = simp add_assoc

tlas-kept : (len at n : ℕ) (r : Tlas) → tlas-fields len at r ≡ fine → tlas-fields len at (tlas_with n r) ≡ fine
unfolding tlas-fields
tlas-kept len at n r e = e

-- ---- a table whose fields go by nothing but their values

abbrev plain : ℕ → List Field → Seen → List ℕ → Judged
plain most fs c s =
    judged_when (ltb most (length s / total fs)) (refused 4 0)
    and_next by_record (total fs) (judge_records c fs s 0 (length s / total fs))
    and_next judged_when (not (eqb (length s % total fs) 0)) (refused 5 (length s / total fs))

by_record-fine : (w : ℕ) (j : Judged) → by_record w j ≡ fine → j ≡ fine
by_record-fine w fine e = refl
by_record-fine w (refused n p) e = let z : ◌≡◌ {A = ℕ} 0 1 = cc in absurd (omega arith)

plain_kept : (most : ℕ) (fs : List Field) (c : Seen) (s t : List ℕ) → length t ≡ length s
    → ((j : ℕ) → judge_fields c s (j * total fs) fs ≡ fine → judge_fields c t (j * total fs) fs ≡ fine)
    → plain most fs c s ≡ fine → plain most fs c t ≡ fine
plain_kept most fs c s t q k e =
    let n = length s / total fs in
    let a = or_fine (judged_when (ltb most n) (refused 4 0)) _ e in
    let b = or_fine (by_record (total fs) (judge_records c fs s 0 n)) _ a.1 in
    let r : judge_records c fs t 0 n ≡ fine = records_kept c fs s t 0 n (λ j l. rw zero-add (k j)) (by_record-fine (total fs) _ b.0) in
    rw q (fine_or a.0 (fine_or (ap (by_record (total fs)) r) b.1))

-- ---- the Blases and the Tlases after a write

module _ (n b : ℕ) (s : List ℕ) (f : n < 2 ^ 64) (l : b < length s / size 2) (c : Seen) where
  blas_record : (j : ℕ) → judge_fields c s (j * size 2) (layout 2).fields ≡ fine → judge_fields c (built_blas n b s) (j * size 2) (layout 2).fields ≡ fine
  unfolding blas_in
  blas_record j e =
      elim (ℕ_discrete j b) [
        | yes q ↦ rw q (
            blas_judged c (built_blas n b s) (b * size 2)
            ∙ (λ i. blas-fields (built-length n b s i) (b * size 2) (built_same n b s (omega arith) f i))
            ∙ blas-kept (length s) (b * size 2) n (blas_at s (b * size 2)) (sym (blas_judged c s (b * size 2)) ∙ (rw q at e)))
        | no d ↦ fields_cong (layout 2).fields c (built_blas n b s) s (j * size 2) (built-length n b s) (λ k m. bytes j d k m) ∙ e
      ]
    where
      bytes : (j : ℕ) → ¬ (j ≡ b) → (k : ℕ) → k < size 2 → get_or (built_blas n b s) (j * size 2 + k) 0 ≡ get_or s (j * size 2 + k) 0
      bytes j d k m =
          elim (dec_lt j b) [
            | yes h ↦ built-before n b s (j * size 2 + k) (omega arith)
            | no h ↦ built-past n b s (j * size 2 + k) (omega arith)
          ]

module _ (n b : ℕ) (s : List ℕ) (f : n < 2 ^ 64) (l : b < length s / size 4) (c : Seen) where
  tlas_record : (j : ℕ) → judge_fields c s (j * size 4) (layout 4).fields ≡ fine → judge_fields c (built_tlas n b s) (j * size 4) (layout 4).fields ≡ fine
  unfolding tlas_in
  tlas_record j e =
      elim (ℕ_discrete j b) [
        | yes q ↦ rw q (
            tlas_judged c (built_tlas n b s) (b * size 4)
            ∙ (λ i. tlas-fields (tlas-length n b s i) (b * size 4) (tlas_same n b s (omega arith) f i))
            ∙ tlas-kept (length s) (b * size 4) n (tlas_at s (b * size 4)) (sym (tlas_judged c s (b * size 4)) ∙ (rw q at e)))
        | no d ↦ fields_cong (layout 4).fields c (built_tlas n b s) s (j * size 4) (tlas-length n b s) (λ k m. bytes j d k m) ∙ e
      ]
    where
      bytes : (j : ℕ) → ¬ (j ≡ b) → (k : ℕ) → k < size 4 → get_or (built_tlas n b s) (j * size 4 + k) 0 ≡ get_or s (j * size 4 + k) 0
      bytes j d k m =
          elim (dec_lt j b) [
            | yes h ↦ tlas-before n b s (j * size 4 + k) (omega arith)
            | no h ↦ tlas-past n b s (j * size 4 + k) (omega arith)
          ]

pub blases-kept : (n b w : ℕ) (s t : List ℕ) → n < 2 ^ 64 → b < length s / size 2
    → judge_lent 2 (layout 2) w t s ≡ fine → judge_lent 2 (layout 2) w t (built_blas n b s) ≡ fine
unfolding judge_lent
blases-kept n b w s t f l e =
    plain_kept 128 (layout 2).fields (begin w t false) s (built_blas n b s) (built-length n b s) (blas_record n b s f l (begin w t false)) e

pub tlases-kept : (n i w : ℕ) (s t : List ℕ) → n < 2 ^ 64 → i < length s / size 4
    → judge_lent 4 (layout 4) w t s ≡ fine → judge_lent 4 (layout 4) w t (built_tlas n i s) ≡ fine
unfolding judge_lent
tlases-kept n i w s t f l e =
    plain_kept 32 (layout 4).fields (begin w t false) s (built_tlas n i s) (tlas-length n i s) (tlas_record n i s f l (begin w t false)) e
