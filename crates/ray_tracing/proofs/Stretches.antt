-- Stretches of scratch: each offset is a multiple of the alignment, and the stretches from offsets on, each as long as its unrounded size, are
-- apart and within the total. A total is not below the one before it.
use mathlib.Core.Path.{◌≡◌, refl, sym, ap, ◌∙◌}
use Prim.Native.Nat.{ℕ, ◌-◌, zero, suc, ◌+◌, ◌/◌, ◌%◌, ◌≤◌, ◌<◌}
use native.Mathlib.Nat.{zero-add, add-zero, not-suc-le-zero, le_of_suc-le-suc, add-mul-mod_self_right, zero-mod}
use native.Mathlib.Numerals.{add-one}
use native.Mathlib.Omega.{arith}
use lib.ListN.{get_or}
use Rattle.scratch.specs.Scratch.{add_rounded}
use Rattle.scratch.proofs.Laws.{round_above}
use Rattle.ray_tracing.specs.Plan.{total_from, offsets_from}

module _ (size_of : ℕ → ℕ) (a : ℕ) where
  total-next :
      (t i n : ℕ) → total_from size_of a t i (suc n) ≡ add_rounded (total_from size_of a t i n) (size_of (i + n)) a
  unfolding total_from
  total-next t i zero = ap (λ (k : ℕ). add_rounded t (size_of k) a) (sym (add-zero i))
  total-next t i (suc n) =
      let next = add_rounded t (size_of i) a in
      let e : i + 1 + n ≡ i + suc n = omega arith in
      total-next next (i + 1) n ∙ ap (λ (k : ℕ). add_rounded (total_from size_of a next (i + 1) n) (size_of k) a) e

  offset_at : (t i n k : ℕ) → k < n → get_or (offsets_from size_of a t i n) k 0 ≡ total_from size_of a t i k
  unfolding offsets_from total_from
  offset_at t i zero k h = absurd (not-suc-le-zero h)
  offset_at t i (suc n) zero h = refl
  offset_at t i (suc n) (suc k) h = offset_at (add_rounded t (size_of i) a) (i + 1) n k (le_of_suc-le-suc h)

  -- the total of the first k sizes
  abbrev total : ℕ → ℕ
  total k = total_from size_of a 0 0 k

  total_more : (k : ℕ) → total (k + 1) ≡ add_rounded (total k) (size_of k) a
  total_more k = ap total (add-one k) ∙ total-next 0 0 k ∙ ap (λ (j : ℕ). add_rounded (total k) (size_of j) a) (zero-add k)

  -- one more size, as a loop adds it
  pub total-step : {t : ℕ} (k : ℕ) → t ≡ total k → add_rounded t (size_of k) a ≡ total (k + 1)
  total-step k e = ap (λ (s : ℕ). add_rounded s (size_of k) a) e ∙ sym (total_more k)

  pub total-none : total 0 ≡ 0
  unfolding total_from
  total-none = refl

  total_mono : (k d : ℕ) → total k ≤ total (k + d)
  total_mono k zero = rw add-zero (omega arith)
  total_mono k (suc d) =
      let e : k + suc d ≡ k + d + 1 = omega arith in
      rw (e, total_more (k + d)) (omega (arith, total_mono k d))

  pub total_upto : (k n : ℕ) → k ≤ n → total k ≤ total n
  total_upto k n l =
      let e : k + (n - k) ≡ n = omega arith in
      omega (arith, total_mono k (n - k), ap total e)

  multiple : (k : ℕ) → total k % a ≡ 0
  multiple zero = rw total-none (zero-mod a)
  multiple (suc k) =
      ap (λ (m : ℕ). m % a) (ap total (sym (add-one k)) ∙ total_more k)
      ∙ add-mul-mod_self_right (total k) ((size_of k + (a - 1)) / a) a
      ∙ multiple k

  module _ (n : ℕ) where
    abbrev offsets : ℕ → ℕ
    offsets k = get_or (offsets_from size_of a 0 0 n) k 0

    pub offsets-aligned : (k : ℕ) → k < n → offsets k % a ≡ 0
    offsets-aligned k l = rw (offset_at 0 0 n k l) (multiple k)

    module _ (one : 1 ≤ a) where
      stretch-end : (k : ℕ) → k < n → offsets k + size_of k ≤ total (k + 1)
      stretch-end k l = rw (offset_at 0 0 n k l) (omega (arith, total_more k, round_above (size_of k) a one))

      pub stretches-apart : (j k : ℕ) → j < k → k < n → offsets j + size_of j ≤ offsets k
      stretches-apart j k l m =
          omega (arith, stretch-end j (omega arith), offset_at 0 0 n k m, total_upto (j + 1) k (omega arith))

      pub stretches-within : (k : ℕ) → k < n → offsets k + size_of k ≤ total n
      stretches-within k l = omega (arith, stretch-end k l, total_upto (k + 1) n (omega arith))
