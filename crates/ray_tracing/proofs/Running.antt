-- Running totals of scratch: one stays below 2^64 - 1, or the first place is named at which it does not, and then the scratch size is not below
-- it either.
use mathlib.Core.Path.{◌≡◌, refl, sym, ◌∙◌}
use mathlib.Core.Bool.{Bool, true, false}
use Prim.Native.Nat.{ℕ, zero, suc, ◌+◌, ◌-◌, ◌^◌, ◌≤◌, ◌<◌}
use native.Mathlib.Numerals.{add-one}
use native.Mathlib.Omega.{arith}
use lib.Dec.{leb, ltb}
use borrow.Author.Tests.{leb-true, leb-false, ltb-true, ltb-false}
use Rattle.ray_tracing.specs.Causes.{Cause, cause}
use Rattle.ray_tracing.specs.Plan.{Tables, Verdict, passed, refused, on, ◌or◌, first_of, records_in, total_from, blas_scratch, tlas_scratch, blas_total, tlas_total, scratch_size, reached_at, tlas_reached, judge_scratch}
use Rattle.ray_tracing.proofs.Verdicts.{refused_not_passed}
use Rattle.ray_tracing.proofs.Stretches.{total-none, total_upto}

-- ---- the first of many that are refused alike

data First (t : ℕ → Bool) (c : Cause) (i n : ℕ) (v : Verdict) : Type 0 where
  none : ((j : ℕ) → i ≤ j → j < i + n → t j ≡ false) → v ≡ passed → First t c i n v
  at : (k : ℕ) → k < i + n → t k ≡ true → ((j : ℕ) → i ≤ j → j < k → t j ≡ false) → v ≡ refused k 0 c → First t c i n v

first-of : (t : ℕ → Bool) (c : Cause) (i n : ℕ) → First t c i n (first_of (λ k. on (t k) (refused k 0 c)) i n)
unfolding first_of
first-of t c i zero = none (λ j l h. absurd (omega (arith, l, h))) refl
first-of t c i (suc n) = go (t i) refl (first-of t c (i + 1) n)
  where
    rest : Verdict
    rest = first_of (λ k. on (t k) (refused k 0 c)) (i + 1) n

    before : (k : ℕ) → t i ≡ false → ((j : ℕ) → i + 1 ≤ j → j < k → t j ≡ false) → (j : ℕ) → i ≤ j → j < k → t j ≡ false
    before k e f j l h = here (ltb i j) refl
      where
        here : (b : Bool) → ltb i j ≡ b → t j ≡ false
        here true q = f j (omega (arith, ltb-true i j q)) h
        here false q =
            let same : i ≡ j = omega (arith, l, ltb-false i j q) in
            rw same at e

    go : (b : Bool) → t i ≡ b → First t c (i + 1) n rest → First t c i (suc n) (on b (refused i 0 c) or rest)
    go true e f = at i (omega arith) e (λ j l h. absurd (omega (arith, l, h))) refl
    go false e (none f p) = none (before (i + suc n) e (λ j l h. f j l (omega (arith, h)))) p
    go false e (at k l q f p) = at k (omega arith) q (before k e f) p

-- ---- a running total

module _ (size_of : ℕ → ℕ) (a figure n : ℕ) where
  -- the total of the first k
  abbrev total : ℕ → ℕ
  total k = total_from size_of a 0 0 k

  -- the first at which it is not below: before it the total is below, and with it it is not
  pub record FirstAt (e : ℕ) : Type 0 where
    pub among : e < n
    pub before : total e < 2 ^ 64 - 1
    pub here : 2 ^ 64 - 1 ≤ total (e + 1)

  pub data Running : Type 0 where
    below : first_of (reached_at size_of a figure) 0 n ≡ passed → total n < 2 ^ 64 - 1 → Running
    reached : (e : ℕ) → first_of (reached_at size_of a figure) 0 n ≡ refused e 0 (cause 37 figure 0 0) → FirstAt e → Running

  pub first_over : (e : ℕ) → FirstAt e → 2 ^ 64 - 1 ≤ total n
  first_over e f = omega (arith, f.here, total_upto size_of a (e + 1) n (omega (arith, f.among)))

  pub running : Running
  running = go (first-of full (cause 37 figure 0 0) 0 n)
    where
      full : ℕ → Bool
      full k = leb (2 ^ 64 - 1) (total (k + 1))

      start : (k : ℕ) → ((j : ℕ) → 0 ≤ j → j < k → full j ≡ false) → total k < 2 ^ 64 - 1
      start zero f = omega (arith, total-none size_of a)
      start (suc k) f = rw (add-one k) at (leb-false (2 ^ 64 - 1) (total (k + 1)) (f k (omega arith) (omega arith)))

      go : First full (cause 37 figure 0 0) 0 n (first_of (reached_at size_of a figure) 0 n) → Running
      go (none f p) = below p (start n (λ j l h. f j l (omega (arith, h))))
      go (at k l q f p) =
          reached k p (record { among = omega arith; before = start k f; here = leb-true (2 ^ 64 - 1) (total (k + 1)) q })

-- ---- both

module _ (x : Tables) where
  abbrev pub EntryFirst : ℕ → Type 0
  EntryFirst e = FirstAt (blas_scratch x) x.alignment 1 (records_in x 5) e

  abbrev pub PackageFirst : ℕ → Type 0
  PackageFirst p = FirstAt (tlas_scratch x) x.alignment 2 (records_in x 7) p

  -- what judging the scratch finds of the two: both stay below; the first entry is named; or the first package, and the entries' total stays
  -- below
  pub data Judged : Type 0 where
    both_below : judge_scratch x ≡ passed → blas_total x < 2 ^ 64 - 1 → tlas_total x < 2 ^ 64 - 1 → Judged
    entry_named : (e : ℕ) → judge_scratch x ≡ refused e 0 (cause 37 1 0 0) → EntryFirst e → Judged
    package-named : (p : ℕ) → judge_scratch x ≡ refused p 0 (cause 37 2 0 0) → blas_total x < 2 ^ 64 - 1 → PackageFirst p → Judged

  pub scratch_judged : Judged
  unfolding judge_scratch
  scratch_judged =
      go (running (blas_scratch x) x.alignment 1 (records_in x 5)) (running (tlas_scratch x) x.alignment 2 (records_in x 7))
    where
      go : Running (blas_scratch x) x.alignment 1 (records_in x 5) → Running (tlas_scratch x) x.alignment 2 (records_in x 7) → Judged
      go (reached e p h) t = entry_named e (λ i. p i or tlas_reached x) h
      go (below p h) (reached e q l) = package-named e (λ i. p i or q i) h l
      go (below p h) (below q l) = both_below (λ i. p i or q i) h l

  pub totals_below : judge_scratch x ≡ passed → (blas_total x < 2 ^ 64 - 1) × (tlas_total x < 2 ^ 64 - 1)
  totals_below h = go scratch_judged
    where
      go : Judged → (blas_total x < 2 ^ 64 - 1) × (tlas_total x < 2 ^ 64 - 1)
      go (both_below p b t) = (b, t)
      go (entry_named e p b) = absurd (refused_not_passed e 0 (cause 37 1 0 0) (sym p ∙ h))
      go (package-named e p b t) = absurd (refused_not_passed e 0 (cause 37 2 0 0) (sym p ∙ h))

  pub refused-size : (judge_scratch x ≡ passed → ⊥) → 2 ^ 64 - 1 ≤ scratch_size x
  unfolding scratch_size
  refused-size h = go scratch_judged
    where
      go : Judged → 2 ^ 64 - 1 ≤ scratch_size x
      go (both_below p b t) = absurd (h p)
      go (entry_named e p f) = omega (arith, first_over (blas_scratch x) x.alignment 1 (records_in x 5) e f)
      go (package-named e p b f) = omega (arith, first_over (tlas_scratch x) x.alignment 2 (records_in x 7) e f)
