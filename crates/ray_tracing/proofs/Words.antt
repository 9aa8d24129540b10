-- Demand 3's rule as the history tests it is the rule as the claim words it.
use Prim.Native.Nat.{ℕ}
use native.Mathlib.Omega.{arith}
use mathlib.Core.Path.{◌≡◌, refl, ap}
use mathlib.Core.Logic.{◌↔◌}
use mathlib.Core.Bool.{Bool, true, false, ◌&&◌, not}
use mathlib.Core.List.{List, [], ◌∷◌}
use lib.Dec.{eqb, leb}
use borrow.Author.Tests.{eqb-false, ne_eqb, leb-true, le-leb, not-true}
use Rattle.ray_tracing.specs.Submission.{Lent, blas}
use Rattle.ray_tracing.specs.History.{every, Built, blas_number, latest, usable_blas, usable}
use Rattle.ray_tracing.specs.Claim.{Each, UsableBlas, Usable}

and_iff : (a b : Bool) {A B : Type 0} → (a ≡ true ↔ A) → (b ≡ true ↔ B) → ((a && b) ≡ true ↔ A × B)
and_iff true b p q = (λ e. (p.0 refl, q.0 e), λ w. q.1 w.1)
and_iff false b p q = (λ e. let z : ◌≡◌ {A = ℕ} 0 1 = cc in absurd (omega arith), λ w. p.1 w.0)

differ_iff : (n k : ℕ) → (not (eqb n k) ≡ true ↔ ¬ (n ≡ k))
differ_iff n k = (λ e. eqb-false n k (not-true (eqb n k) e), λ w. ap not (ne_eqb n k w))

every_iff : (f : ℕ → Bool) (P : ℕ → Type 0) → ((x : ℕ) → (f x ≡ true ↔ P x)) → (xs : List ℕ) → (every f xs ≡ true ↔ Each P xs)
every_iff f P k [] = (λ e. tt, λ w. refl)
every_iff f P k (x ∷ xs) = and_iff (f x) (every f xs) (k x) (every_iff f P k xs)

usable_blas_iff : (l : Lent) (h : List Built) (t b : ℕ) → (usable_blas l h t b ≡ true ↔ UsableBlas l h t b)
usable_blas_iff l h t b =
    let e =
    and_iff (not (eqb (blas_number l h b) 0)) (leb (blas_number l h b) (latest l h t).number && not (eqb (blas l b).destroyed 1)) (differ_iff (blas_number l h b) 0)
    (and_iff (leb (blas_number l h b) (latest l h t).number) (not (eqb (blas l b).destroyed 1))
    (leb-true (blas_number l h b) (latest l h t).number, le-leb (blas_number l h b) (latest l h t).number)
    (differ_iff (blas l b).destroyed 1)) in
    (λ q. let w = e.0 q in record { numbered = w.0; not_above = w.1.0; not_destroyed = w.1.1 }, λ w. e.1 (w.numbered, (w.not_above, w.not_destroyed)))

pub usable_iff : (l : Lent) (h : List Built) (t : ℕ) → (usable l h t ≡ true ↔ Usable l h t)
usable_iff l h t =
    let e =
    and_iff (not (eqb (latest l h t).number 0)) (every (usable_blas l h t) (latest l h t).dependencies) (differ_iff (latest l h t).number 0)
    (every_iff (usable_blas l h t) (UsableBlas l h t) (usable_blas_iff l h t) (latest l h t).dependencies) in
    (λ q. let w = e.0 q in record { numbered = w.0; dependencies = w.1 }, λ w. e.1 (w.numbered, w.dependencies))
