-- Parts of a list. What is set stands where it was set. Parts of one width end to end: how long they are, where each stands, and that a
-- list is its parts.
use Prim.Native.Nat.{ℕ, zero, suc, ◌+◌, ◌*◌, ◌≤◌, ◌<◌}
use native.Mathlib.Nat.{mul-zero, mul-suc, mul-le-mul_left, not-suc-le-zero}
use native.Mathlib.Omega.{arith}
use mathlib.Core.Path.{◌≡◌, refl, sym, ap, ◌∙◌}
use mathlib.Core.Bool.{Bool, true, false}
use mathlib.Core.List.{List, [], ◌++◌, append_assoc}
use lib.Dec.{ltb}
use lib.ListN.{length, take, drop, length-append, length-drop}
use lib.Seq.{sets, sets-eq, take_all, take_at, length-take-le, take-append-le, take-add, drop_at, drop-append-le}
use borrow.Author.Tests.{ltb-true, ltb-false}

-- what is set from a place on, where it fits
pub set_part : (vs l : List ℕ) (at : ℕ) → at + length vs ≤ length l → take (length vs) (drop at (sets l at vs)) ≡ vs
set_part vs l at h =
    let rest = drop (at + length vs) l in
    ap (λ (s : List ℕ). take (length vs) (drop at s)) (sets-eq vs l at h ∙ append_assoc (take at l) vs rest)
    ∙ ap (take (length vs)) (drop_at (take at l) (vs ++ rest) at (length-take-le at l (omega arith)))
    ∙ take_at vs rest (length vs) refl

module _
    (w : ℕ)
    (f : ℕ → List ℕ)
    (l : ℕ → List ℕ)
    (none : l 0 ≡ [])
    (more : (n : ℕ) → l (suc n) ≡ l n ++ f n)
    (wide : (k : ℕ) → length (f k) ≡ w)
  where
    pub joined_length : (n : ℕ) → length (l n) ≡ w * n
    joined_length zero = ap length none ∙ sym (mul-zero w)
    joined_length (suc n) =
        ap length (more n) ∙ length-append (l n) (f n) ∙ omega (arith, joined_length n, wide n, mul-suc w n)

    -- where each stands
    pub joined_at : (n k : ℕ) → k < n → take w (drop (w * k) (l n)) ≡ f k
    joined_at zero k h = absurd (not-suc-le-zero h)
    joined_at (suc n) k h = ap (λ (s : List ℕ). take w (drop (w * k) s)) (more n) ∙ go (ltb k n) refl (joined_at n k)
      where
        go :
            (t : Bool)
            → ltb k n ≡ t
            → (k < n → take w (drop (w * k) (l n)) ≡ f k)
            → take w (drop (w * k) (l n ++ f n)) ≡ f k
        go true e before =
            let a = ltb-true k n e in
            let fits : w * suc k ≤ w * n = mul-le-mul_left w a in
            ap (take w) (drop-append-le (w * k) (l n) (f n) (omega (arith, joined_length n, mul-suc w k)))
            ∙ take-append-le w (drop (w * k) (l n)) (f n) (omega (arith, joined_length n, length-drop (w * k) (l n), mul-suc w k))
            ∙ before a
        go false e before =
            let same : n ≡ k = omega (arith, ltb-false k n e) in
            ap (λ (m : ℕ). take w (drop (w * m) (l n ++ f n))) (sym same)
            ∙ ap (take w) (drop_at (l n) (f n) (w * n) (joined_length n))
            ∙ take_all w (f n) (omega (arith, wide n))
            ∙ ap f same

    -- if they are the parts of a list
    pub joined-are : (s : List ℕ) (n : ℕ) → ((k : ℕ) → k < n → f k ≡ take w (drop (w * k) s)) → l n ≡ take (w * n) s
    joined-are s zero h = none ∙ ap (λ (m : ℕ). take m s) (sym (mul-zero w))
    joined-are s (suc n) h =
        more n
        ∙ (λ j. joined-are s n (λ k a. h k (omega arith)) j ++ h n (omega arith) j)
        ∙ sym (take-add (w * n) w s)
        ∙ ap (λ (m : ℕ). take m s) (sym (mul-suc w n))
