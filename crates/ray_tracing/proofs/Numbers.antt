-- Laws of `nan_of` and `bits_of`: every pattern, a NaN's too, comes back whole, and what is written for a number is a pattern of it.
use mathlib.Core.Path.{◌≡◌, refl, sym, ap, ◌∙◌, subst}
use mathlib.Core.Logic.{◌⊎◌, inl, inr}
use Prim.Native.Nat.{ℕ, ◌^◌, ◌<◌}
use mathlib.Core.Bool.{Bool, true, false, not, cond, ◌&&◌, false≢true, true≢false}
use lib.Dec.{T}
use lib.Ieee.{Float, nan, inf, fin, binary32, of_bits, of_fields, odd, div, to_bits, nan_bits, is_nan, ne, fits}
use lib.Ieee.Compare.{differs_from_itself, nan_differs}
use lib.Ieee.Bits.{nan_bits_is, to_bits-of_bits, of_bits-to_bits}
use Rattle.ray_tracing.specs.Instances.{nan_of, bits_of}

-- ---- a NaN is what differs from itself

is_nan_nan : is_nan nan ≡ true
unfolding is_nan
is_nan_nan = refl

pub is_nan_is : (x : Float) → is_nan x ≡ true → x ≡ nan
unfolding is_nan
is_nan_is nan e = refl
is_nan_is (inf s) e = absurd (false≢true e)
is_nan_is (fin s m k) e = absurd (false≢true e)

quiet : to_bits binary32 nan ≡ 2143289344
unfolding to_bits
quiet = refl

-- ---- `bits_of` by its cases

either : (b : Bool) → (b ≡ true) ⊎ (b ≡ false)
either true = inl refl
either false = inr refl

pub bits_kept : (x : Float) (n : ℕ) → x ≡ nan → nan_bits binary32 n ≡ true → bits_of x n ≡ n
unfolding bits_of
bits_kept x n e k = ap (λ (y : Float). cond (is_nan y && nan_bits binary32 n) n (to_bits binary32 y)) e ∙ simp (is_nan_nan, k)

pub bits_quiet : (x : Float) (n : ℕ) → x ≡ nan → nan_bits binary32 n ≡ false → bits_of x n ≡ 2143289344
unfolding bits_of
bits_quiet x n e k = ap (λ (y : Float). cond (is_nan y && nan_bits binary32 n) n (to_bits binary32 y)) e ∙ simp (is_nan_nan, k, quiet)

pub bits_plain : (x : Float) (n : ℕ) → is_nan x ≡ false → bits_of x n ≡ to_bits binary32 x
unfolding bits_of
bits_plain x n e = simp e

-- ---- there and back

pub of_bits_nan : (b : ℕ) → nan_bits binary32 b ≡ true → of_bits binary32 b ≡ nan
of_bits_nan b e = is_nan_is (of_bits binary32 b) (sym (nan_bits_is binary32 b) ∙ e)

pub nan_of_nan : (b : ℕ) → nan_bits binary32 b ≡ true → nan_of b ≡ b
unfolding nan_of
nan_of_nan b e = simp e

pub nan_of_plain : (b : ℕ) → nan_bits binary32 b ≡ false → nan_of b ≡ 0
unfolding nan_of
nan_of_plain b e = simp e

-- every pattern, read and written, is itself
pub bits_back : (b : ℕ) → b < 2 ^ 32 → bits_of (of_bits binary32 b) (nan_of b) ≡ b
bits_back b h = go (either (nan_bits binary32 b))
  where
    go : (nan_bits binary32 b ≡ true) ⊎ (nan_bits binary32 b ≡ false) → bits_of (of_bits binary32 b) (nan_of b) ≡ b
    go (inl e) = ap (bits_of (of_bits binary32 b)) (nan_of_nan b e) ∙ bits_kept (of_bits binary32 b) b (of_bits_nan b e) e
    go (inr e) =
        let k : is_nan (of_bits binary32 b) ≡ false = sym (nan_bits_is binary32 b) ∙ e in
        bits_plain (of_bits binary32 b) (nan_of b) k ∙ to_bits-of_bits binary32 b h (subst (λ (t : Bool). T (not t)) (sym k) tt)

-- whatever is kept beside it, what is written for a value is a pattern of that value
pub value_back : (x : Float) (n : ℕ) → T (fits binary32 x) → of_bits binary32 (bits_of x n) ≡ x
value_back x n f = go (either (is_nan x)) (either (nan_bits binary32 n))
  where
    go : (is_nan x ≡ true) ⊎ (is_nan x ≡ false) → (nan_bits binary32 n ≡ true) ⊎ (nan_bits binary32 n ≡ false) → of_bits binary32 (bits_of x n) ≡ x
    go (inr p) q = ap (of_bits binary32) (bits_plain x n p) ∙ of_bits-to_bits binary32 x f
    go (inl p) (inl q) = ap (of_bits binary32) (bits_kept x n (is_nan_is x p) q) ∙ of_bits_nan n q ∙ sym (is_nan_is x p)
    go (inl p) (inr q) = ap (of_bits binary32) (bits_quiet x n (is_nan_is x p) q ∙ sym quiet ∙ ap (to_bits binary32) (sym (is_nan_is x p))) ∙ of_bits-to_bits binary32 x f
