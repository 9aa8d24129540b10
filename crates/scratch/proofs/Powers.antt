-- Powers of two: the test by trying each, the test by bits, and the sentence say the same; a mask rounds as the division does.
use mathlib.Core.Path.{◌≡◌, refl, sym, ap, ◌∙◌}
use mathlib.Core.Bool.{Bool, true, false, ◌||◌, or-true, false≢true}
use mathlib.Core.Logic.{◌↔◌}
use Prim.Native.Nat.{ℕ, zero, suc, ◌+◌, ◌-◌, ◌*◌, ◌/◌, ◌^◌, ◌≤◌, ◌<◌}
use native.Mathlib.Nat.{le-div_iff_mul-le, mul-le-mul_right, lt_of_not-le, not-le_of_lt, pow-suc}
use native.Mathlib.Omega.{arith}
use lib.Bits.{bit_and, and_le_l, and_high}
use lib.Count.{leading_top, ones}
use lib.Dec.{ltb, eqb}
use lib.Pow.{pow_pos, pow_mono, pow-add, shr_mod}
use borrow.Author.Tests.{ltb-true, ltb-false, eqb-true, eq-eqb}
use Rattle.std.specs.Prelude.{Some, None, count_ones, ◌==◌}
use Rattle.std.proofs.lemmas.Nat.{zero_from_ones, ones_le_self, ones_cat}
use Rattle.scratch.specs.Scratch.{round_up, reported, PowerOfTwo, power_below, power_of_two}
use Rattle.scratch.proofs.Laws.{up_to, past as up_past}

-- ---- the sentence, and trying each

either : {X : Type 0} (a b : Bool) → (a || b) ≡ true → (a ≡ true → X) → (b ≡ true → X) → X
either true b e f g = f refl
either false b e f g = g e

found : (m n : ℕ) → power_below m n ≡ true → PowerOfTwo n
unfolding power_below
found zero n e = absurd (false≢true e)
found (suc m) n e = either (eqb n (2 ^ m)) (power_below m n) e (λ q. (m, eqb-true n (2 ^ m) q)) (found m n)

tried : (m n k : ℕ) → k < m → n ≡ 2 ^ k → power_below m n ≡ true
unfolding power_below
tried zero n k h e = absurd (omega arith)
tried (suc m) n k h e = go (ltb k m) refl (λ l. tried m n k l e)
  where
    go : (t : Bool) → ltb k m ≡ t → (k < m → power_below m n ≡ true) → (eqb n (2 ^ m) || power_below m n) ≡ true
    go true q f = rw (f (ltb-true k m q)) (or-true (eqb n (2 ^ m)))
    go false q f =
        let last : k ≡ m = omega (arith, h, ltb-false k m q) in
        rw (eq-eqb n (2 ^ m) (e ∙ ap (λ (i : ℕ). 2 ^ i) last)) refl

exponent_below : (k w : ℕ) → 2 ^ k < 2 ^ w → k < w
exponent_below k w h = lt_of_not-le (λ g. not-le_of_lt h (pow_mono g))

-- the test is yes exactly for the powers of two
pub power_exactly : (n : ℕ) → n < 2 ^ 64 → (power_of_two n ≡ true) ↔ PowerOfTwo n
unfolding power_of_two
power_exactly n h = (found 64 n, λ p. tried 64 n p.0 (exponent_below p.0 64 (rw (← p.1) h)) p.1)

-- ---- by bits

-- a power of two has one bit
one_bit : (n : ℕ) → PowerOfTwo n → count_ones n ≡ 1
unfolding ones
one_bit n p =
    let split : n ≡ 1 * 2 ^ p.0 + 0 = omega (arith, p.1) in
    rw split (ones_cat p.0 1 0 (pow_pos p.0))

-- a number of one bit is its highest
alone : (n : ℕ) → n < 2 ^ 64 → count_ones n ≡ 1 → PowerOfTwo n
unfolding ones
alone n l e =
    let t = leading_top 64 n (omega (arith, e, ones_le_self n)) l in
    let j = t.0 in
    let rest : n - 2 ^ j < 2 ^ j = omega (arith, t.3, pow-suc 2 j) in
    let split : n ≡ 1 * 2 ^ j + (n - 2 ^ j) = omega (arith, t.2) in
    let bits : count_ones n ≡ 1 + count_ones (n - 2 ^ j) = ap count_ones split ∙ ones_cat j 1 (n - 2 ^ j) rest in
    (j, omega (arith, t.2, zero_from_ones (n - 2 ^ j) (omega (arith, bits, e))))

pub power_bits : (n : ℕ) → n < 2 ^ 64 → (count_ones n == 1) ≡ power_of_two n
power_bits n h = go (count_ones n == 1) (power_of_two n) refl refl
  where
    go : (b t : Bool) → (count_ones n == 1) ≡ b → power_of_two n ≡ t → b ≡ t
    go true t p q = sym ((power_exactly n h).1 (alone n h (eqb-true (count_ones n) 1 p))) ∙ q
    go false true p q = sym p ∙ eq-eqb (count_ones n) 1 (one_bit n ((power_exactly n h).0 q))
    go false false p q = refl

pub power_none : power_of_two 0 ≡ false
unfolding ones
power_none = sym (power_bits 0 (omega arith))

-- ---- rounding by a mask

module _ (n k : ℕ) (h : k < 64) where
  -- 2^64 is a multiple of 2^k
  whole : 2 ^ 64 ≡ 2 ^ (64 - k) * 2 ^ k
  whole =
      let w : 64 ≡ 64 - k + k = omega arith in
      ap (λ (i : ℕ). 2 ^ i) w ∙ pow-add 2 (64 - k) k

  masked : n < 2 ^ 64 → bit_and n ((2 ^ 64 - 1) - (2 ^ k - 1)) ≡ n / 2 ^ k * 2 ^ k
  masked l =
      let w : 64 - k + k ≡ 64 = omega arith in
      let mask : (2 ^ 64 - 1) - (2 ^ k - 1) ≡ 2 ^ (64 - k + k) - 2 ^ k = rw w (omega (arith, pow_pos k)) in
      ap (bit_and n) mask ∙ and_high n (64 - k) k ∙ ap (λ (i : ℕ). i * 2 ^ k) (shr_mod (64 - k) k (rw w l))

  past : 2 ^ 64 ≤ n + (2 ^ k - 1) → 2 ^ 64 ≤ round_up n (2 ^ k)
  past l =
      let reached : 2 ^ (64 - k) ≤ (n + (2 ^ k - 1)) / 2 ^ k = (le-div_iff_mul-le (pow_pos k)).1 (omega (arith, whole)) in
      omega (arith, whole, mul-le-mul_right (2 ^ k) reached)

module _ (a : ℕ) (h : a < 2 ^ 64) (e : power_of_two a ≡ true) where
  power : PowerOfTwo a
  power = (power_exactly a h).0 e

  exponent_small : power.0 < 64
  exponent_small = exponent_below power.0 64 (rw (← power.1) h)

  pub power_positive : 1 ≤ a
  power_positive = omega (arith, pow_pos power.0, power.1)

  -- what the mask leaves of the sum is the sum divided and multiplied again
  cleared : (n : ℕ) → n + (a - 1) < 2 ^ 64 → bit_and (n + (a - 1)) ((2 ^ 64 - 1) - (a - 1)) ≡ round_up n a
  cleared n l = rw power.1 (masked (n + (2 ^ power.0 - 1)) power.0 exponent_small (rw (← power.1) l))

  pub round_masked :
      (n sum : ℕ) → sum ≡ n + (a - 1) → sum < 2 ^ 64 → Some (bit_and sum ((2 ^ 64 - 1) - (a - 1))) ≡ reported (round_up n a)
  round_masked n sum e l =
      let left = bit_and sum ((2 ^ 64 - 1) - (a - 1)) in
      up_to (2 ^ 64 - 1) left (omega (arith, and_le_l sum ((2 ^ 64 - 1) - (a - 1)))) ∙ ap reported (rw e (cleared n (rw (← e) l)))

  -- a sum past 2^64 - 1 rounds past it
  pub round_past : (n : ℕ) → 2 ^ 64 ≤ n + (a - 1) → 2 ^ 64 ≤ round_up n a
  round_past n l = rw power.1 (past n power.0 exponent_small (rw (← power.1) l))

  -- and is reported
  pub past_reported : (n : ℕ) → 2 ^ 64 ≤ n + (a - 1) → None ≡ reported (round_up n a)
  past_reported n l = up_past (2 ^ 64 - 1) (round_up n a) (omega (arith, round_past n l))
