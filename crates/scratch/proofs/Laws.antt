-- Laws of roundings: the two cases of one, how far it goes, and what is reported of it.
use mathlib.Core.Path.{◌≡◌, ap, ◌∙◌}
use borrow.Author.Tests.{le-leb, lt-leb}
use Prim.Native.Nat.{ℕ, ◌+◌, ◌-◌, ◌/◌, ◌%◌, ◌≤◌, ◌<◌, ◌^◌}
use native.Mathlib.Nat.{div-eq_of_lt-le, div-add-mod', mod-lt, mul-mod_left}
use native.Mathlib.Omega.{arith}
use Rattle.std.specs.Prelude.{Option, Some, None, SomeIff}
use Rattle.scratch.specs.Scratch.{round_up, or_passed, reported}

-- ---- rounding

module _ (n a : ℕ) (h : 1 ≤ a) where
  pub round_above : n ≤ round_up n a
  round_above = omega (arith, div-add-mod' (n + (a - 1)) a, mod-lt (n + (a - 1)) h)

  pub round_below : round_up n a < n + a
  round_below = omega (arith, div-add-mod' (n + (a - 1)) a)

  -- n is a multiple of a already
  pub round_none : n % a ≡ 0 → round_up n a ≡ n
  round_none e =
      let q : (n + (a - 1)) / a ≡ n / a = div-eq_of_lt-le a (omega (arith, div-add-mod' n a)) (omega (arith, div-add-mod' n a)) in
      rw q (omega (arith, div-add-mod' n a))

  -- n is n % a past a multiple of a
  pub round_more : 0 < n % a → round_up n a ≡ n + (a - n % a)
  round_more e =
      let l : n % a < a = mod-lt n h in
      let q : (n + (a - 1)) / a ≡ n / a + 1 = div-eq_of_lt-le a (omega (arith, div-add-mod' n a)) (omega (arith, div-add-mod' n a)) in
      rw q (omega (arith, div-add-mod' n a))

pub round_multiple : (n a : ℕ) → round_up n a % a ≡ 0
round_multiple n a = mul-mod_left ((n + (a - 1)) / a) a

-- ---- what is reported, by any limit

module _ (limit n : ℕ) where
  pub up_to : n ≤ limit → Some n ≡ or_passed limit n
  up_to h = rw (le-leb n limit h)

  pub past : limit < n → None ≡ or_passed limit n
  past h = rw (lt-leb n limit h)

  pub told-up_to : (k : ℕ) → Some k ≡ or_passed limit n → (k ≡ n) × (n ≤ limit)
  told-up_to k e = grind arith

  pub told-past : None ≡ or_passed limit n → limit < n
  told-past e = grind arith

-- what a checked sum gives
pub reported_sum : (r : Option ℕ) (n : ℕ) → SomeIff r (n < 2 ^ 64) n → r ≡ reported n
reported_sum None n h = past (2 ^ 64 - 1) n (omega arith)
reported_sum (Some k) n h = ap Some h.1 ∙ up_to (2 ^ 64 - 1) n (omega arith)
