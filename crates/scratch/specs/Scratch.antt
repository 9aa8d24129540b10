-- Roundings and sums of scratch sizes as whole numbers, and what is reported of them; products; powers of two.
use Rattle.std.specs.Prelude.{◌≡◌, Bool, false, ◌||◌, cond, ℕ, zero, suc, ◌+◌, ◌-◌, ◌*◌, ◌/◌, ◌^◌, min, eqb, leb, Option, Some, None}

-- n, or 2^64 - 1 where n passes it: products in figures stop there
abbrev pub stopped : ℕ → ℕ
stopped n = min n (2 ^ 64 - 1)

-- n rounded up to a multiple of a
abbrev pub round_up : ℕ → ℕ → ℕ
round_up n a = (n + (a - 1)) / a * a

-- n, or that it passed a limit
abbrev pub or_passed : ℕ → ℕ → Option ℕ
or_passed limit n = cond (leb n limit) (Some n) None

-- "The rounding should report that it passed 2^64 - 1 instead of stopping there, its callers pass that on"
abbrev pub reported : ℕ → Option ℕ
reported n = or_passed (2 ^ 64 - 1) n

-- "each size rounded up to the alignment", and added to a running total
abbrev pub add_rounded : ℕ → ℕ → ℕ → ℕ
add_rounded total size alignment = total + round_up size alignment

-- "exactly the powers of two": some k has n = 2^k
abbrev pub PowerOfTwo : ℕ → Type 0
PowerOfTwo n = (k : ℕ) × (n ≡ 2 ^ k)

-- some k below m has n = 2^k, by trying each
unfoldable pub power_below : ℕ → ℕ → Bool
power_below zero n = false
power_below (suc m) n = eqb n (2 ^ m) || power_below m n

-- the same as a test, of a number of 64 bits
unfoldable pub power_of_two : ℕ → Bool
power_of_two n = power_below 64 n
