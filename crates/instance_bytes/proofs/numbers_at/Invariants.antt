-- The invariant: the first k elements of both arrays are those of the first k u32s.
use Rattle.std.proofs.Common.{◌≡◌, ℕ, List, map, length, take}
use Rattle.std.specs.Prelude.{Float}
use Rattle.std.specs.Float.{binary32}
use Rattle.std.specs.Float.Ieee.{of_bits}
use Rattle.ray_tracing.specs.Instances.{nan_of, words_at}
use Rattle.instance_bytes.proofs.numbers_at.Given as goal

-- what the arrays hold in the end
abbrev pub numbers : List ℕ → ℕ → List Float
numbers s at = map (of_bits binary32) (words_at 12 s at)

abbrev pub kept : List ℕ → ℕ → List ℕ
kept s at = map nan_of (words_at 12 s at)

abbrev pub invariant-loop-k : goal.invariant-loop-k
invariant-loop-k l =
    (length l.values ≡ 12)
    × (take l.k l.values ≡ take l.k (numbers l.s l.at))
    × (length l.nan_bits ≡ 12)
    × (take l.k l.nan_bits ≡ take l.k (kept l.s l.at))
