-- The hash of a list of numbers by which the programs tell what a lent array holds. Assumes nothing.
use Rattle.std.specs.Prelude.{ℕ, ◌+◌, ◌*◌, ◌%◌, List, [], ◌∷◌}

-- 31 times what the numbers before came to, the number and 7, modulo 2^32 - 5
abbrev pub hash_step : ℕ → ℕ → ℕ
hash_step h v = (h * 31 + v % 4294967291 + 7) % 4294967291

unfoldable pub hash_from : ℕ → List ℕ → ℕ
hash_from h [] = h
hash_from h (v ∷ vs) = hash_from (hash_step h v) vs

abbrev pub hash : List ℕ → ℕ
hash s = hash_from 0 s
