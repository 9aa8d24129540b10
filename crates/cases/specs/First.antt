-- The first n of a list, or none of it. Assumes nothing.
use Rattle.std.specs.Prelude.{◌≡◌, ℕ, ◌≤◌, cond, List, length, take, ltb}

abbrev pub at_most : ℕ → ℕ → ℕ
at_most n most = cond (ltb most n) 0 n

-- as many as are asked for, where there are so many; else none
abbrev pub first_few : {A : Type 0} → ℕ → List A → List A
first_few n s = take (at_most n (length s)) s

-- the first n of a list are there, and are n
abbrev pub IsPrefixLen : {A : Type 0} → ℕ → List A → Type 0
IsPrefixLen n xs = (n ≤ length xs) × (n ≡ length (take n xs))
