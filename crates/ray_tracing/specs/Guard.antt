-- A chain of tests, the first of which to hold decides: `refuse t a (refuse u b c)`. Assumes nothing.
use Rattle.std.specs.Prelude.{Bool, true, false, not, ℕ, eqb}

-- a where the test holds, else what follows
unfoldable pub refuse : {A : Type 0} → Bool → A → A → A
refuse true a b = a
refuse false a b = b

-- the test that two numbers differ
abbrev pub neb : ℕ → ℕ → Bool
neb m n = not (eqb m n)
