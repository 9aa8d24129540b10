-- What a test on the way tells of a chain `refuse`: where it held, the chain is its answer, and where it failed, the chain is its rest.
-- `search guards depth N` answers a return of a function that tests in the chain's order, N above the number of its tests.
use mathlib.Core.Bool.{Bool, true, false, ◌||◌}
use mathlib.Core.Path.{◌≡◌, sym, ◌∙◌}
use Prim.Native.Nat.{ℕ, ◌<◌, ◌≤◌}
use lib.Dec.{ltb, leb, eqb}
use borrow.Author.Tests.{lt-ltb, le-ltb, le-leb, lt-leb, eq-eqb, ne_eqb}
use Rattle.ray_tracing.specs.Guard.{refuse, neb}

module _ {A : Type 0} (r x y : A) where
  -- by the test's flag
  pub hit : (t : Bool) → t ≡ true → r ≡ x → r ≡ refuse t x y
  unfolding refuse
  hit t e p = rw e p

  pub skip : (t : Bool) → t ≡ false → r ≡ y → r ≡ refuse t x y
  unfolding refuse
  skip t e p = rw e p

  -- a test of two parts is two tests with one answer
  pub split_or : (t u : Bool) → r ≡ refuse t x (refuse u x y) → r ≡ refuse (t || u) x y
  unfolding refuse
  split_or true u p = p
  split_or false u p = p

  -- by a flag that a call answered
  pub hit_by : (s t : Bool) → s ≡ t → s ≡ true → r ≡ x → r ≡ refuse t x y
  hit_by s t k e p = hit t (sym k ∙ e) p

  pub skip_by : (s t : Bool) → s ≡ t → s ≡ false → r ≡ y → r ≡ refuse t x y
  skip_by s t k e p = skip t (sym k ∙ e) p

  -- by the fact that the test showed
  module _ (a b : ℕ) where
    pub hit-lt : a < b → r ≡ x → r ≡ refuse (ltb a b) x y
    hit-lt h p = hit (ltb a b) (lt-ltb a b h) p

    pub skip-lt : b ≤ a → r ≡ y → r ≡ refuse (ltb a b) x y
    skip-lt h p = skip (ltb a b) (le-ltb a b h) p

    pub hit-le : a ≤ b → r ≡ x → r ≡ refuse (leb a b) x y
    hit-le h p = hit (leb a b) (le-leb a b h) p

    pub skip-le : b < a → r ≡ y → r ≡ refuse (leb a b) x y
    skip-le h p = skip (leb a b) (lt-leb a b h) p

    pub hit-eq : a ≡ b → r ≡ x → r ≡ refuse (eqb a b) x y
    hit-eq h p = hit (eqb a b) (eq-eqb a b h) p

    pub skip-eq : (a ≡ b → ⊥) → r ≡ y → r ≡ refuse (eqb a b) x y
    skip-eq h p = skip (eqb a b) (ne_eqb a b h) p

    pub hit-ne : (a ≡ b → ⊥) → r ≡ x → r ≡ refuse (neb a b) x y
    hit-ne h p = hit (neb a b) (rw (ne_eqb a b h)) p

    pub skip-ne : a ≡ b → r ≡ y → r ≡ refuse (neb a b) x y
    skip-ne h p = skip (neb a b) (rw (eq-eqb a b h)) p

pub ruleset guards = (hit-lt, skip-lt, hit-le, skip-le, hit-eq, skip-eq, hit-ne, skip-ne, hit, skip, hit_by, skip_by, split_or)
