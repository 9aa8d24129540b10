-- The lists of a Build's Tlases, from a cell on: the first of them and the rest, and what it says that they are lent whole.
use mathlib.Core.Path.{◌≡◌, refl, sym, ap, ◌∙◌}
use mathlib.Core.Bool.{true, false, false≢true}
use native.Mathlib.Decide.{dec_lt}
use mathlib.Core.Option.{Option, none, some}
use mathlib.Core.List.{List, [], ◌∷◌}
use Prim.Native.Nat.{ℕ, zero, suc, ◌+◌, ◌-◌, ◌≤◌, ◌<◌}
use native.Mathlib.Omega.{arith}
use lib.Dec.{ltb}
use lib.ListN.{length, get_or, length-take, length-drop}
use borrow.Author.Tests.{le-leb, lt-leb, lt-ltb, le-ltb}
use Rattle.ray_tracing.proofs.Plan.{left_more, left-none}
use Rattle.ray_tracing.specs.Causes.{Cause, bare}
use Rattle.ray_tracing.specs.Submission.{Package, cause_when, first, package_from, past_package, packages_at, packages_lent, too_many, most_dependencies}

-- of n packages, those from the i-th on
module _ (lists : List ℕ) (at i n : ℕ) where
  pub packages_more : i < n → packages_at lists at (n - i) ≡ package_from lists at ∷ packages_at lists (past_package lists at) (n - (i + 1))
  unfolding packages_at
  packages_more h = rw (left_more i n h)

  pub packages_done : n ≤ i → packages_at lists at (n - i) ≡ []
  unfolding packages_at
  packages_done h = rw (left-none i n h)

  -- lent whole

  pub lent_more : i < n → past_package lists at ≤ length lists → packages_lent lists at (n - i) ≡ packages_lent lists (past_package lists at) (n - (i + 1))
  unfolding packages_lent
  lent_more h k = rw (left_more i n h, packages_lent, le-leb _ _ k)

  pub lent_short : i < n → length lists < past_package lists at → packages_lent lists at (n - i) ≡ false
  unfolding packages_lent
  lent_short h k = rw (left_more i n h, packages_lent, lt-leb _ _ k)

  pub lent_done : n ≤ i → packages_lent lists at (n - i) ≡ true
  unfolding packages_lent
  lent_done h = rw (left-none i n h)

  -- the first of them stands within what is lent
  pub lent_first : i < n → packages_lent lists at (n - i) ≡ true → past_package lists at ≤ length lists
  lent_first h e =
      elim (dec_lt (length lists) (past_package lists at)) [
        | yes k ↦ absurd (false≢true (sym (lent_short h k) ∙ e))
        | no k ↦ omega arith
      ]

  pub lent_rest : i < n → packages_lent lists at (n - i) ≡ true → packages_lent lists (past_package lists at) (n - (i + 1)) ≡ true
  lent_rest h e = sym (lent_more h (lent_first h e)) ∙ e

pub packages-length : (lists : List ℕ) (at n : ℕ) → length (packages_at lists at n) ≡ n
unfolding packages_at
packages-length lists at zero = refl
packages-length lists at (suc n) = ap suc (packages-length lists (past_package lists at) n)

-- ---- 4

-- a list of its own above 512
abbrev pub too_long : Package → Option Cause
too_long p = cause_when (ltb most_dependencies (length p.dependencies)) (bare 4)

-- a list that is lent whole is as long as its count says
pub whole_length : (lists : List ℕ) (at : ℕ) → past_package lists at ≤ length lists → length (package_from lists at).dependencies ≡ get_or lists (at + 1) 0
whole_length lists at h = rw (length-take, length-drop) (omega arith)

pub is_long : (lists : List ℕ) (at : ℕ) → past_package lists at ≤ length lists → 512 < get_or lists (at + 1) 0 → too_long (package_from lists at) ≡ some (bare 4)
is_long lists at h k = rw (whole_length lists at h, lt-ltb _ _ k)

pub not_long : (lists : List ℕ) (at : ℕ) → past_package lists at ≤ length lists → get_or lists (at + 1) 0 ≤ 512 → too_long (package_from lists at) ≡ none
not_long lists at h k = rw (whole_length lists at h, le-ltb _ _ k)

pub many_tlases : (lists : List ℕ) (at n : ℕ) → 32 < n → some (bare 4) ≡ too_many [] (packages_at lists at n)
many_tlases lists at n h = rw (packages-length lists at n, lt-ltb _ _ h)

pub few_tlases : (lists : List ℕ) (at n : ℕ) → n ≤ 32 → first too_long (packages_at lists at n) ≡ too_many [] (packages_at lists at n)
few_tlases lists at n h = rw (packages-length lists at n, le-ltb _ _ h)

-- what a walk over them takes
pub ruleset walking = (packages_more, packages_done, lent_more, lent_short, lent_done, lent_first, lent_rest, is_long, not_long, many_tlases, few_tlases)
