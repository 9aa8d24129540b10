-- What a Build does: cell by cell, Tlas by Tlas.
use Rattle.std.proofs.Common.{◌≡◌, ℕ, ◌+◌, ◌-◌, ◌*◌, ◌<◌, ◌≤◌, List, [], ◌∷◌, length, get_or, drop, set, sym, refl, ◌∙◌, add-suc, add-one}
use mathlib.Core.Option.{Option, none, some}
use lib.ListN.{drop_of_length-le}
use lib.Seq.{sets, drop-cons}
use Rattle.std.specs.Prelude.{Result, Ok, Err}
use Rattle.ray_tracing.specs.declared.ValidateAsActionsError.{ValidateAsActionsError}
use Rattle.ray_tracing.specs.Causes.{Cause}
use Rattle.ray_tracing.specs.Submission.{Lent, Package, Outcome, accepted, ◌leaving◌, ◌followed_by◌, unless_cause, first, unnumbered, lent_of, most_dependencies, built_tlas, build_tlas, build_tlases, package_from, past_package, packages_at}
use Rattle.submit_checks.specs.Outcome.{checked_cause, acted_of}
use Rattle.submit_checks.specs.Known.{Listed, AllListed}
use Rattle.submit_checks.proofs.Judged.{refusal, nothing}
use Rattle.submit_build_checks.proofs.Packages.{packages_more, packages_done, lent_first, lent_rest}

-- a list's cells, from the k-th on
pub copy_step : (d : List ℕ) (at : ℕ) (s : List ℕ) (k : ℕ) → k < length s → sets d (at + k) (drop k s) ≡ sets (set d (at + k) (get_or s k 0)) (at + (k + 1)) (drop (k + 1) s)
copy_step d at s k h = rw (drop-cons s k 0 h, add-one k, add-suc at k)

pub copy_done : (d : List ℕ) (at : ℕ) (s : List ℕ) (k : ℕ) → length s ≤ k → sets d (at + k) (drop k s) ≡ d
copy_done d at s k h = rw (drop_of_length-le s h)

pub ruleset copying = (copy_step, copy_done)

-- ---- a Tlas of a Build

module _ (n : ℕ) (p : Package) (l : Lent) {x : Result Unit ValidateAsActionsError} (k : checked_cause x ≡ first (unnumbered l p.tlas) p.dependencies) where
  pub tlas_refused : {e : ValidateAsActionsError} → x ≡ Err e → acted_of (Err e) l ≡ build_tlases n (p ∷ []) l
  unfolding build_tlases
  tlas_refused q = rw (refusal k q)

  pub tlas_built :
      {t c d : List ℕ} → x ≡ Ok tt → t ≡ built_tlas n p.tlas l.tlases → c ≡ set l.dependency_counts p.tlas (length p.dependencies)
      → d ≡ sets l.dependencies (p.tlas * most_dependencies) p.dependencies
      → acted_of (Ok tt) (lent_of l.counter l.blases t c d) ≡ build_tlases n (p ∷ []) l
  unfolding build_tlases
  tlas_built q e f g = rw (nothing k q, e, f, g)

-- a Tlas, then those after it
tlases_turn : (n : ℕ) (p : Package) (ps : List Package) (l : Lent) → build_tlases n (p ∷ ps) l ≡ (build_tlases n (p ∷ []) l followed_by λ r. build_tlases n ps r)
unfolding build_tlases
tlases_turn n p ps l = go (first (unnumbered l p.tlas) p.dependencies)
  where
    go : (o : Option Cause) → unless_cause o l (build_tlases n ps (build_tlas n p l)) ≡ (unless_cause o l (accepted leaving build_tlas n p l) followed_by λ r. build_tlases n ps r)
    go none = refl
    go (some c) = refl

-- of n Tlases, those from the i-th on
module _
    (number : ℕ) (lists : List ℕ) (at i n : ℕ) (l r : Lent) (x : Result Unit ValidateAsActionsError) {o : Outcome} (h : i < n)
    (inv : build_tlases number (packages_at lists at (n - i)) l ≡ o) (k : acted_of x r ≡ build_tlases number (package_from lists at ∷ []) l)
  where
    whole : (acted_of x r followed_by λ m. build_tlases number (packages_at lists (past_package lists at) (n - (i + 1))) m) ≡ o
    whole = rw k (sym (rw (packages_more lists at i n h) (tlases_turn number (package_from lists at) (packages_at lists (past_package lists at) (n - (i + 1))) l)) ∙ inv)

    pub tlases_stop : {e : ValidateAsActionsError} → x ≡ Err e → acted_of (Err e) r ≡ o
    tlases_stop q = rw q at whole

    pub tlases_go_on : x ≡ Ok tt → build_tlases number (packages_at lists (past_package lists at) (n - (i + 1))) r ≡ o
    tlases_go_on q = rw q at whole

pub tlases_done : (number : ℕ) (lists : List ℕ) (at i n : ℕ) (l : Lent) → n ≤ i → build_tlases number (packages_at lists at (n - i)) l ≡ (accepted leaving l)
unfolding build_tlases
tlases_done number lists at i n l h = rw (packages_done lists at i n h)

module _ (nb nt : ℕ) (lists : List ℕ) (at i n : ℕ) (h : i < n) (a : AllListed nb nt (packages_at lists at (n - i))) where
  all-step : Listed nb nt (package_from lists at) × AllListed nb nt (packages_at lists (past_package lists at) (n - (i + 1)))
  unfolding AllListed
  all-step = rw (packages_more lists at i n h) at a

  pub listed_first : Listed nb nt (package_from lists at)
  listed_first = all-step.0

  pub listed_rest : AllListed nb nt (packages_at lists (past_package lists at) (n - (i + 1)))
  listed_rest = all-step.1

-- what a walk over them takes
pub ruleset walking = (tlases_done, listed_first, listed_rest, lent_first, lent_rest)

-- what closes the goals of one Tlas built
pub ruleset building = (tlas_refused, tlas_built)
