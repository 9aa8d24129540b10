-- A Build that was judged: its lists are lent whole, what they name stands in the tables, and what it then does.
use Rattle.std.proofs.Common.{◌≡◌, ℕ, ◌+◌, ◌≤◌, Bool, true, false, List, length, take, drop, refl, ◌∙◌, arith}
use mathlib.Core.Option.{none}
use native.Mathlib.Decide.{dec_lt}
use Rattle.std.specs.Prelude.{Result}
use Rattle.ray_tracing.specs.declared.ValidateAsActionsError.{ValidateAsActionsError}
use Rattle.ray_tracing.specs.Submission.{Lent, Package, Action, build, malformed, blas_count, tlas_count, packages_at, packages_lent, build_at, before, built_blases, build_tlases, step, act, lent_of}
use Rattle.submit_checks.specs.Outcome.{stepped, acted_of}
use Rattle.submit_checks.specs.Known.{Inside, AllListed}
use Rattle.submit_checks.proofs.Steps.{step_acted}
use Rattle.submit_build_checks.proofs.Judging.{known-build, build-short, build_cut, build_whole, before-malformed}

pub record WholeBuild (lists : List ℕ) (at bs ts nb nt : ℕ) : Type 0 where
  pub inside : at + bs ≤ length lists
  pub lent : packages_lent lists (at + bs) ts ≡ true
  pub is : build_at lists at bs ts ≡ build (take bs (drop at lists)) (packages_at lists (at + bs) ts)
  pub ids : Inside (take bs (drop at lists)) nb
  pub listed : AllListed nb nt (packages_at lists (at + bs) ts)

module _ (l : Lent) (lists : List ℕ) (at bs ts : ℕ) (e : before l (build_at lists at bs ts) ≡ none) where
  not_malformed : ¬ (build_at lists at bs ts ≡ malformed)
  not_malformed m =
      let q = before-malformed l m ∙ e in
      let z : ◌≡◌ {A = ℕ} 0 1 = cc in
      omega arith

  pub whole_build : WholeBuild lists at bs ts (blas_count l) (tlas_count l)
  whole_build =
      elim (dec_lt (length lists) (at + bs)) [
        | yes h ↦ absurd (not_malformed (build-short lists at bs ts h))
        | no h ↦ go (omega arith) (packages_lent lists (at + bs) ts) refl
      ]
    where
      go : at + bs ≤ length lists → (b : Bool) → packages_lent lists (at + bs) ts ≡ b → WholeBuild lists at bs ts (blas_count l) (tlas_count l)
      go h false q = absurd (not_malformed (build_cut lists at bs ts q h))
      go h true q =
          let w = build_whole lists at bs ts q h in
          let k = known-build l (take bs (drop at lists)) (packages_at lists (at + bs) ts) (rw w at e) in
          record { inside = h; lent = q; is = w; ids = k.0; listed = k.1 }

-- what it does: its Blases, then its Tlases
pub build-acts :
    (l : Lent) {a : Action} {bs : List ℕ} {ps : List Package} {b : List ℕ} (x : Result Unit ValidateAsActionsError) (r : Lent) → before l a ≡ none → a ≡ build bs ps
    → b ≡ built_blases l.counter bs l.blases
    → acted_of x r ≡ build_tlases l.counter ps (lent_of (stepped l.counter) b l.tlases l.dependency_counts l.dependencies) → acted_of x r ≡ step l a
unfolding act
build-acts l x r d e f g = step_acted l _ x r d (rw e (rw f at g))
