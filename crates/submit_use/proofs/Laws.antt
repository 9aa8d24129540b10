-- A use: the number that is read.
use mathlib.Core.Path.{◌≡◌, refl}
use mathlib.Core.Option.{none}
use Prim.Native.Nat.{ℕ}
use Rattle.std.specs.Prelude.{Result, Ok, Err}
use Rattle.ray_tracing.specs.declared.ValidateAsActionsError.{ValidateAsActionsError}
use Rattle.ray_tracing.specs.declared.Tlas.{Tlas}
use Rattle.ray_tracing.specs.Mentions.{tlas_of}
use Rattle.ray_tracing.specs.Submission.{Lent, tlas, tlas_in, unusable, use_tlas, mention_tlas, accepted, ◌leaving◌, unless_cause, step, before, act}
use Rattle.submit_checks.specs.Outcome.{checked_cause, acted_of}
use Rattle.submit_checks.proofs.Steps.{step-refused, step_acted}

pub tlas-number : (l : Lent) (t : ℕ) {r : Tlas} → r ≡ tlas_of l.tlases t → (tlas l t).built_index ≡ r.built_index
unfolding tlas_in
tlas-number l t e = rw e

module _ (l : Lent) (t : ℕ) (x : Result Unit ValidateAsActionsError) where
  pub use_refused : (e : ValidateAsActionsError) → checked_cause x ≡ mention_tlas l t → x ≡ Err e → acted_of (Err e) l ≡ step l (use_tlas t)
  unfolding before
  use_refused e p q = step-refused l (use_tlas t) x p q

  pub use_acts : mention_tlas l t ≡ none → checked_cause x ≡ unusable l t → acted_of x l ≡ step l (use_tlas t)
  unfolding before act
  use_acts m p = step_acted l (use_tlas t) x l m (rw (← p) (acted x))
    where
      acted : (y : Result Unit ValidateAsActionsError) → acted_of y l ≡ unless_cause (checked_cause y) l (accepted leaving l)
      acted (Ok u) = refl
      acted (Err e) = refl

pub ruleset use_steps = (use_refused, use_acts)
