-- An action: judged beforehand, then acting.
use mathlib.Core.Path.{◌≡◌, refl}
use mathlib.Core.Option.{none}
use mathlib.Core.List.{List, []}
use Prim.Native.Nat.{ℕ}
use Rattle.std.specs.Prelude.{Result, Err}
use Rattle.ray_tracing.specs.declared.ValidateAsActionsError.{ValidateAsActionsError}
use Rattle.ray_tracing.specs.Submission.{Lent, Action, build, use_tlas, malformed, before, act, step, lent_of}
use Rattle.submit_checks.specs.Outcome.{checked_cause, acted_of}
use Rattle.submit_checks.proofs.Judged.{refusal}

-- ---- what is judged before an action looks at the counter and the two tables

pub before_tables : (n : ℕ) (b t c d : List ℕ) (a : Action) → before (lent_of n b t [] []) a ≡ before (lent_of n b t c d) a
unfolding before
before_tables n b t c d (build bs ps) = refl
before_tables n b t c d (use_tlas i) = refl
before_tables n b t c d malformed = refl

module _ (l : Lent) (a : Action) (x : Result Unit ValidateAsActionsError) where
  pub step-refused : {e : ValidateAsActionsError} → checked_cause x ≡ before l a → x ≡ Err e → acted_of (Err e) l ≡ step l a
  unfolding step
  step-refused p q = rw (refusal p q)

  pub step_acted : (r : Lent) → before l a ≡ none → acted_of x r ≡ act l a → acted_of x r ≡ step l a
  unfolding step
  step_acted r p q = rw p q
