-- What was judged: a refusal, or none.
use mathlib.Core.Path.{◌≡◌, sym, ap, ◌∙◌}
use mathlib.Core.Option.{Option, none, some}
use Rattle.std.specs.Prelude.{Result, Ok, Err}
use Rattle.ray_tracing.specs.declared.ValidateAsActionsError.{ValidateAsActionsError}
use Rattle.ray_tracing.specs.Causes.{Cause, submission_cause}
use Rattle.ray_tracing.specs.Submission.{◌or_else◌}
use Rattle.submit_checks.specs.Outcome.{checked_cause}

module _ {x : Result Unit ValidateAsActionsError} {o : Option Cause} (p : checked_cause x ≡ o) where
  pub refusal : {e : ValidateAsActionsError} → x ≡ Err e → o ≡ some (submission_cause e)
  refusal q = sym p ∙ ap checked_cause q

  pub nothing : x ≡ Ok tt → o ≡ none
  nothing q = sym p ∙ ap checked_cause q

  -- the first of two
  pub or_pass : {b c : Option Cause} → x ≡ Ok tt → c ≡ b → c ≡ (o or_else b)
  or_pass q r = rw (nothing q) r
