-- The actions of a submission in turn: what is left to do, done from here and counted on, is what the whole was to be; and what an action
-- leaves is again a start that is not refused.
use mathlib.Core.Path.{◌≡◌, refl, sym, ◌∙◌}
use mathlib.Core.Bool.{cond}
use mathlib.Core.List.{List, [], ◌∷◌}
use Prim.Native.Nat.{ℕ, ◌+◌, ◌*◌, ◌/◌, ◌%◌}
use native.Mathlib.Nat.{add-zero}
use native.Mathlib.Decide.{dec_lt}
use native.Mathlib.Omega.{arith}
use lib.Dec.{eqb}
use lib.ListN.{length, drop}
use borrow.Author.Tests.{eq-eqb, ne_eqb}
use Rattle.std.specs.Prelude.{Result, Ok, Err}
use Rattle.ray_tracing.specs.declared.SubmissionRefusal.{SubmissionRefusal}
use Rattle.ray_tracing.specs.declared.ValidateAsActionsError.{ValidateAsActionsError}
use Rattle.ray_tracing.specs.Causes.{bare, submission_cause}
use Rattle.ray_tracing.specs.Submission.{Lent, Action, malformed, Outcome, accepted, refused, ◌leaving◌, left, ◌followed_by◌, later, step, run, submission, answer_of, counter_of, outcome_of, decode_cells}
use Rattle.ray_tracing.proofs.Decode.{decode_part, decode_done}
use Rattle.ray_tracing.proofs.Firsts.{later-later}
use Rattle.ray_tracing.proofs.Sound.{Sound, judged, sound_submission}
use Rattle.submit_checks.specs.Outcome.{acted_of}
use Rattle.submit_run.proofs.ByKind.{malformed-step}

-- what one action leaves
left_one : (o : Outcome) → left (o followed_by λ r. later 1 (accepted leaving r)) ≡ left o
left_one (accepted leaving l) = refl
left_one (refused i c leaving l) = refl

sound_step : (l : Lent) (a : Action) → Sound l → Sound (left (step l a))
unfolding submission run
sound_step l a h = rw left_one at (rw (judged l h) at (sound_submission l (a ∷ []) h))

-- an action, then those after it
run_step : (i : ℕ) (l : Lent) (a : Action) (more : List Action) → later i (run l (a ∷ more)) ≡ (later i (step l a) followed_by λ r. later (i + 1) (run r more))
unfolding run
run_step i l a more = go (step l a)
  where
    go : (o : Outcome) → later i (o followed_by λ r. later 1 (run r more)) ≡ (later i o followed_by λ r. later (i + 1) (run r more))
    go (accepted leaving r) = later-later i 1 (run r more)
    go (refused k c leaving r) = refl

-- action i, which came to x and left r, in front of those after it
module _
    (i : ℕ) (l : Lent) {a : Action} {rest more : List Action} {o : Outcome} (s : rest ≡ a ∷ more) (inv : later i (run l rest) ≡ o)
    (x : Result Unit ValidateAsActionsError) (r : Lent) (k : acted_of x r ≡ step l a)
  where
    whole : (later i (acted_of x r) followed_by λ m. later (i + 1) (run m more)) ≡ o
    whole = rw k (sym (rw s (run_step i l a more)) ∙ inv)

    pub run_stop : {e : ValidateAsActionsError} → x ≡ Err e → (refused i (submission_cause e) leaving r) ≡ o
    run_stop q = rw (q, add-zero) at whole

    pub run_go_on : x ≡ Ok tt → later (i + 1) (run r more) ≡ o
    run_go_on q = rw q at whole

    pub run_sound : Sound l → x ≡ Ok tt → Sound r
    run_sound h q = rw (← k, q) at (sound_step l a h)

-- a part of an action, and the end

pub run_part : (i : ℕ) (l : Lent) {rest : List Action} {o : Outcome} → rest ≡ malformed ∷ [] → later i (run l rest) ≡ o → (refused i (bare 5) leaving l) ≡ o
run_part i l s inv = rw (s, run_step i l malformed [], malformed-step l, add-zero) at inv

pub run_done : (i : ℕ) (l : Lent) {rest : List Action} {o : Outcome} → rest ≡ [] → later i (run l rest) ≡ o → (accepted leaving l) ≡ o
unfolding run
run_done i l s inv = sym (rw s) ∙ inv

pub run_ends :
    (i : ℕ) (l : Lent) (lists actions : List ℕ) (at : ℕ) {o : Outcome} → i * 4 ≡ at → i ≡ length actions / 4
    → later i (run l (decode_cells lists (drop at actions))) ≡ o → (x : Result ℕ SubmissionRefusal)
    → answer_of x ≡ cond (eqb (length actions % 4) 0) accepted (refused i (bare 5)) → counter_of x ≡ l.counter
    → outcome_of x l.blases l.tlases l.dependency_counts l.dependencies ≡ o
run_ends i l lists actions at h k inv x p q =
    elim (dec_lt at (length actions)) [
      | yes m ↦ rw (p, q, ne_eqb (length actions % 4) 0 (λ e. omega arith)) (run_part i l (decode_part lists actions at m (omega arith)) inv)
      | no m ↦ rw (p, q, eq-eqb (length actions % 4) 0 (omega arith)) (run_done i l (decode_done lists actions at (omega arith)) inv)
    ]
