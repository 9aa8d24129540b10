-- Demand 3 over outcomes of the definition `submission`: what the claim, which speaks of what callers see, is shown from.
use Prim.Native.Nat.{ℕ, suc, ◌<◌}
use mathlib.Core.Path.{◌≡◌}
use mathlib.Core.Logic.{◌↔◌}
use mathlib.Core.Bool.{Bool, true, false}
use mathlib.Core.List.{List, [], ◌∷◌, map}
use lib.ListN.{length, get_or, take}
use lib.Dec.{leb}
use Rattle.ray_tracing.specs.Causes.{Cause}
use Rattle.ray_tracing.specs.Submission.{Lent, Piece, Answer, accepted, refused, Outcome, ◌leaving◌, later, submission, decode, use_tlas, malformed, tlas_count}
use Rattle.ray_tracing.specs.History.{among, latest, since, Told, log, going, tell_actions, history}
use Rattle.ray_tracing.specs.Claim.{Cut, Each, Usable, NumbersBelow, ByHistory}

-- a call that was lent l and p, answered r and left l': what the routine promises
abbrev pub OutcomeCall : Lent → Piece → Answer → Lent → Type 0
OutcomeCall l p r l' = r leaving l' ≡ submission l (decode p)

-- calls, each on what the one before left
pub data OutcomeCalls : Lent → List Piece → Lent → Type 0 where
  no_outcome : {l : Lent} → OutcomeCalls l [] l
  outcome_call : {l l' l'' : Lent} {p : Piece} {ps : List Piece} {r : Answer} → OutcomeCall l p r l' → OutcomeCalls l' ps l'' → OutcomeCalls l (p ∷ ps) l''

-- calls, each sent only after the one before was accepted
pub data OutcomeSent : Lent → List Piece → Outcome → Type 0 where
  all_outcomes : {l : Lent} → OutcomeSent l [] (accepted leaving l)
  outcome_refused : {l l' : Lent} {p : Piece} {ps : List Piece} {i : ℕ} {c : Cause} → OutcomeCall l p (refused i c) l' → OutcomeSent l (p ∷ ps) (refused i c leaving l')
  outcome_sent : {l l' : Lent} {p : Piece} {ps : List Piece} {o : Outcome} → OutcomeCall l p accepted l' → OutcomeSent l' ps o → OutcomeSent l (p ∷ ps) (later (length (decode p)) o)

-- action i is reached: none before it is refused. It passes if action i + 1 would be reached
unfoldable pub outcome_reached : ℕ → Outcome → Bool
outcome_reached i (accepted leaving l) = true
outcome_reached i (refused k c leaving l) = leb i k

-- action i of a submission with the outcome o uses t; x is what the history tells of the actions before it
pub record OutcomeUse (l : Lent) (x : Told) (t i : ℕ) (o : Outcome) : Type 0 where
  -- the history knows whether the use is reached
  pub told : outcome_reached i o ≡ going x
  -- "once reached, passes exactly when"
  pub rule : outcome_reached i o ≡ true → (outcome_reached (suc i) o ≡ true ↔ Usable l (log x) t)
  -- "a passing use draws no listed plant built by a Build after its house's own"
  pub fresh : NumbersBelow l → outcome_reached (suc i) o ≡ true
      → Each (λ b. Each (λ e. among b e.blases ≡ false) (since (log x) t)) (latest l (log x) t).dependencies

-- l: any start that is not refused
pub record OutcomeDemand (l : Lent) : Type 0 where
  -- "every cut of it into library submissions": the first refusal with its figures, the counter, each record and each list are "those
  -- that document 01's Submission gives for the uncut list"
  pub cuts : (whole : Piece) (pieces : List Piece) → Cut whole pieces → (o : Outcome) → OutcomeSent l pieces o → o ≡ submission l (decode whole)
  -- "in every list of submissions from such a start, refused ones included, each on what the one before left, a UseTlas of a Tlas in the
  -- table": p is one of them, `done` are those before it
  pub uses : (done : List Piece) (l₁ : Lent) → OutcomeCalls l done l₁ → (p : Piece) (r : Answer) (l₂ : Lent) → OutcomeCall l₁ p r l₂
      → (i t : ℕ) → get_or (decode p) i malformed ≡ use_tlas t → t < tlas_count l
      → OutcomeUse l (tell_actions l (history l [] (map decode done)) (take i (decode p))) t i (r leaving l₂)
  -- after every such list the tables are the history's
  pub tables : (done : List Piece) (l₁ : Lent) → OutcomeCalls l done l₁ → ByHistory l (history l [] (map decode done)) l₁
