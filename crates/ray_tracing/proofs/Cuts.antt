-- Demand 3's first half: calls each made on what the accepted one before left give what one submission of all their actions gives, since
-- a run of two lists is a run of the second on what the first left, and no later start is refused.
use Prim.Native.Nat.{ℕ, suc, ◌+◌}
use native.Mathlib.Omega.{arith}
use mathlib.Core.Path.{◌≡◌, refl, sym, ap, ◌∙◌}
use mathlib.Core.Option.{none}
use mathlib.Core.List.{List, [], ◌∷◌, ◌++◌, map, flatten}
use lib.ListN.{length}
use Rattle.ray_tracing.specs.Submission.{Lent, Piece, Action, Answer, Outcome, accepted, left, ◌followed_by◌, later, judge, step, run, submission, decode}
use Rattle.ray_tracing.specs.Claim.{Cut, Fits}
use Rattle.ray_tracing.proofs.Outcomes.{outcome_sent, outcome_refused, all_outcomes, OutcomeSent, OutcomeCall}
use Rattle.ray_tracing.proofs.Firsts.{later-later, later_zero, later_then, then_then, then_ap}
use Rattle.ray_tracing.proofs.Sound.{Sound, sound, judged, sound_submission}

-- a list in two parts: the second is run on what the first left
pub run-append : (l : Lent) (xs ys : List Action) → run l (xs ++ ys) ≡ (run l xs followed_by λ r. later (length xs) (run r ys))
unfolding run
run-append l [] ys = sym (later_zero (run l ys))
run-append l (x ∷ xs) ys =
    then_ap (step l x) _ _ (λ r. ap (later 1) (run-append r xs ys) ∙ later_then 1 (run r xs) _ ∙ then_ap (later 1 (run r xs)) _ _ (λ q. count q))
    ∙ sym (then_then (step l x) (λ r. later 1 (run r xs)) _)
  where
    one : 1 + length xs ≡ suc (length xs)
    one = omega arith

    count : (q : Lent) → later 1 (later (length xs) (run q ys)) ≡ later (suc (length xs)) (run q ys)
    count q = later-later 1 (length xs) (run q ys) ∙ ap (λ (n : ℕ). later n (run q ys)) one

-- on a start that is not refused a submission is its actions' run
pub submission-run : (l : Lent) (acts : List Action) → Sound l → submission l acts ≡ run l acts
unfolding submission
submission-run l acts h = rw (judged l h)

-- what a call leaves is again such a start
pub sound_call : (l : Lent) (p : Piece) (r : Answer) (l' : Lent) → OutcomeCall l p r l' → Sound l → Sound l'
sound_call l p r l' e h = rw (ap left e) (sound_submission l (decode p) h)

-- in the words of the claim: no later start of a chain of calls is refused
pub judge-kept : (l : Lent) (p : Piece) (r : Answer) (l' : Lent) → OutcomeCall l p r l' → Fits l → judge l ≡ none → Fits l' × (judge l' ≡ none)
judge-kept l p r l' e f j = let h = sound_call l p r l' e (sound l f j) in (h.fits, judged l' h)

sent_run : {l : Lent} {pieces : List Piece} {o : Outcome} → OutcomeSent l pieces o → Sound l → o ≡ run l (flatten (map decode pieces))
unfolding flatten run
sent_run all_outcomes h = refl
sent_run {l = l} (outcome_refused {l' = l'} {p = p} {ps = ps} {i = i} {c = c} e) h =
    ap (λ (o : Outcome). o followed_by λ r. later (length (decode p)) (run r (flatten (map decode ps)))) (e ∙ submission-run l (decode p) h)
    ∙ sym (run-append l (decode p) (flatten (map decode ps)))
sent_run {l = l} (outcome_sent {l' = l'} {p = p} {ps = ps} {o = o} e s) h =
    ap (later (length (decode p))) (sent_run s (sound_call l p accepted l' e h))
    ∙ ap (λ (o : Outcome). o followed_by λ r. later (length (decode p)) (run r (flatten (map decode ps)))) (e ∙ submission-run l (decode p) h)
    ∙ sym (run-append l (decode p) (flatten (map decode ps)))

pub cuts : (l : Lent) → Sound l → (whole : Piece) (pieces : List Piece) → Cut whole pieces → (o : Outcome) → OutcomeSent l pieces o → o ≡ submission l (decode whole)
cuts l h whole pieces c o s = sent_run s h ∙ ap (run l) c ∙ sym (submission-run l (decode whole) h)
