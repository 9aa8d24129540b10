-- Demand 3, proved: cuts by `Cuts`, the tables by `Agree`, and a use by what the history tells of the actions before it.
use Prim.Native.Nat.{ℕ, zero, suc, ◌+◌, ◌<◌, ◌≤◌}
use native.Mathlib.Omega.{arith}
use mathlib.Core.Path.{◌≡◌, refl, sym, ap, ◌∙◌, subst}
use mathlib.Core.Bool.{Bool, true, false}
use mathlib.Core.Option.{Option, none, some}
use mathlib.Core.List.{List, [], ◌∷◌, ◌++◌, map}
use lib.ListN.{length, get_or, take, drop}
use lib.Seq.{split_at, length-take-le}
use lib.Dec.{leb}
use borrow.Author.Tests.{leb-true, leb-false, le-leb, lt-leb, lt-ltb}
use Rattle.ray_tracing.specs.Causes.{Cause}
use Rattle.ray_tracing.specs.Submission.{Lent, Piece, Package, Action, build, use_tlas, malformed, Answer, Outcome, accepted, refused, ◌leaving◌, left, ◌followed_by◌, later, unless_cause, first, tlas_count, tlas, judge, before, build_blases, build_tlas, unnumbered, build_tlases, unusable, act, step, run, submission, decode}
use Rattle.ray_tracing.specs.History.{among, Built, blas_number, listed, built_with, latest, since, usable, allowed, Told, passed, stopped, log, going, told, acts, tell_action, tell_actions, history}
use Rattle.ray_tracing.specs.Claim.{Each, UsableBlas, Usable, NumbersBelow, Fits}
use Rattle.ray_tracing.proofs.Outcomes.{OutcomeDemand, OutcomeUse, outcome_reached, outcome_call, no_outcome, OutcomeCalls, OutcomeCall}
use Rattle.ray_tracing.proofs.Sound.{sound}
use Rattle.ray_tracing.proofs.Cuts.{run-append, submission-run, cuts}
use Rattle.ray_tracing.proofs.Words.{usable_iff}
use Rattle.ray_tracing.proofs.Agree.{Chain, Agree, agree_start, Same, step_same, run_same, same_agree}

-- ---- what is lent and the log, after a list of calls

agree_call : (l : Lent) (h : List Built) (r : Lent) → Agree l h r → (p : Piece) (a : Answer) (r' : Lent) → OutcomeCall r p a r' → Agree l (log (tell_actions l h (decode p))) r'
agree_call l h r g p a r' e =
    subst (Agree l (log (tell_actions l h (decode p)))) (sym (ap left (e ∙ submission-run r (decode p) g.sound)))
    (same_agree l (tell_actions l h (decode p)) (run r (decode p)) (run_same l h r g (decode p)))

agree_calls : (l : Lent) {r : Lent} {done : List Piece} {r' : Lent} → OutcomeCalls r done r' → (h : List Built) → Agree l h r → Agree l (history l h (map decode done)) r'
unfolding history
agree_calls l no_outcome h a = a
agree_calls l {r = r} (outcome_call {l' = q} {p = p} {r = x} e c) h a = agree_calls l c (log (tell_actions l h (decode p))) (agree_call l h r a p x q e)

-- ---- a run is refused at one of its actions

abbrev Within : ℕ → Outcome → Type 0
Within n (accepted leaving l) = Unit {0}
Within n (refused i c leaving l) = i < n

within_unless : (n : ℕ) (c : Option Cause) (l : Lent) (o : Outcome) → 0 < n → Within n o → Within n (unless_cause c l o)
within_unless n none l o p h = h
within_unless n (some c) l o p h = p

within_tlases : (n : ℕ) (ps : List Package) (l : Lent) → Within 1 (build_tlases n ps l)
unfolding build_tlases
within_tlases n [] l = tt
within_tlases n (p ∷ ps) l =
    within_unless 1 (first (unnumbered l p.tlas) p.dependencies) l _ (omega arith) (within_tlases n ps (build_tlas n p l))

within_step : (l : Lent) (a : Action) → Within 1 (step l a)
unfolding step act
within_step l a = within_unless 1 (before l a) l (act l a) (omega arith) (go a)
  where
    go : (a : Action) → Within 1 (act l a)
    go (build bs ps) = within_tlases l.counter ps (build_blases bs l)
    go (use_tlas t) = within_unless 1 (unusable l t) l (accepted leaving l) (omega arith) tt
    go malformed = tt

within_run : (l : Lent) (acts : List Action) → Within (length acts) (run l acts)
unfolding run
within_run l [] = tt
within_run l (a ∷ more) = go (step l a) (within_step l a) (λ r. within_run r more)
  where
    count : (o : Outcome) → Within (length more) o → Within (suc (length more)) (later 1 o)
    count (accepted leaving r) h = tt
    count (refused i c leaving r) h = omega arith

    go : (o : Outcome) → Within 1 o → ((r : Lent) → Within (length more) (run r more)) → Within (suc (length more)) (o followed_by λ r. later 1 (run r more))
    go (accepted leaving r) h k = count (run r more) (k r)
    go (refused i c leaving r) h k = omega arith

-- ---- which actions are reached

reached-later : (n : ℕ) (o : Outcome) → outcome_reached n (later n o) ≡ true
unfolding outcome_reached
reached-later n (accepted leaving l) = refl
reached-later n (refused i c leaving l) = le-leb n (n + i) (omega arith)

reached_suc : (n : ℕ) (o : Outcome) → outcome_reached (suc n) (later n o) ≡ outcome_reached 1 o
unfolding outcome_reached
reached_suc n (accepted leaving l) = refl
reached_suc n (refused i c leaving l) = go (leb 1 i) refl
  where
    go : (b : Bool) → leb 1 i ≡ b → leb (suc n) (n + i) ≡ b
    go true e = let k = leb-true 1 i e in le-leb (suc n) (n + i) (omega arith)
    go false e = let k = leb-false 1 i e in lt-leb (suc n) (n + i) (omega arith)

reached_pred : (n : ℕ) (o : Outcome) → outcome_reached (suc n) o ≡ true → outcome_reached n o ≡ true
unfolding outcome_reached
reached_pred n (accepted leaving l) e = refl
reached_pred n (refused i c leaving l) e = let k = leb-true (suc n) i e in le-leb n i (omega arith)

-- what comes after n actions is reached if the history goes on there
reached_then : (l : Lent) (n : ℕ) (x : Told) (o : Outcome) (f : Lent → Outcome) → Same l x o → Within n o
    → outcome_reached n (o followed_by λ r. later n (f r)) ≡ going x
unfolding outcome_reached
reached_then l n (passed h) (accepted leaving r) f a w = reached-later n (f r)
reached_then l n (stopped h) (refused i c leaving r) f a w = lt-leb n i w
reached_then l n (passed h) (refused i c leaving r) f a w = absurd a
reached_then l n (stopped h) (accepted leaving r) f a w = absurd a

-- ---- the rule

going_use : (l : Lent) (h : List Built) (t : ℕ) → t < tlas_count l → going (tell_action l h (use_tlas t)) ≡ usable l h t
unfolding tell_action acts allowed
going_use l h t k =
    ap (λ (b : Bool). going (elim b [ true ↦ told (usable l h t) h | false ↦ stopped h ])) (lt-ltb t (tlas_count l) k) ∙ go (usable l h t)
  where
    go : (b : Bool) → going (told b h) ≡ b
    go true = refl
    go false = refl

rule : (l : Lent) (n : ℕ) (x : Told) (o : Outcome) (t : ℕ) (more : List Action) → t < tlas_count l → Same l x o → Within n o
    → outcome_reached n (o followed_by λ r. later n (run r (use_tlas t ∷ more))) ≡ true
    → outcome_reached (suc n) (o followed_by λ r. later n (run r (use_tlas t ∷ more))) ≡ usable l (log x) t
unfolding run outcome_reached
rule l n (passed h) (accepted leaving r) t more k a w e =
    reached_suc n (run r (use_tlas t ∷ more))
    ∙ reached_then l 1 (tell_action l h (use_tlas t)) (step r (use_tlas t)) (λ q. run q more) (step_same l h r a (use_tlas t)) (within_step r (use_tlas t))
    ∙ going_use l h t k
rule l n (stopped h) (refused i c leaving r) t more k a w e = let z = leb-true n i e in absurd (omega arith)
rule l n (passed h) (refused i c leaving r) t more k a w e = absurd a
rule l n (stopped h) (accepted leaving r) t more k a w e = absurd a

-- ---- no listed Blas built by a Build after the Tlas's own

latest-below : (l : Lent) (h : List Built) (t : ℕ) → Chain l h → (¬ ((tlas l t).built_index ≡ 0) → (tlas l t).built_index < l.counter)
    → ¬ ((latest l h t).number ≡ 0) → (latest l h t).number < l.counter + length h
latest-below l [] t c b n = omega (arith, b n)
latest-below l (e ∷ h) t c b n = go (listed t e.tlases) (latest-below l h t c.2 b) n
  where
    go : (p : Option (List ℕ)) → (¬ ((latest l h t).number ≡ 0) → (latest l h t).number < l.counter + length h)
        → ¬ ((built_with e.number p (latest l h t)).number ≡ 0) → (built_with e.number p (latest l h t)).number < l.counter + suc (length h)
    go none k n = omega (arith, k n)
    go (some p) k n = omega (arith, c.0)

not_newer : (l : Lent) (h : List Built) (t b : ℕ) → Chain l h → (¬ ((tlas l t).built_index ≡ 0) → (tlas l t).built_index < l.counter)
    → ¬ ((latest l h t).number ≡ 0) → blas_number l h b ≤ (latest l h t).number → Each (λ e. among b e.blases ≡ false) (since h t)
not_newer l [] t b c s n k = tt
not_newer l (e ∷ h) t b c s n k = go (listed t e.tlases) (among b e.blases) refl (not_newer l h t b c.2 s) n k
  where
    go : (p : Option (List ℕ)) (m : Bool) → among b e.blases ≡ m
        → (¬ ((latest l h t).number ≡ 0) → blas_number l h b ≤ (latest l h t).number → Each (λ e. among b e.blases ≡ false) (since h t))
        → ¬ ((built_with e.number p (latest l h t)).number ≡ 0)
        → elim m [ true ↦ e.number | false ↦ blas_number l h b ] ≤ (built_with e.number p (latest l h t)).number
        → Each (λ (e : Built). among b e.blases ≡ false) (elim p [ some d ↦ [] | none ↦ e ∷ since h t ])
    go none true q r n k = absurd (omega (arith, c.0, latest-below l h t c.2 s n))
    go none false q r n k = (q, r n k)
    go (some p) m q r n k = tt

each_map : {A : Type 0} (P Q : A → Type 0) → ((x : A) → P x → Q x) → (xs : List A) → Each P xs → Each Q xs
each_map P Q k [] a = tt
each_map P Q k (x ∷ xs) a = (k x a.0, each_map P Q k xs a.1)

-- only the Tlases' half of the premise is used
fresh : (l : Lent) (h : List Built) (t : ℕ) → Chain l h → NumbersBelow l → t < tlas_count l → Usable l h t
    → Each (λ b. Each (λ e. among b e.blases ≡ false) (since h t)) (latest l h t).dependencies
fresh l h t c b k u =
    each_map (UsableBlas l h t) _ (λ p q. not_newer l h t p c (b.tlases t k) u.numbered q.not_above) (latest l h t).dependencies u.dependencies

-- ---- a use in a submission

use_then : (l : Lent) (h : List Built) (r : Lent) → Agree l h r → (acts : List Action) (t : ℕ) (more : List Action) → t < tlas_count l
    → OutcomeUse l (tell_actions l h acts) t (length acts) (run r acts followed_by λ q. later (length acts) (run q (use_tlas t ∷ more)))
use_then l h r a acts t more k =
    let same = run_same l h r a acts in
    let w = within_run r acts in
    let by = rule l (length acts) (tell_actions l h acts) (run r acts) t more k same w in
    let words = usable_iff l (log (tell_actions l h acts)) t in
    record {
      told = reached_then l (length acts) (tell_actions l h acts) (run r acts) (λ q. run q (use_tlas t ∷ more)) same w;
      rule = λ e. (λ p. words.0 (sym (by e) ∙ p), λ p. by e ∙ words.1 p);
      fresh =
          λ b e. fresh l (log (tell_actions l h acts)) t (same_agree l (tell_actions l h acts) (run r acts) same).chain b k
          (words.0 (sym (by (reached_pred (length acts) _ e)) ∙ e));
    }

-- an action that is a use stands in the list
use_within : (xs : List Action) (i t : ℕ) → get_or xs i malformed ≡ use_tlas t → i < length xs
use_within [] i t e = let z : ◌≡◌ {A = ℕ} 0 1 = cc in absurd (omega arith)
use_within (x ∷ xs) zero t e = omega arith
use_within (x ∷ xs) (suc i) t e = omega (arith, use_within xs i t e)

use_at : (l : Lent) (h : List Built) (r : Lent) → Agree l h r → (xs : List Action) (i t : ℕ) → get_or xs i malformed ≡ use_tlas t → t < tlas_count l
    → OutcomeUse l (tell_actions l h (take i xs)) t i (submission r xs)
use_at l h r a xs i t e k =
    let w = use_within xs i t e in
    let n : length (take i xs) ≡ i = length-take-le i xs (omega arith) in
    let parts : xs ≡ take i xs ++ use_tlas t ∷ drop (suc i) xs = split_at xs i malformed w ∙ ap (λ (x : Action). take i xs ++ x ∷ drop (suc i) xs) e in
    subst (λ (o : Outcome). OutcomeUse l (tell_actions l h (take i xs)) t i o)
    (sym (submission-run r xs a.sound ∙ ap (run r) parts ∙ run-append r (take i xs) (use_tlas t ∷ drop (suc i) xs)))
    (subst (λ (j : ℕ). OutcomeUse l (tell_actions l h (take i xs)) t j (run r (take i xs) followed_by λ q. later (length (take i xs)) (run q (use_tlas t ∷ drop (suc i) xs)))) n
    (use_then l h r a (take i xs) t (drop (suc i) xs) k))

-- ---- the whole

pub demand_3 : (l : Lent) → Fits l → judge l ≡ none → OutcomeDemand l
demand_3 l f j =
    let s = sound l f j in
    record {
      cuts = cuts l s;
      uses =
          λ done l₁ c p r l₂ e i t u k.
          rw e (use_at l (history l [] (map decode done)) l₁ (agree_calls l c [] (agree_start l s)) (decode p) i t u k);
      tables = λ done l₁ c. (agree_calls l c [] (agree_start l s)).by;
    }
