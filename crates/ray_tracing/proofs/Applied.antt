-- Demand 3 at lent bytes: example 7 as one list cut in two, a cut in which 42 ends a Build, one with a malformed action, the rule for a
-- use, and a passing use with a Build after its Tlas's own.
use Prim.Native.Nat.{ℕ, zero, suc, ◌<◌}
use native.Mathlib.Omega.{arith}
use mathlib.Core.Path.{◌≡◌, refl, sym}
use mathlib.Core.Bool.{Bool, true, false}
use mathlib.Core.List.{[], ◌∷◌, ◌++◌}
use lib.Dec.{lit<}
use Rattle.wire.specs.Wire.{le_at, le_bytes}
use Rattle.ray_tracing.specs.Causes.{cause, bare}
use Rattle.ray_tracing.specs.Submission.{Lent, accepted, refused, ◌leaving◌, blas_count, tlas_count, blas, tlas, blas_in, tlas_in, list_in, packages_at, packages_lent, action, decode_cells, decode, submission}
use Rattle.ray_tracing.specs.History.{among, Built, allowed, acts, tell_action, tell_actions, history}
use Rattle.ray_tracing.specs.Claim.{Each, Usable, NumbersBelow, ByHistory}
use Rattle.ray_tracing.proofs.Outcomes.{OutcomeDemand, outcome_reached, outcome_sent, outcome_refused, OutcomeSent, outcome_call, no_outcome}
use Rattle.ray_tracing.proofs.DemandExamples.{lent, piece, lists_7, first_7, second_7, start, all}
use Rattle.ray_tracing.proofs.Demand3.{demand_3}

demand : OutcomeDemand start
demand = demand_3 start (omega arith) all.0

-- example 7 in two submissions: the uncut list's refusal, 44 at action 3, and all that it leaves
sent_7 : OutcomeSent start (piece first_7 lists_7 ∷ piece second_7 [] ∷ []) (refused 3 (cause 44 0 0 0) leaving lent 7 6 0 5 (0 ∷ []) 511)
unfolding packages_at packages_lent action decode_cells
sent_7 = outcome_sent (sym all.1.0) (outcome_refused (sym all.1.1.0))

cuts_7 : refused 3 (cause 44 0 0 0) leaving lent 7 6 0 5 (0 ∷ []) 511 ≡ submission start (decode (piece (first_7 ++ second_7) lists_7))
cuts_7 = demand.cuts (piece (first_7 ++ second_7) lists_7) (piece first_7 lists_7 ∷ piece second_7 [] ∷ []) all.1.1.1.0 _ sent_7

-- a cut in which 42 ends a Build in the second submission, and one whose middle submission has an action of no kind
cuts_42 :
    refused 2 (cause 42 1 0 0) leaving lent 7 6 0 5 (0 ∷ []) 511
    ≡ submission start (decode (piece (first_7 ++ (1 ∷ 4 ∷ 1 ∷ 1 ∷ [])) (lists_7 ++ (0 ∷ 0 ∷ 1 ∷ 1 ∷ []))))
unfolding packages_at packages_lent action decode_cells
cuts_42 =
    demand.cuts (piece (first_7 ++ (1 ∷ 4 ∷ 1 ∷ 1 ∷ [])) (lists_7 ++ (0 ∷ 0 ∷ 1 ∷ 1 ∷ [])))
    (piece first_7 lists_7 ∷ piece (1 ∷ 1 ∷ 1 ∷ 1 ∷ []) (7 ∷ 0 ∷ 0 ∷ 1 ∷ 1 ∷ []) ∷ [])
    all.1.1.1.1.1.1.0 _ (outcome_sent (sym all.1.0) (outcome_refused (sym all.1.1.1.1.1.0)))

cuts-malformed :
    refused 2 (bare 5) leaving lent 6 5 0 5 (0 ∷ []) 511
    ≡ submission start (decode (piece (first_7 ++ (257 ∷ 0 ∷ 0 ∷ 0 ∷ second_7)) lists_7))
unfolding packages_at packages_lent action decode_cells
cuts-malformed =
    demand.cuts (piece (first_7 ++ (257 ∷ 0 ∷ 0 ∷ 0 ∷ second_7)) lists_7)
    (piece first_7 lists_7 ∷ piece (257 ∷ 0 ∷ 0 ∷ 0 ∷ []) [] ∷ piece second_7 [] ∷ [])
    all.1.1.1.1.1.1.1.1.0 _ (outcome_sent (sym all.1.0) (outcome_refused (sym all.1.1.1.1.1.1.1.0)))

-- the use of the first submission is reached and passes, so the rule holds of the log, one Build with the number 5
rule_7 : Usable start (record { number = 5; blases = 0 ∷ []; tlases = record { tlas = 0; dependencies = 0 ∷ [] } ∷ [] } ∷ []) 0
unfolding packages_at packages_lent action decode_cells outcome_reached history allowed acts tell_action tell_actions blas_in tlas_in list_in le_at le_bytes
rule_7 =
    ((demand.uses [] start no_outcome (piece first_7 lists_7) accepted (lent 6 5 0 5 (0 ∷ []) 511) (sym all.1.0) 1 0 refl (lit< tt)).rule refl).0 refl

-- that of the second is reached and does not pass, so the rule does not hold
rule_7_then :
    Usable start
    (record { number = 6; blases = 0 ∷ []; tlases = [] } ∷ record { number = 5; blases = 0 ∷ []; tlases = record { tlas = 0; dependencies = 0 ∷ [] } ∷ [] } ∷ []) 0
    → ◌≡◌ {A = Bool} false true
unfolding packages_at packages_lent action decode_cells outcome_reached history allowed acts tell_action tell_actions blas_in tlas_in list_in le_at le_bytes
rule_7_then =
    ((demand.uses (piece first_7 lists_7 ∷ []) (lent 6 5 0 5 (0 ∷ []) 511) (outcome_call (sym all.1.0) no_outcome) (piece second_7 []) (refused 1 (cause 44 0 0 0))
    (lent 7 6 0 5 (0 ∷ []) 511) (sym all.1.1.0) 1 0 refl (lit< tt)).rule refl).1

-- a start whose numbers, 3 of B0 and 4 of T0, are below its counter, 5
abbrev old : Lent
old = lent 5 3 0 4 (0 ∷ []) 511

blas-below : (b : ℕ) → b < blas_count old → ¬ ((blas old b).built_index ≡ 0) → (blas old b).built_index < 5
unfolding blas_in le_at le_bytes
blas-below zero k n = lit< tt
blas-below (suc zero) k n = absurd (n refl)
blas-below (suc (suc b)) k n = let q : blas_count old ≡ 2 = refl in absurd (omega arith)

tlas-below : (t : ℕ) → t < tlas_count old → ¬ ((tlas old t).built_index ≡ 0) → (tlas old t).built_index < 5
unfolding tlas_in le_at le_bytes
tlas-below zero k n = lit< tt
tlas-below (suc t) k n = let q : tlas_count old ≡ 1 = refl in absurd (omega arith)

below : NumbersBelow old
below = record { blases = blas-below; tlases = tlas-below }

-- a Build of B1 came after T0's own, the use passes, and B0, which T0 lists, was not built by it
fresh_old : Each (λ (b : ℕ). Each (λ (e : Built). among b e.blases ≡ false) (record { number = 5; blases = 1 ∷ []; tlases = [] } ∷ [])) (0 ∷ [])
unfolding packages_at packages_lent action decode_cells outcome_reached history allowed acts tell_action tell_actions blas_in tlas_in list_in le_at le_bytes
fresh_old =
    ((demand_3 old (omega arith) all.1.1.1.1.1.1.1.1.1.0).uses [] old no_outcome (piece (3 ∷ 1 ∷ 0 ∷ 0 ∷ 2 ∷ 0 ∷ 0 ∷ 0 ∷ []) []) accepted (lent 6 3 5 4 (0 ∷ []) 511)
    (sym all.1.1.1.1.1.1.1.1.1.1.0) 1 0 refl (lit< tt)).fresh below refl

-- the tables after both submissions of example 7 are the history's: T0's number is 5 and its list B0, B0's number is 6
tables_7 :
    ByHistory start
    (record { number = 6; blases = 0 ∷ []; tlases = [] } ∷ record { number = 5; blases = 0 ∷ []; tlases = record { tlas = 0; dependencies = 0 ∷ [] } ∷ [] } ∷ [])
    (lent 7 6 0 5 (0 ∷ []) 511)
unfolding packages_at packages_lent action decode_cells history allowed acts tell_action tell_actions blas_in tlas_in list_in le_at le_bytes
tables_7 =
    demand.tables (piece first_7 lists_7 ∷ piece second_7 [] ∷ []) (lent 7 6 0 5 (0 ∷ []) 511) (outcome_call (sym all.1.0) (outcome_call (sym all.1.1.0) no_outcome))
