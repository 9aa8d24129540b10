-- Two senders computed: a start and lists that meet every premise, with Builds, marks of each kind, uses and a list refused midway, in both
-- orders; and for each premise a start and lists that fail it alone, where the order matters.
use Prim.Native.Nat.{ℕ, zero, suc, ◌-◌, ◌^◌, ◌<◌}
use native.Mathlib.Omega.{arith}
use mathlib.Core.Path.{◌≡◌, refl, sym, ap}
use mathlib.Core.Bool.{Bool, true, false, ◌&&◌, ◌||◌, not, and-false}
use mathlib.Core.List.{List, [], ◌∷◌, ◌++◌, map}
use Rattle.std.specs.Prelude.{Result, Ok, Err}
use lib.ListN.{length, replicate}
use lib.Dec.{eqb, ltb, lit<}
use borrow.Author.Tests.{eqb-true}
use Rattle.wire.specs.Wire.{le_at, le_bytes}
use Rattle.ray_tracing.specs.declared.Validated.{Validated}
use Rattle.ray_tracing.specs.declared.SubmissionRefusal.{SubmissionRefusal}
use Rattle.ray_tracing.specs.declared.ValidateAsActionsError.TheVariants as error
use Rattle.ray_tracing.specs.Guard.{refuse}
use Rattle.ray_tracing.specs.Reading.{judge_fields, judge_records, judge_lent}
use Rattle.ray_tracing.specs.Causes.{cause, bare, unbuilt_in_use}
use Rattle.ray_tracing.specs.Submission.{Lent, Piece, Answer, accepted, refused, Outcome, ◌leaving◌, left, blas_count, tlas_count, blas, tlas, dependencies_of, blas_in, tlas_in, list_in, judge, judge_lists, packages_at, packages_lent, action, decode_cells, decode, before, built_blas, built_blases, built_tlas, build_tlases, act, step, run, submission, Buffers, lent_with, Numbers, Submits, Shown, shown, numbers_of}
use Rattle.ray_tracing.specs.History.{every, among}
use Rattle.ray_tracing.specs.Claim.{SubmitShows, ValidateShows, NumbersBelow}
use Rattle.ray_tracing.specs.EitherOrder.{Sender, ShareNone, own_action, Sends, TwoSenders, InOrder, Structure, a_blas, a_tlas, newer, met_by, SameInEither}
use Rattle.ray_tracing.proofs.Allowed.{and_true}
use Rattle.ray_tracing.proofs.DemandExamples.{blas_bytes, tlas_bytes, piece}
use Rattle.ray_tracing.proofs.MarkBuiltExamples.{indices, fine}
use Rattle.ray_tracing.proofs.Views.{not_among}
use Rattle.ray_tracing.proofs.EitherOrder.{either_order_of_submit, either_order_of_validate}

-- ---- a start and two lists

-- four Blases and two Tlases with their numbers, and the Tlases' lists
abbrev tables : ℕ → ℕ → ℕ → ℕ → ℕ → ℕ → List ℕ → List ℕ → Buffers
tables b₀ b₁ b₂ b₃ t₀ t₁ list₀ list₁ =
    record {
      blases = blas_bytes b₀ ++ (blas_bytes b₁ ++ (blas_bytes b₂ ++ blas_bytes b₃));
      tlases = tlas_bytes t₀ ++ tlas_bytes t₁;
      dependency_counts = length list₀ ∷ length list₁ ∷ [];
      dependencies = list₀ ++ (replicate (512 - length list₀) 9 ++ (list₁ ++ replicate (512 - length list₁) 9));
    }

-- B1 has the number 3, T0, which lists it, 4
abbrev start : Buffers
start = tables 0 3 0 0 4 0 (1 ∷ []) []

-- use T0, Build of B2 and T0 over B1 and B2, use T0, mark B1, use T0, mark B2
abbrev list_1 : Piece
list_1 = piece (2 ∷ 0 ∷ 0 ∷ 0 ∷ 1 ∷ 0 ∷ 1 ∷ 1 ∷ 2 ∷ 0 ∷ 0 ∷ 0 ∷ 3 ∷ 1 ∷ 0 ∷ 0 ∷ 2 ∷ 0 ∷ 0 ∷ 0 ∷ 3 ∷ 2 ∷ 0 ∷ 0 ∷ []) (2 ∷ 0 ∷ 2 ∷ 1 ∷ 2 ∷ [])

-- mark T1, use T1, Build of B0 and T1 over B0, use T1, mark of B3 and of T1 over B0 and B3, use T1, mark B0
abbrev list_2 : Piece
list_2 =
    piece (4 ∷ 1 ∷ 0 ∷ 0 ∷ 2 ∷ 1 ∷ 0 ∷ 0 ∷ 1 ∷ 0 ∷ 1 ∷ 1 ∷ 2 ∷ 1 ∷ 0 ∷ 0 ∷ 5 ∷ 4 ∷ 1 ∷ 1 ∷ 2 ∷ 1 ∷ 0 ∷ 0 ∷ 3 ∷ 0 ∷ 0 ∷ 0 ∷ [])
    (0 ∷ 1 ∷ 1 ∷ 0 ∷ 3 ∷ 1 ∷ 2 ∷ 0 ∷ 3 ∷ [])

-- a sender by its ids
pub record Ids : Type 0 where
  pub blases : List ℕ
  pub tlases : List ℕ

abbrev sender : Ids → Sender
sender d = record { blas = λ b. among b d.blases; tlas = λ t. among t d.tlases }

abbrev ids_1 : Ids
ids_1 = record { blases = 1 ∷ 2 ∷ []; tlases = 0 ∷ [] }

abbrev ids_2 : Ids
ids_2 = record { blases = 0 ∷ 3 ∷ []; tlases = 1 ∷ [] }

-- ---- the premises

-- by tests of the ids
share_none : (xs ys : List ℕ) → every (λ x. not (among x ys)) xs ≡ true → (a : ℕ) → (among a xs && among a ys) ≡ false
share_none xs ys e a = go (among a ys) refl
  where
    go : (t : Bool) → among a ys ≡ t → (among a xs && among a ys) ≡ false
    go true q = rw (not_among (λ x. among x ys) xs e a q)
    go false q = rw q (and-false (among a xs))

each-among : (f : ℕ → Bool) (xs : List ℕ) → every f xs ≡ true → (a : ℕ) → among a xs ≡ true → f a ≡ true
each-among f [] e a h = let z : ◌≡◌ {A = ℕ} 0 1 = cc in absurd (omega arith)
each-among f (x ∷ xs) e a h = let each = and_true (f x) _ e in go each.0 (each-among f xs each.1 a) (eqb a x) refl
  where
    go : f x ≡ true → (among a xs ≡ true → f a ≡ true) → (t : Bool) → eqb a x ≡ t → f a ≡ true
    go here later true q = rw (eqb-true a x q) here
    go here later false q = later (rw q at h)

apart : ShareNone (sender ids_1) (sender ids_2)
apart = record { blases = share_none ids_1.blases ids_2.blases refl; tlases = share_none ids_1.tlases ids_2.tlases refl }

abbrev within : Lent → Ids → ℕ → Bool
within l d t = every (λ b. among b d.blases) (dependencies_of l t)

sends_1 : Sends (sender ids_1) list_1 (lent_with 5 start)
unfolding packages_at packages_lent action decode_cells list_in
sends_1 = record { own = refl; lists = λ t k h. each-among (within (lent_with 5 start) ids_1) ids_1.tlases refl t h }

sends_2 : Sends (sender ids_2) list_2 (lent_with 5 start)
unfolding packages_at packages_lent action decode_cells list_in
sends_2 = record { own = refl; lists = λ t k h. each-among (within (lent_with 5 start) ids_2) ids_2.tlases refl t h }

below : NumbersBelow (lent_with 5 start)
unfolding blas_in tlas_in le_at le_bytes
below = record { blases = blases; tlases = tlases }
  where
    blases : (b : ℕ) → b < blas_count (lent_with 5 start) → ¬ ((blas (lent_with 5 start) b).built_index ≡ 0) → (blas (lent_with 5 start) b).built_index < 5
    blases zero k n = absurd (n refl)
    blases (suc zero) k n = lit< tt
    blases (suc (suc zero)) k n = absurd (n refl)
    blases (suc (suc (suc zero))) k n = absurd (n refl)
    blases (suc (suc (suc (suc b)))) k n = let q : blas_count (lent_with 5 start) ≡ 4 = refl in absurd (omega arith)

    tlases : (t : ℕ) → t < tlas_count (lent_with 5 start) → ¬ ((tlas (lent_with 5 start) t).built_index ≡ 0) → (tlas (lent_with 5 start) t).built_index < 5
    tlases zero k n = lit< tt
    tlases (suc zero) k n = absurd (n refl)
    tlases (suc (suc t)) k n = let q : tlas_count (lent_with 5 start) ≡ 2 = refl in absurd (omega arith)

two_senders : TwoSenders (lent_with 5 start) (sender ids_1) (sender ids_2) list_1 list_2
two_senders = record { apart = apart; one = sends_1; other = sends_2; below = below }

-- ---- both orders, computed

-- 44 at action 4: B1 is newer than T0
abbrev newer_44 : Numbers
newer_44 = record { number = 44; action = 4; first = 1; second = 0 }

abbrev all-accepted : Numbers
all-accepted = record { number = 0; action = 0; first = 0; second = 0 }

abbrev refused_44 : ℕ → Result ℕ SubmissionRefusal
refused_44 n = Err (record { error = (error.BlasNewerThenTlas (record { 0 = 1 }) (record { 0 = 0 })); action = 4; counter = n })

-- what is left of the first list alone and of the second alone, and of both in each order
abbrev left_1 : Buffers
left_1 = tables 0 6 5 0 5 0 (1 ∷ 2 ∷ []) []

abbrev left_2 : Buffers
left_2 = tables 8 3 0 7 4 7 (1 ∷ []) (0 ∷ 3 ∷ [])

abbrev left_12 : Buffers
left_12 = tables 10 6 5 9 5 9 (1 ∷ 2 ∷ []) (0 ∷ 3 ∷ [])

abbrev left_21 : Buffers
left_21 = tables 8 10 9 7 9 7 (1 ∷ 2 ∷ []) (0 ∷ 3 ∷ [])

submits : Submits 5 start list_1 (refused_44 7) left_1 × (Submits 7 left_1 list_2 (Ok 11) left_12
    × (Submits 5 start list_2 (Ok 9) left_2 × Submits 9 left_2 list_1 (refused_44 11) left_21))
unfolding judge judge_lent judge_records judge_fields judge_lists le_at le_bytes blas_in tlas_in list_in refuse packages_at packages_lent action decode_cells before built_blas built_blases built_tlas build_tlases act step run submission
submits = (refl, (refl, (refl, refl)))

abbrev shows : Numbers → ℕ → Buffers → Shown
shows v n x = record { numbers = v; counter = n; left = x }

-- as calls of `submit`
abbrev first_then_second : InOrder SubmitShows 5 start list_1 list_2
first_then_second =
    record {
      first = shows newer_44 7 left_1;
      second = shows all-accepted 11 left_12;
      call_first = record { answer = refused_44 7; called = submits.0; numbers = refl; counter = refl };
      call_second = record { answer = Ok 11; called = submits.1.0; numbers = refl; counter = refl };
    }

abbrev second_then_first : InOrder SubmitShows 5 start list_2 list_1
second_then_first =
    record {
      first = shows all-accepted 9 left_2;
      second = shows newer_44 11 left_21;
      call_first = record { answer = Ok 9; called = submits.1.1.0; numbers = refl; counter = refl };
      call_second = record { answer = refused_44 11; called = submits.1.1.1; numbers = refl; counter = refl };
    }

-- as calls of `validate_acceleration_structure_actions`, and so of `zakvind_submit`
abbrev validates : (n m : ℕ) (x y : Buffers) (p : Piece) (v : Validated)
    → shows (numbers_of v) m y ≡ shown (submission (lent_with n x) (decode p)) → ValidateShows n x p (shows (numbers_of v) m y)
validates n m x y p v e =
    record {
      indices = indices n;
      stepped = indices m;
      answer = v;
      called = record { shows = e; unmoved = refl };
      lent = refl;
      numbers = refl;
      counter = refl;
    }

abbrev validated_44 : Validated
validated_44 = record { number = 44; action = 4; first = 1; second = 0 }

abbrev validated_first : InOrder ValidateShows 5 start list_1 list_2
validated_first =
    record {
      first = shows newer_44 7 left_1;
      second = shows all-accepted 11 left_12;
      call_first = validates 5 7 start left_1 list_1 validated_44 (ap shown submits.0);
      call_second = validates 7 11 left_1 left_12 list_2 fine (ap shown submits.1.0);
    }

abbrev validated_second : InOrder ValidateShows 5 start list_2 list_1
validated_second =
    record {
      first = shows all-accepted 9 left_2;
      second = shows newer_44 11 left_21;
      call_first = validates 5 9 start left_2 list_2 fine (ap shown submits.1.1.0);
      call_second = validates 9 11 left_2 left_21 list_1 validated_44 (ap shown submits.1.1.1);
    }

-- ---- the theorem, applied: neither meets 40

same_1 : SameInEither (sender ids_1) first_then_second second_then_first
same_1 =
    (either_order_of_submit 5 start (sender ids_1) (sender ids_2) list_1 list_2 (lit< tt) two_senders).one first_then_second second_then_first
    (λ e. omega (arith, e))

same_2 : SameInEither (sender ids_2) second_then_first first_then_second
same_2 =
    (either_order_of_submit 5 start (sender ids_1) (sender ids_2) list_1 list_2 (lit< tt) two_senders).other first_then_second second_then_first
    (λ e. omega (arith, e))

validated_1 : SameInEither (sender ids_1) validated_first validated_second
validated_1 =
    (either_order_of_validate 5 start (sender ids_1) (sender ids_2) list_1 list_2 (lit< tt) two_senders).one validated_first validated_second
    (λ e. omega (arith, e))

validated_2 : SameInEither (sender ids_2) validated_second validated_first
validated_2 =
    (either_order_of_validate 5 start (sender ids_1) (sender ids_2) list_1 list_2 (lit< tt) two_senders).other validated_first validated_second
    (λ e. omega (arith, e))

-- its fields: the first list is 44 in either order, at its use in action 4 B1 is newer than T0 after the second list too, and so it is at the end
answered : newer_44 ≡ second_then_first.second.numbers
answered = same_1.answer

at_the_use : newer (met_by 4 list_1 (lent_with 9 left_2)) (a_blas 1) (a_tlas 0) ≡ true
unfolding judge judge_lent judge_records judge_fields judge_lists le_at le_bytes blas_in tlas_in list_in refuse packages_at packages_lent action decode_cells before built_blas built_blases built_tlas build_tlases act step run submission
at_the_use = sym (same_1.during 4 (a_blas 1) (a_tlas 0) refl refl)

at_the_end : newer (lent_with 11 left_21) (a_blas 1) (a_tlas 0) ≡ true
unfolding le_at le_bytes blas_in tlas_in
at_the_end = sym (same_1.after (a_blas 1) (a_tlas 0) refl refl)

-- ---- without a premise the order matters

pub data Premise : Type 0 where
  no_common_blas : Premise
  no_common_tlas : Premise
  own_mentions : Premise
  starting_lists : Premise
  blas_numbers : Premise
  tlas_numbers : Premise
  no40 : Premise

abbrev unless : Bool → Premise → List Premise → List Premise
unless true p ps = ps
unless false p ps = p ∷ ps

abbrev answer_in : Outcome → Answer
answer_in (a leaving l) = a

abbrev not40 : Answer → Bool
not40 accepted = true
not40 (refused i c) = not (eqb c.number 40)

-- the answer to q, after p
abbrev second : Lent → Piece → Piece → Answer
second l p q = answer_in (submission (left (submission l (decode p))) (decode q))

abbrev number_below : ℕ → ℕ → Bool
number_below n c = eqb n 0 || ltb n c

-- which of the premises fail, by tests of the four Blases and two Tlases
pub failed : Lent → Ids → Ids → Piece → Piece → List Premise
failed l d e p q =
    unless (every (λ b. not (among b e.blases)) d.blases) no_common_blas
    (unless (every (λ t. not (among t e.tlases)) d.tlases) no_common_tlas
    (unless (every (own_action (sender d)) (decode p) && every (own_action (sender e)) (decode q)) own_mentions
    (unless (every (within l d) d.tlases && every (within l e) e.tlases) starting_lists
    (unless (every (λ b. number_below (blas l b).built_index l.counter) (0 ∷ 1 ∷ 2 ∷ 3 ∷ [])) blas_numbers
    (unless (every (λ t. number_below (tlas l t).built_index l.counter) (0 ∷ 1 ∷ [])) tlas_numbers
    (unless (not40 (second l p q) && not40 (second l q p)) no40 []))))))

-- what is answered to each of two lists in this order, and whether the one structure is newer than the other at the end
pub record Computed : Type 0 where
  pub first : Answer
  pub second : Answer
  pub newer_after : Bool

pub computed : Lent → Piece → Piece → Structure → Structure → Computed
computed l p q x y =
    let o = submission l (decode p) in
    let o' = submission (left o) (decode q) in
    record { first = answer_in o; second = answer_in o'; newer_after = newer (left o') x y }

abbrev seen : Answer → Answer → Bool → Computed
seen a b t = record { first = a; second = b; newer_after = t }

-- the premises that fail, and what is seen with the one list first and with the other
pub record Tried : Type 0 where
  pub failing : List Premise
  pub one : Computed
  pub other : Computed

-- a start, the senders and their lists, two structures, and what is to be found of them: the first list's answer is the first of the one and
-- the second of the other
pub data Case : Type 0 where
  case : List Premise → Lent → Ids → Ids → Piece → Piece → Structure → Structure → Computed → Computed → Case

abbrev told : Case → Tried
told (case fs l d e p q x y c c') = record { failing = fs; one = c; other = c' }

abbrev found : Case → Tried
found (case fs l d e p q x y c c') = record { failing = failed l d e p q; one = computed l p q x y; other = computed l q p x y }

abbrev mark : ℕ → Piece
mark b = piece (3 ∷ b ∷ 0 ∷ 0 ∷ []) []

abbrev mark_of : ℕ → Piece
mark_of t = piece (4 ∷ t ∷ 0 ∷ 0 ∷ []) []

abbrev use_of : ℕ → Piece
use_of t = piece (2 ∷ t ∷ 0 ∷ 0 ∷ []) []

abbrev alone : Premise → List Premise
alone p = p ∷ []

-- with B1 and T0 besides its own
abbrev with_b1 : Ids
with_b1 = record { blases = 0 ∷ 1 ∷ 3 ∷ []; tlases = 1 ∷ [] }

abbrev with_t0 : Ids
with_t0 = record { blases = 0 ∷ 3 ∷ []; tlases = 0 ∷ 1 ∷ [] }

-- the start with other Blases, counts and lists; and a start that is refused, with B9, which is in no table, the first sender's
abbrev starting : List ℕ → List ℕ → List ℕ → Buffers
starting blases counts cells = record { blases = blases; tlases = start.tlases; dependency_counts = counts; dependencies = cells }

abbrev refusing : ℕ → Buffers → Case
refusing n x =
    case [] (lent_with 5 x) (record { blases = 1 ∷ 2 ∷ 9 ∷ []; tlases = 0 ∷ [] }) ids_2 list_1 list_2 (a_blas 1) (a_tlas 0)
    (seen (refused 0 (bare n)) (refused 0 (bare n)) false) (seen (refused 0 (bare n)) (refused 0 (bare n)) false)

pub cases : List Case
cases =
    -- 0: with all of them: the same answers, and B1 newer than T0 in both
    case [] (lent_with 5 start) ids_1 ids_2 list_1 list_2 (a_blas 1) (a_tlas 0)
    (seen (refused 4 (cause 44 1 0 0)) accepted true) (seen accepted (refused 4 (cause 44 1 0 0)) true)
    -- 1: a starting number above the counter: B1's 6. T0, built over it, gets 5 or 6, so its use is refused or passes
    ∷ case (alone blas_numbers) (lent_with 5 (tables 0 6 0 0 4 0 (1 ∷ []) [])) ids_1 ids_2
    (piece (1 ∷ 0 ∷ 0 ∷ 1 ∷ 2 ∷ 0 ∷ 0 ∷ 0 ∷ []) (0 ∷ 1 ∷ 1 ∷ [])) (mark 0) (a_blas 1) (a_tlas 0)
    (seen (refused 1 (cause 44 1 0 0)) accepted true) (seen accepted accepted false)
    -- 2: the counter itself: B1's 5. The answers are the same, and whether B2 is newer than B1 is not
    ∷ case (alone blas_numbers) (lent_with 5 (tables 0 5 0 0 4 0 (1 ∷ []) [])) ids_1 ids_2 (mark 2) (mark 0) (a_blas 2) (a_blas 1)
    (seen accepted accepted false) (seen accepted accepted true)
    -- 3: T0's 5: B1, marked, gets 5 or 6, so the use after it passes or is refused
    ∷ case (alone tlas_numbers) (lent_with 5 (tables 0 3 0 0 5 0 (1 ∷ []) [])) ids_1 ids_2
    (piece (3 ∷ 1 ∷ 0 ∷ 0 ∷ 2 ∷ 0 ∷ 0 ∷ 0 ∷ []) []) (mark 0) (a_blas 1) (a_tlas 0)
    (seen accepted accepted false) (seen accepted (refused 1 (cause 44 1 0 0)) true)
    -- 4: a starting list with the other's Blas: T0 lists B0, which the other marks
    ∷ case (alone starting_lists) (lent_with 5 (tables 3 3 0 0 4 0 (0 ∷ []) [])) ids_1 ids_2 (use_of 0) (mark 0) (a_blas 1) (a_tlas 0)
    (seen accepted accepted false) (seen accepted (refused 0 (cause 44 0 0 0)) false)
    -- 5: a Build that lists the other's Blas: T0 over B0, which has a number once the other marked it
    ∷ case (alone own_mentions) (lent_with 5 start) ids_1 ids_2 (piece (1 ∷ 0 ∷ 0 ∷ 1 ∷ []) (0 ∷ 1 ∷ 0 ∷ [])) (mark 0) (a_blas 1) (a_tlas 0)
    (seen (refused 0 (cause 42 0 0 0)) accepted false) (seen accepted accepted false)
    -- 6: one that builds or marks the other's Blas, B1, which T0 lists
    ∷ case (alone own_mentions) (lent_with 5 start) ids_1 ids_2 (use_of 0) (mark 1) (a_blas 1) (a_tlas 0)
    (seen accepted accepted true) (seen accepted (refused 0 (cause 44 1 0 0)) true)
    -- 7: or its Tlas: T0's list, B2 without number, is emptied
    ∷ case (alone own_mentions) (lent_with 5 (tables 0 3 0 0 4 0 (2 ∷ []) [])) ids_1 ids_2 (use_of 0) (mark_of 0) (a_blas 1) (a_tlas 0)
    (seen (refused 0 (unbuilt_in_use 0 2)) accepted false) (seen accepted accepted false)
    -- 8: a use of the other's Tlas, T1, which has a number once the other marked it
    ∷ case (alone own_mentions) (lent_with 5 start) ids_1 ids_2 (use_of 1) (mark_of 1) (a_blas 1) (a_tlas 0)
    (seen (refused 0 (cause 43 1 0 0)) accepted false) (seen accepted accepted false)
    -- 9: a Blas that both have, as 6
    ∷ case (alone no_common_blas) (lent_with 5 start) ids_1 with_b1 (use_of 0) (mark 1) (a_blas 1) (a_tlas 0)
    (seen accepted accepted true) (seen accepted (refused 0 (cause 44 1 0 0)) true)
    -- 10: a Tlas that both have, listing nothing at the start: the one's use of it is refused or passes
    ∷ case (alone no_common_tlas) (lent_with 5 (tables 0 3 0 0 0 0 [] [])) ids_1 with_t0 (use_of 0) (mark_of 0) (a_blas 1) (a_tlas 0)
    (seen (refused 0 (cause 43 0 0 0)) accepted false) (seen accepted accepted false)
    -- 11: 40: one number is left
    ∷ case (alone no40) (lent_with (2 ^ 64 - 1) start) ids_1 ids_2 (mark 1) (mark 0) (a_blas 1) (a_tlas 0)
    (seen accepted (refused 0 (bare 40)) true) (seen accepted (refused 0 (bare 40)) false)
    -- 12: the last number with no Build after it is no 40
    ∷ case [] (lent_with (2 ^ 64 - 1) start) ids_1 ids_2 (mark 1) (use_of 1) (a_blas 1) (a_tlas 0)
    (seen accepted (refused 0 (cause 43 1 0 0)) true) (seen (refused 0 (cause 43 1 0 0)) accepted true)
    -- 13: "among its own": which is newer of the one's B1 and the other's B0 goes by the order
    ∷ case [] (lent_with 5 start) ids_1 ids_2 (mark 1) (mark 0) (a_blas 0) (a_blas 1) (seen accepted accepted true) (seen accepted accepted false)
    -- 14: nothing is asked of how a start is judged: one that draws 5, 4, 6 or 39 refuses both, in either order
    ∷ refusing 5 (starting (start.blases ++ (0 ∷ [])) (1 ∷ 0 ∷ []) start.dependencies)
    ∷ refusing 4 (starting start.blases (513 ∷ 0 ∷ []) start.dependencies)
    ∷ refusing 6 (tables 0 3 0 0 4 0 (9 ∷ []) [])
    ∷ refusing 39 (starting start.blases (1 ∷ 0 ∷ []) (1 ∷ []))
    ∷ []

pub all : map found cases ≡ map told cases
unfolding cases failed computed judge judge_lent judge_records judge_fields judge_lists le_at le_bytes blas_in tlas_in list_in refuse packages_at packages_lent action decode_cells before built_blas built_blases built_tlas build_tlases act step run submission
all = refl
