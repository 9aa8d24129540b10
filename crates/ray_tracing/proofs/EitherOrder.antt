-- Either order of two senders' submissions gives each the same: the sender's tables are alike to it before its list, whichever sender was first,
-- by `Views`. Then each of the routines, by the definition that its contract cites.
use Prim.Native.Nat.{ℕ, zero, suc, ◌+◌, ◌*◌, ◌^◌, ◌≤◌, ◌<◌}
use native.Mathlib.Decide.{dec_lt, ℕ_discrete}
use native.Mathlib.Omega.{arith}
use mathlib.Core.Path.{◌≡◌, refl, sym, ap, ◌∙◌, subst}
use mathlib.Core.Bool.{Bool, true, false, ◌&&◌, not, and_comm}
use mathlib.Core.Option.{Option, none, some}
use mathlib.Core.List.{List, [], ◌∷◌}
use lib.ListN.{length, take, drop, take-append-drop, get_or-eq_default}
use Rattle.wire.specs.Wire.{le_at}
use Rattle.wire.proofs.Laws.{le_cong}
use Rattle.ray_tracing.specs.Layout.{layout, size}
use Rattle.ray_tracing.specs.Causes.{Cause}
use Rattle.ray_tracing.specs.Submission.{Lent, Piece, Action, build, use_tlas, malformed, Outcome, accepted, refused, ◌leaving◌, left, ◌followed_by◌, blas_size, tlas_size, blas_count, tlas_count, blas_in, tlas_in, blas, tlas, dependencies_of, judge, run, submission, decode, Buffers, lent_with, Shown, shown}
use Rattle.ray_tracing.specs.History.{every}
use Rattle.ray_tracing.specs.Claim.{Routine, SubmitShows, ValidateShows, NumbersBelow}
use Rattle.ray_tracing.specs.EitherOrder.{Sender, ShareNone, own_package, own_action, Sends, TwoSenders, InOrder, a_blas, a_tlas, newer, SameNewer, left_by, met_by, SameInEither, EitherOrder}
use Rattle.ray_tracing.proofs.Zeroed.{le_zero}
use Rattle.ray_tracing.proofs.Sheets.{lent_tells}
use Rattle.ray_tracing.proofs.Sound.{Sound, sound}
use Rattle.ray_tracing.proofs.Allowed.{and_true, true_and}
use Rattle.ray_tracing.proofs.Cuts.{run-append, submission-run}
use Rattle.ray_tracing.proofs.Callers.{submit_shows, validate_shows}
use Rattle.ray_tracing.proofs.Views.{Relation, Held, now, old, value, has, Own, Alike, alike_self, alike_with, alike_sym, alike_newer, Both, both, first40, second40, BothStep, FirstSteps, elsewhere, submission-alike, submission-elsewhere}

-- ---- the start

-- past the table there is no number
le_outside : (w : ℕ) (s : List ℕ) (at : ℕ) → length s ≤ at → le_at w s at ≡ 0
le_outside w s at h = le_cong w s [] at 0 (λ k l. get_or-eq_default s 0 (omega arith)) ∙ le_zero w [] 0 (λ i. refl)

blas_outside : (l : Lent) → Sound l → (b : ℕ) → blas_count l ≤ b → (blas l b).built_index ≡ 0
unfolding blas_in
blas_outside l s b h = le_outside 8 l.blases (b * blas_size + 20) (omega (arith, (lent_tells 2 (layout 2) (size 1) [] l.blases s.blases).whole))

tlas_outside : (l : Lent) → Sound l → (t : ℕ) → tlas_count l ≤ t → (tlas l t).built_index ≡ 0
unfolding tlas_in
tlas_outside l s t h = le_outside 8 l.tlases (t * tlas_size + 14) (omega (arith, (lent_tells 4 (layout 4) (size 3) [] l.tlases s.tlases).whole))

below_all : (count i n c : ℕ) → (count ≤ i → n ≡ 0) → (i < count → ¬ (n ≡ 0) → n < c) → ¬ (c ≡ 0) → n < c
below_all count i n c past inside z =
    elim (dec_lt i count) [
      | yes k ↦ elim (ℕ_discrete n 0) [ yes q ↦ omega arith | no q ↦ inside k q ]
      | no k ↦ let q : count ≤ i = omega arith in omega (arith, past q)
    ]

pub start_own : (d : Sender) (l : Lent) → Sound l → NumbersBelow l
    → ((t : ℕ) → t < tlas_count l → d.tlas t ≡ true → every d.blas (dependencies_of l t) ≡ true) → Own d 0 l
start_own d l s b k = record { sound = s; lists = k; below = below }
  where
    below : ¬ (l.counter ≡ 0) → (x : Held) → has d x ≡ true → value 0 l x < l.counter
    below z now h = omega arith
    below z (old none) h = omega arith
    below z (old (some (a_blas i))) h = below_all (blas_count l) i (blas l i).built_index l.counter (blas_outside l s i) (b.blases i) z
    below z (old (some (a_tlas i))) h = below_all (tlas_count l) i (tlas l i).built_index l.counter (tlas_outside l s i) (b.tlases i) z

-- ---- lists of actions

pub every_map : {A : Type 0} (s t : A → Bool) → ((x : A) → s x ≡ true → t x ≡ true) → (xs : List A) → every s xs ≡ true → every t xs ≡ true
every_map s t k [] e = refl
every_map s t k (x ∷ xs) e = let a = and_true (s x) _ e in true_and (k x a.0) (every_map s t k xs a.1)

every_take : {A : Type 0} (t : A → Bool) (i : ℕ) (xs : List A) → every t xs ≡ true → every t (take i xs) ≡ true
every_take t zero xs e = refl
every_take t (suc i) [] e = refl
every_take t (suc i) (x ∷ xs) e = let a = and_true (t x) _ e in true_and a.0 (every_take t i xs a.1)

-- what is the one sender's is not the other's
not_shared : (a b : Bool) → (a && b) ≡ false → b ≡ true → not a ≡ true
not_shared false b e h = refl
not_shared true b e h = let z : ◌≡◌ {A = ℕ} 0 1 = cc in absurd (omega arith)

other-action : (d e : Sender) → ShareNone d e → (a : Action) → own_action e a ≡ true → elsewhere d a ≡ true
other-action d e s (build bs ps) h =
    let a = and_true (every e.blas bs) _ h in
    true_and (every_map e.blas (λ b. not (d.blas b)) (λ b. not_shared (d.blas b) (e.blas b) (s.blases b)) bs a.0)
    (every_map (own_package e) (λ p. not (d.tlas p.tlas))
    (λ p k. not_shared (d.tlas p.tlas) (e.tlas p.tlas) (s.tlases p.tlas) (and_true (e.tlas p.tlas) _ k).0) ps a.1)
other-action d e s (use_tlas t) h = refl
other-action d e s malformed h = refl

-- ---- outcomes

abbrev number_of_answer : Outcome → ℕ
number_of_answer o = (shown o).numbers.number

-- m is n or further on; 0 is past the last number
abbrev Ahead : Relation
Ahead n m = ¬ (m ≡ 0) → (¬ (n ≡ 0)) × (n ≤ m)

both_step : BothStep Ahead
both_step n m c a b f g z = let k = (c b).1 in (λ e. omega (arith, e, z), omega (arith, z))

first_steps : FirstSteps (λ n m. Ahead m n)
first_steps n m c a f z = let k = c a in (k.0, let h = k.1 in omega (arith, z))

-- so a list that meets 40 where it comes first meets it where it comes second
both_alike : (d : Sender) {o q : Outcome} → Both Ahead d o q → ¬ (number_of_answer q ≡ 40)
    → ((shown o).numbers ≡ (shown q).numbers) × Alike Ahead d 0 0 (left o) (left q)
both_alike d (both v) g = (refl, v)
both_alike d (first40 c z w) g = absurd ((c w).0 z)
both_alike d second40 g = absurd (g refl)

-- a list that meets no 40 meets none in its first part
then_40 : (o : Outcome) (f : Lent → Outcome) → number_of_answer o ≡ 40 → number_of_answer (o followed_by f) ≡ 40
then_40 (accepted leaving l) f e = absurd (omega arith)
then_40 (refused i c leaving l) f e = e

take_40 : (l : Lent) → Sound l → (acts : List Action) (i : ℕ) → ¬ (number_of_answer (submission l acts) ≡ 40) → ¬ (number_of_answer (submission l (take i acts)) ≡ 40)
take_40 l s acts i n e =
    n (ap number_of_answer (submission-run l acts s ∙ ap (run l) (sym (take-append-drop i acts)) ∙ run-append l (take i acts) (drop i acts))
    ∙ then_40 (run l (take i acts)) _ (sym (ap number_of_answer (submission-run l (take i acts) s)) ∙ e))

-- p is first, or second after q
pub record OutcomesSame (d : Sender) (l : Lent) (p q : List Action) : Type 0 where
  pub answer : (shown (submission l p)).numbers ≡ (shown (submission (left (submission l q)) p)).numbers
  pub during : (i : ℕ) → SameNewer d (left (submission l (take i p))) (left (submission (left (submission l q)) (take i p)))
  pub after : SameNewer d (left (submission (left (submission l p)) q)) (left (submission (left (submission l q)) p))

-- a start that is refused refuses all alike
stays : (l : Lent) (c : Cause) → judge l ≡ some c → (acts : List Action) → left (submission l acts) ≡ l
unfolding submission
stays l c e acts = rw e

refused_start : (d : Sender) (l : Lent) (c : Cause) → judge l ≡ some c → (p q : List Action) → OutcomesSame d l p q
refused_start d l c e p q =
    record {
      answer = ap (λ (r : Lent). (shown (submission r p)).numbers) (sym (stays l c e q));
      during = λ i x y h k. ap (λ (r : Lent). newer (left (submission r (take i p))) x y) (sym (stays l c e q));
      after =
          λ x y h k. ap (λ (r : Lent). newer r x y)
          (ap (λ (r : Lent). left (submission r q)) (stays l c e p) ∙ stays l c e q ∙ sym (ap (λ (r : Lent). left (submission r p)) (stays l c e q) ∙ stays l c e p));
    }

same_outcomes : (d : Sender) (l : Lent) → Sound l → NumbersBelow l
    → ((t : ℕ) → t < tlas_count l → d.tlas t ≡ true → every d.blas (dependencies_of l t) ≡ true)
    → (p q : List Action) → every (own_action d) p ≡ true → every (elsewhere d) q ≡ true
    → ¬ (number_of_answer (submission (left (submission l q)) p) ≡ 40) → OutcomesSame d l p q
same_outcomes d l s b k p q own other g =
    let v = alike_self d {C = λ n m. Ahead m n} (λ z. (z, omega arith)) (start_own d l s b k) in
    let w = alike_sym d (submission-elsewhere (λ n m. Ahead m n) d first_steps v q other) in
    let last = both_alike d (submission-alike Ahead d both_step w p own) g in
    record {
      answer = last.0;
      during =
          λ i. alike_newer d
          (both_alike d (submission-alike Ahead d both_step w (take i p) (every_take (own_action d) i p own)) (take_40 (left (submission l q)) w.that.sound p i g)).1;
      after = alike_newer d (submission-elsewhere (λ n m. Unit {0}) d (λ n m c a f. tt) (alike_with d tt last.1) q other);
    }

-- ---- a routine

leaves : (s : Shown) (o : Outcome) → s ≡ shown o → left_by s ≡ left o
leaves s (a leaving l) e = ap left_by e

module _ (R : Routine) (shows : (n : ℕ) (x : Buffers) (p : Piece) (s : Shown) → R n x p s → s ≡ shown (submission (lent_with n x) (decode p))) where
  module _ {n : ℕ} {x : Buffers} {p q : Piece} (o : InOrder R n x p q) where
    one : o.first ≡ shown (submission (lent_with n x) (decode p))
    one = shows n x p o.first o.call_first

    one-leaves : left_by o.first ≡ left (submission (lent_with n x) (decode p))
    one-leaves = leaves o.first (submission (lent_with n x) (decode p)) one

    two : o.second ≡ shown (submission (left (submission (lent_with n x) (decode p))) (decode q))
    two = shows o.first.counter o.first.left q o.second o.call_second ∙ ap (λ (r : Lent). shown (submission r (decode q))) one-leaves

    two-leaves : left_by o.second ≡ left (submission (left (submission (lent_with n x) (decode p))) (decode q))
    two-leaves = leaves o.second (submission (left (submission (lent_with n x) (decode p))) (decode q)) two

  -- one sender's half
  half : (n : ℕ) (x : Buffers) → n < 2 ^ 64 → NumbersBelow (lent_with n x) → (d e : Sender) (p q : Piece) → ShareNone d e → Sends d p (lent_with n x) → Sends e q (lent_with n x)
      → (o : InOrder R n x p q) (o' : InOrder R n x q p) → ¬ (o'.second.numbers.number ≡ 40) → SameInEither d o o'
  half n x f b d e p q a s t o o' u =
      let same = go (judge (lent_with n x)) refl in
      record {
        answer = ap (λ (s : Shown). s.numbers) (one o) ∙ same.answer ∙ sym (ap (λ (s : Shown). s.numbers) (two o'));
        during = λ i. subst (λ (r : Lent). SameNewer d (met_by i p (lent_with n x)) (met_by i p r)) (sym (one-leaves o')) (same.during i);
        after = λ y z h k. ap (λ (r : Lent). newer r y z) (two-leaves o) ∙ same.after y z h k ∙ sym (ap (λ (r : Lent). newer r y z) (two-leaves o'));
      }
    where
      go : (c : Option Cause) → judge (lent_with n x) ≡ c → OutcomesSame d (lent_with n x) (decode p) (decode q)
      go none j =
          same_outcomes d (lent_with n x) (sound (lent_with n x) f j) b s.lists (decode p) (decode q) s.own
          (every_map (own_action e) (elsewhere d) (other-action d e a) (decode q) t.own)
          (λ z. u (ap (λ (s : Shown). s.numbers.number) (two o') ∙ z))
      go (some c) j = refused_start d (lent_with n x) c j (decode p) (decode q)

  pub either_order_of : (n : ℕ) (x : Buffers) (d e : Sender) (p q : Piece) → n < 2 ^ 64 → TwoSenders (lent_with n x) d e p q → EitherOrder R n x d e p q
  either_order_of n x d e p q f a =
      let back : ShareNone e d = record { blases = λ b. and_comm (e.blas b) (d.blas b) ∙ a.apart.blases b; tlases = λ t. and_comm (e.tlas t) (d.tlas t) ∙ a.apart.tlases t } in
      record {
        one = half n x f a.below d e p q a.apart a.one a.other;
        other = λ o o'. half n x f a.below e d q p back a.other a.one o' o;
      }

-- ---- the routines

-- calls of `submit`, and of `validate_acceleration_structure_actions` or `zakvind_submit`
pub either_order_of_submit : (n : ℕ) (x : Buffers) (d e : Sender) (p q : Piece) → n < 2 ^ 64 → TwoSenders (lent_with n x) d e p q → EitherOrder SubmitShows n x d e p q
either_order_of_submit = either_order_of SubmitShows submit_shows

pub either_order_of_validate : (n : ℕ) (x : Buffers) (d e : Sender) (p q : Piece) → n < 2 ^ 64 → TwoSenders (lent_with n x) d e p q → EitherOrder ValidateShows n x d e p q
either_order_of_validate = either_order_of ValidateShows validate_shows
