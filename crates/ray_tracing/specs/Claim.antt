-- Demand 3, whole, as a caller sees it: by the numbers that calls answer, and the counter and the buffers that they leave. Assumes nothing.
use Rattle.std.specs.Prelude.{ℕ, suc, ◌+◌, ◌*◌, ◌^◌, ◌≤◌, ◌<◌, ◌≡◌, ◌↔◌, Bool, true, false, ◌||◌, cond, length, get_or, take, leb, eqb, Result}
use mathlib.Core.List.{List, [], ◌∷◌, map, flatten}
use Rattle.ray_tracing.specs.declared.SubmissionRefusal.{SubmissionRefusal}
use Rattle.ray_tracing.specs.declared.CommandIndices.{CommandIndices}
use Rattle.ray_tracing.specs.declared.Validated.{Validated}
use Rattle.ray_tracing.specs.Submission.{Lent, Piece, answer_numbers, submission, decode, use_tlas, malformed, blas_count, tlas_count, blas, tlas, dependencies_of, Buffers, lent_with, answer_of, counter_of, Submits, Shown, shown, numbers_of, Validates}
use Rattle.ray_tracing.specs.History.{among, Built, next, blas_number, latest, since, cell, blas_by, tlas_by, Told, log, going, tell_actions, history}

-- ---- routines

-- a routine by its contract: lent the counter n, the buffers x and the piece p, it shows its caller s
abbrev pub Routine : Type 1
Routine = ℕ → Buffers → Piece → Shown → Type 0

-- `submit`: its answer has the counter in it
pub record SubmitShows (n : ℕ) (x : Buffers) (p : Piece) (s : Shown) : Type 0 where
  pub answer : Result ℕ SubmissionRefusal
  pub called : Submits n x p answer s.left
  pub numbers : s.numbers ≡ answer_numbers (answer_of answer)
  pub counter : s.counter ≡ counter_of answer

-- `validate_acceleration_structure_actions`, and `zakvind_submit`, which has the same contract: the counter is stepped in the indices
pub record ValidateShows (n : ℕ) (x : Buffers) (p : Piece) (s : Shown) : Type 0 where
  pub indices : CommandIndices
  pub stepped : CommandIndices
  pub answer : Validated
  pub called : Validates indices x p answer stepped s.left
  pub lent : n ≡ indices.next_acceleration_structure_build_command_index
  pub numbers : s.numbers ≡ numbers_of answer
  pub counter : s.counter ≡ stepped.next_acceleration_structure_build_command_index

-- ---- calls

-- "refused ones included, each on what the one before left"
pub data Calls (R : Routine) : ℕ → Buffers → List Piece → ℕ → Buffers → Type 0 where
  no_call : {n : ℕ} {x : Buffers} → Calls R n x [] n x
  call : {n m : ℕ} {x y : Buffers} {p : Piece} {ps : List Piece} {s : Shown} → R n x p s → Calls R s.counter s.left ps m y
      → Calls R n x (p ∷ ps) m y

-- "the first refusal with its figures (actions counted through)", after k actions; number 0 is none
abbrev pub counted_through : ℕ → Shown → Shown
counted_through k s =
    record {
      numbers =
          record {
            number = s.numbers.number;
            action = cond (eqb s.numbers.number 0) 0 (k + s.numbers.action);
            first = s.numbers.first;
            second = s.numbers.second;
          };
      counter = s.counter;
      left = s.left;
    }

-- "each sent only after the one before was accepted and on the tables, plant lists and counter it left": what its caller has seen at the end
pub data Sent (R : Routine) : ℕ → Buffers → List Piece → Shown → Type 0 where
  all_sent : {n : ℕ} {x : Buffers} → Sent R n x [] (record {
    numbers = record { number = 0; action = 0; first = 0; second = 0 };
    counter = n;
    left = x;
  })
  send_refused : {n : ℕ} {x : Buffers} {p : Piece} {ps : List Piece} {s : Shown} → R n x p s → ¬ (s.numbers.number ≡ 0)
      → Sent R n x (p ∷ ps) s
  send : {n : ℕ} {x : Buffers} {p : Piece} {ps : List Piece} {s r : Shown} → R n x p s → s.numbers.number ≡ 0
      → Sent R s.counter s.left ps r → Sent R n x (p ∷ ps) (counted_through (length (decode p)) r)

-- a cut of a list of actions: each piece has some of them, with lists of its own or those of the whole
abbrev pub Cut : Piece → List Piece → Type 0
Cut whole pieces = flatten (map decode pieces) ≡ decode whole

-- ---- a use

-- action i is reached: none before it is refused. It passes if action i + 1 would be reached
abbrev pub reached : ℕ → Shown → Bool
reached i s = eqb s.numbers.number 0 || leb i s.numbers.action

abbrev pub Each : {A : Type 0} → (A → Type 0) → List A → Type 0
Each P [] = Unit {0}
Each P (x ∷ xs) = P x × Each P xs

-- by the history h of the start l, a Blas b that t lists "has one not above it and isn't destroyed"
pub record UsableBlas (l : Lent) (h : List Built) (t b : ℕ) : Type 0 where
  pub numbered : ¬ (blas_number l h b ≡ 0)
  pub not_above : blas_number l h b ≤ (latest l h t).number
  pub not_destroyed : ¬ ((blas l b).destroyed ≡ 1)

-- "by document 01's history, the Tlas has a number and each plant of its latest Build (or starting list) has one not above it and isn't
-- destroyed"
pub record Usable (l : Lent) (h : List Built) (t : ℕ) : Type 0 where
  pub numbered : ¬ ((latest l h t).number ≡ 0)
  pub dependencies : Each (UsableBlas l h t) (latest l h t).dependencies

-- "every starting number is below the starting counter"; 0 is none
pub record NumbersBelow (l : Lent) : Type 0 where
  pub blases : (b : ℕ) → b < blas_count l → ¬ ((blas l b).built_index ≡ 0) → (blas l b).built_index < l.counter
  pub tlases : (t : ℕ) → t < tlas_count l → ¬ ((tlas l t).built_index ≡ 0) → (tlas l t).built_index < l.counter

-- action i of a call that showed s uses t; x is what the history tells of the actions before it
pub record Use (l : Lent) (x : Told) (t i : ℕ) (s : Shown) : Type 0 where
  -- the history knows whether the use is reached
  pub told : reached i s ≡ going x
  -- "once reached, passes exactly when"
  pub rule : reached i s ≡ true → (reached (suc i) s ≡ true ↔ Usable l (log x) t)
  -- "a passing use draws no listed plant built by a Build after its house's own"
  pub fresh : NumbersBelow l → reached (suc i) s ≡ true
      → Each (λ b. Each (λ e. among b e.blases ≡ false) (since (log x) t)) (latest l (log x) t).dependencies

-- ---- the tables

-- what is left, r, is what the history h of the start l tells: every record, every list and every cell
pub record ByHistory (l : Lent) (h : List Built) (r : Lent) : Type 0 where
  pub counter : r.counter ≡ next l h
  -- each record has its number by the history, and a built Blas is Idle; its other fields are as at the start
  pub blases : (b : ℕ) → blas r b ≡ blas_by l h b
  pub tlases : (t : ℕ) → tlas r t ≡ tlas_by l h t
  -- each list is the history's
  pub lists : (t : ℕ) → dependencies_of r t ≡ (latest l h t).dependencies
  pub counts : (t : ℕ) → t < tlas_count l → get_or r.dependency_counts t 0 ≡ length (latest l h t).dependencies
  -- a cell past a list is of the last list that reached it; past the table all is as at the start, and so are the lengths
  pub cells : (t i : ℕ) → t < tlas_count l → i < 512 → get_or r.dependencies (t * 512 + i) 0 ≡ cell l h t i
  pub past_counts : (i : ℕ) → tlas_count l ≤ i → get_or r.dependency_counts i 0 ≡ get_or l.dependency_counts i 0
  pub past_cells : (i : ℕ) → tlas_count l * 512 ≤ i → get_or r.dependencies i 0 ≡ get_or l.dependencies i 0
  pub blas_bytes : length r.blases ≡ length l.blases
  pub tlas_bytes : length r.tlases ≡ length l.tlases
  pub count_cells : length r.dependency_counts ≡ length l.dependency_counts
  pub list_cells : length r.dependencies ≡ length l.dependencies

-- what the types give: the counter is a u64
abbrev pub Fits : Lent → Type 0
Fits l = l.counter < 2 ^ 64

-- ---- the demand

-- of a routine, from any counter n and buffers x that are not refused as a start
pub record Demand-3 (R : Routine) (n : ℕ) (x : Buffers) : Type 0 where
  -- "every cut of it into library submissions": the first refusal with its figures, the counter, each record and each list are "those
  -- that document 01's Submission gives for the uncut list"
  pub cuts : (whole : Piece) (pieces : List Piece) → Cut whole pieces → (s : Shown) → Sent R n x pieces s
      → s ≡ shown (submission (lent_with n x) (decode whole))
  -- "in every list of submissions from such a start, refused ones included, each on what the one before left, a UseTlas of a Tlas in the
  -- table": p is one of them, `done` are those before it
  pub uses : (done : List Piece) (n₁ : ℕ) (x₁ : Buffers) → Calls R n x done n₁ x₁ → (p : Piece) (s : Shown) → R n₁ x₁ p s
      → (i t : ℕ) → get_or (decode p) i malformed ≡ use_tlas t → t < tlas_count (lent_with n x)
      → Use (lent_with n x) (tell_actions (lent_with n x) (history (lent_with n x) [] (map decode done)) (take i (decode p))) t i s
  -- after every such list the tables are the history's
  pub tables : (done : List Piece) (n₁ : ℕ) (x₁ : Buffers) → Calls R n x done n₁ x₁
      → ByHistory (lent_with n x) (history (lent_with n x) [] (map decode done)) (lent_with n₁ x₁)
