-- One more action or position, as a loop counts; and what is told of a submission.
use Prim.Native.Nat.{ℕ, zero, suc, ◌+◌, ◌-◌, ◌*◌, ◌/◌, ◌≤◌, ◌<◌}
use native.Mathlib.Nat.{not-suc-le-zero, le_of_suc-le-suc}
use native.Mathlib.Omega.{arith}
use native.Mathlib.Numerals.{add-one, sub-one}
use mathlib.Core.Bool.{Bool, true, false, not, cond}
use mathlib.Core.Path.{◌≡◌, refl, sym, ap, ◌∙◌}
use mathlib.Core.List.{List, [], ◌∷◌, ◌++◌}
use lib.Dec.{eqb}
use lib.ListN.{length, get_or, set, take, replicate, length-append}
use lib.Seq.{sets}
use borrow.Author.Tests.{eq-eqb, ne_eqb}
use Rattle.ray_tracing.specs.Layout.{layout, size}
use Rattle.ray_tracing.specs.Records.{field_at}
use Rattle.ray_tracing.specs.Plan.{Tables, records_in}
use Rattle.ray_tracing.specs.Report.{submit_numbers, outcome_lines, kept, action_cells, positions}
use Rattle.ray_tracing.specs.Explain.{outcome_refusal}
use Rattle.ray_tracing.specs.Parts.{listing}
use Rattle.std.specs.Prelude.{Result}
use Rattle.ray_tracing.specs.declared.SubmissionRefusal.{SubmissionRefusal}
use Rattle.ray_tracing.specs.Submission.{
  Answer,
  accepted,
  refused,
  Outcome,
  ◌leaving◌,
  most_dependencies,
  decode,
  submission,
  outcome_of,
  counter_of,
  answer_of,
  lent_of,
  piece_of,
}
use Rattle.ray_tracing.proofs.Plan.{left_more, left-none as no-more}
use Rattle.report_text.specs.Put.{Put}
use Rattle.report_text.proofs.Laws.{put_nothing, put_same_length, line-most, left-all, left_less, left-none}
use Rattle.report_words.specs.declared.Refusal.{Refusal}
use Rattle.report_words.specs.Refused.{told_of, Refuses}
use Rattle.report_submit.specs.Parts.{actions_in, kind_of, kept_cells, all_cells, lent_parts, submission_outcome}

cells_four : (x : Tables) (b d : Bool) (kind operand : ℕ) → length (cond b (cond d (1 ∷ 0 ∷ records_in x 5 ∷ records_in x 7 ∷ []) (kind ∷ operand ∷ 0 ∷ 0 ∷ [])) []) ≤ 4
cells_four x true true kind operand = omega arith
cells_four x true false kind operand = omega arith
cells_four x false d kind operand = omega arith

module _ (x : Tables) (recorded : Bool) (a : List ℕ) (i n : ℕ) where
  pub kept-most : length (kept_cells x recorded a i) ≤ 4
  kept-most = cells_four x (kept recorded (kind_of a i)) (eqb (kind_of a i) 1) (kind_of a i) (field_at 9 a (i * size 9) 1)

  pub cells_more : i < n → action_cells x recorded a i (n - i) ≡ kept_cells x recorded a i ++ action_cells x recorded a (i + 1) (n - (i + 1))
  unfolding action_cells
  cells_more h = rw (left_more i n h)

  pub cells-none : n ≤ i → action_cells x recorded a i (n - i) ≡ []
  unfolding action_cells
  cells-none h = rw (no-more i n h)

-- ---- positions

position_rest : (l : List ℕ) (i k : ℕ) → (k ≡ 0 → ⊥) → get_or (i ∷ l) k 0 ≡ get_or l (k - 1) 0
position_rest l i zero h = absurd (h refl)
position_rest l i (suc k) h = rw sub-one

module _ (recorded : Bool) (a : List ℕ) (i n left whole : ℕ) (inv : get_or (positions recorded a i (n - i)) left 0 ≡ whole) where
  pub position_none : n ≤ i → 0 ≡ whole
  unfolding positions
  position_none h = rw (no-more i n h) at inv

  module _ (h : i < n) {k : ℕ} {b : Bool} (e : k ≡ kind_of a i) (f : b ≡ kept recorded k) where
    pub position-passed : b ≡ false → get_or (positions recorded a (i + 1) (n - (i + 1))) left 0 ≡ whole
    unfolding positions
    position-passed g = rw (left_more i n h, ← e, ← f, g) at inv

    kept-is : b ≡ true → get_or (i ∷ positions recorded a (i + 1) (n - (i + 1))) left 0 ≡ whole
    unfolding positions
    kept-is g = rw (left_more i n h, ← e, ← f, g) at inv

    pub position_here : b ≡ true → left ≡ 0 → i ≡ whole
    position_here g z = rw z at (kept-is g)

    pub position_later : b ≡ true → (left ≡ 0 → ⊥) → get_or (positions recorded a (i + 1) (n - (i + 1))) (left - 1) 0 ≡ whole
    position_later g z = sym (position_rest (positions recorded a (i + 1) (n - (i + 1))) i left z) ∙ kept-is g

-- ---- what is lent

-- the cells of actions go by the entries and the packages alone
pub cells_are :
    (x : Tables) (r : Bool) (a : List ℕ) (i n : ℕ)
    → action_cells (listing x.entries x.packages) r a i n ≡ action_cells x r a i n
unfolding action_cells
cells_are x r a i zero = refl
cells_are x r a i (suc n) = rw (cells_are x r a (i + 1) n)

cells-most : (x : Tables) (recorded : Bool) (a : List ℕ) (i n : ℕ) → length (action_cells x recorded a i n) ≤ n * 4
unfolding action_cells
cells-most x recorded a i zero = omega arith
cells-most x recorded a i (suc n) =
    simp length-append (omega (arith, kept-most x recorded a i 0, cells-most x recorded a (i + 1) n))

pub cells_fit :
    (x : Tables) (recorded : Bool) (a : List ℕ) → actions_in a ≤ (layout 9).most → length (all_cells x recorded a) ≤ 256
cells_fit x recorded a h = omega (arith, cells-most x recorded a 0 (actions_in a))

pub zeros : (n m : ℕ) → n ≤ m → take {A = ℕ} n (replicate m 0) ≡ replicate n 0
zeros zero m h = refl
zeros (suc n) zero h = absurd (not-suc-le-zero h)
zeros (suc n) (suc m) h = ap (λ (l : List ℕ). 0 ∷ l) (zeros n m (le_of_suc-le-suc h))

-- ---- what is told of a submission

-- what it leaves is not told, but for the counter
module _ (s : Result ℕ SubmissionRefusal) (actions positions : List ℕ) {b t c d : List ℕ} {x : Outcome} (e : outcome_of s b t c d ≡ x) where
  pub lines-told : outcome_lines positions (outcome_of s [] [] [] []) ≡ outcome_lines positions x
  lines-told = ap (outcome_lines positions) e

  pub refusal_told : outcome_refusal actions positions (outcome_of s [] [] [] []) ≡ outcome_refusal actions positions x
  refusal_told = go (answer_of s) ∙ ap (outcome_refusal actions positions) e
    where
      go :
          (v : Answer)
          → outcome_refusal actions positions (v leaving lent_of (counter_of s) [] [] [] [])
          ≡ outcome_refusal actions positions (v leaving lent_of (counter_of s) b t c d)
      go accepted = refl
      go (refused i cause) = refl

-- the submission s of copies b and t, empty lists c and d, and cells l
pub outcome_is :
    (counter : ℕ) (blases tlases entries packages : List ℕ) (recorded : Bool) (actions lists : List ℕ)
    {o : Outcome} {b t c d l : List ℕ}
    → o ≡ submission (lent_of counter b t c d) (decode (piece_of l lists))
    → b ≡ blases
    → t ≡ tlases
    → c ≡ replicate (length tlases / size 4) 0
    → d ≡ replicate (length tlases / size 4 * most_dependencies) 0
    → l ≡ all_cells (listing entries packages) recorded actions
    → o ≡ submission_outcome counter (lent_parts blases tlases entries packages) recorded actions lists
unfolding submission_outcome
outcome_is counter blases tlases entries packages recorded actions lists o e f g h k =
    rw (e, f, g, h, k, cells_are (lent_parts blases tlases entries packages) recorded actions 0 (actions_in actions)) at o

pub ruleset places_walk = (position_none, position-passed, position_later)

pub ruleset cells_walk = (cells_more, cells-none, kept-most, left-all, left_less, left-none, put_same_length)

pub ruleset lines = (put_same_length, line-most)
