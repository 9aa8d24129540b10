-- An action by its kind: a Build, a use, a mark, or none; and where its operand is too large for an id.
use mathlib.Core.Path.{◌≡◌, refl, sym, ap, ◌∙◌}
use mathlib.Core.Bool.{Bool}
use mathlib.Core.Option.{none, some}
use mathlib.Core.List.{List, [], ◌∷◌}
use Prim.Native.Nat.{ℕ, ◌≤◌, ◌<◌}
use native.Mathlib.Decide.{dec_lt}
use native.Mathlib.Omega.{arith}
use lib.Dec.{ltb, eqb}
use mir.Val.{bool_byte}
use borrow.Author.Tests.{eq-eqb, ne_eqb, lt-ltb, le-ltb, le-leb, ltb-false}
use Rattle.std.specs.Prelude.{Result, Err}
use Rattle.ray_tracing.specs.declared.ValidateAsActionsError.{ValidateAsActionsError}
use Rattle.ray_tracing.specs.Guard.{refuse}
use Rattle.ray_tracing.specs.Causes.{bare}
use Rattle.ray_tracing.specs.Submission.{Lent, use_tlas, mark_blas, mark_tlas, malformed, packages_at, packages_lent, build_at, taken_for, action_of, action, refused, ◌leaving◌, cause_when, ◌or_else◌, blas_count, tlas_count, mentioned, before, step}
use Rattle.ray_tracing.proofs.Firsts.{or_none, on_none, within, outside}
use Rattle.submit_checks.specs.Outcome.{acted_of}
use Rattle.submit_checks.proofs.Steps.{step-refused}
use Rattle.submit_run.specs.Cells.{largest_id, operand_cause, id_cause}

-- by what it is taken for
pub as_taken : (lists : List ℕ) (kind o b t : ℕ) {k : ℕ} → k ≡ taken_for kind → action lists kind o b t ≡ action_of lists k o b t
unfolding action
as_taken lists kind o b t e = ap (λ (k : ℕ). action_of lists k o b t) (sym e)

module _ (lists : List ℕ) (kind o b t : ℕ) where
  pub kind_build : kind ≡ 1 → action_of lists kind o b t ≡ build_at lists o b t
  kind_build e = rw (action_of, eq-eqb _ _ e)

  module _ (n₁ : ¬ (kind ≡ 1)) where
    pub kind-use : kind ≡ 2 → action_of lists kind o b t ≡ use_tlas o
    kind-use e = rw (action_of, ne_eqb _ _ n₁, eq-eqb _ _ e)

    module _ (n₂ : ¬ (kind ≡ 2)) where
      pub kind-mark-blas : kind ≡ 3 → action_of lists kind o b t ≡ mark_blas o
      kind-mark-blas e = rw (action_of, ne_eqb _ _ n₁, ne_eqb _ _ n₂, eq-eqb _ _ e)

      module _ (n₃ : ¬ (kind ≡ 3)) where
        pub kind-mark-tlas : kind ≡ 4 → action_of lists kind o b t ≡ mark_tlas o
        kind-mark-tlas e = rw (action_of, ne_eqb _ _ n₁, ne_eqb _ _ n₂, ne_eqb _ _ n₃, eq-eqb _ _ e)

        kind-none : ¬ (kind ≡ 4) → action_of lists kind o b t ≡ malformed
        kind-none n₄ = rw (action_of, ne_eqb _ _ n₁, ne_eqb _ _ n₂, ne_eqb _ _ n₃, ne_eqb _ _ n₄)

-- ---- its operand

module _ (n o : ℕ) (h : n ≤ 128) (k : largest_id < o) where
  -- an operand that no id is as large as is outside its table
  too_large : outside n o ≡ some (bare 6)
  unfolding refuse
  too_large = ap (λ (t : Bool). mentioned (refuse t 6 0)) (le-leb n o (omega arith))

module _ (l : Lent) (few-blases : blas_count l ≤ 128) (few-tlases : tlas_count l ≤ 32) (lists : List ℕ) (kind o b t : ℕ) (n₁ : ¬ (kind ≡ 1)) where
  is-none : action_of lists kind o b t ≡ malformed → before l (action_of lists kind o b t) ≡ some (bare 5)
  unfolding before
  is-none e = rw e

  of-use : largest_id < o → kind ≡ 2 → before l (action_of lists kind o b t) ≡ some (bare 6)
  unfolding before
  of-use h e = rw (kind-use lists kind o b t n₁ e, too_large (tlas_count l) o (omega (arith, few-tlases)) h)

  of_mark_blas : largest_id < o → ¬ (kind ≡ 2) → kind ≡ 3 → before l (action_of lists kind o b t) ≡ some (bare 6)
  unfolding before
  of_mark_blas h n₂ e = rw (kind-mark-blas lists kind o b t n₁ n₂ e, too_large (blas_count l) o few-blases h)

  of_mark_tlas : largest_id < o → ¬ (kind ≡ 2) → ¬ (kind ≡ 3) → kind ≡ 4 → before l (action_of lists kind o b t) ≡ some (bare 6)
  unfolding before
  of_mark_tlas h n₂ n₃ e =
      rw (kind-mark-tlas lists kind o b t n₁ n₂ n₃ e, too_large (tlas_count l) o (omega (arith, few-tlases)) h)

  of_large : 2 ≤ kind → kind ≤ 4 → largest_id < o → before l (action_of lists kind o b t) ≡ some (bare 6)
  of_large lo hi h =
      elim (dec_lt kind 3) [
        | yes k ↦ of-use h (omega arith)
        | no k ↦ elim (dec_lt kind 4) [
          | yes m ↦ of_mark_blas h (λ e. omega arith) (omega arith)
          | no m ↦ of_mark_tlas h (λ e. omega arith) (λ e. omega arith) (omega arith)
        ]
      ]

  -- what refuses the operand is what is judged first of the action
  pub judged_first : (operand_cause kind o or_else before l (action_of lists kind o b t)) ≡ before l (action_of lists kind o b t)
  judged_first =
      elim (dec_lt kind 2) [
        | yes h ↦ rw (lt-ltb kind 2 h) (sym (is-none (kind-none lists kind o b t n₁ (λ e. omega arith) (λ e. omega arith) (λ e. omega arith))))
        | no h ↦ elim (dec_lt 4 kind) [
          | yes k ↦ rw (le-ltb kind 2 (omega arith), lt-ltb 4 kind k)
              (sym (is-none (kind-none lists kind o b t n₁ (λ e. omega arith) (λ e. omega arith) (λ e. omega arith))))
          | no k ↦ elim (dec_lt largest_id o) [
            | yes m ↦ rw (le-ltb kind 2 (omega arith), le-ltb 4 kind (omega arith), lt-ltb largest_id o m) (sym (of_large (omega arith) (omega arith) m))
            | no m ↦ rw (le-ltb kind 2 (omega arith), le-ltb 4 kind (omega arith), le-ltb largest_id o (omega arith))
          ]
        ]
      ]

  pub operand-refused :
      {x : Result ℕ ValidateAsActionsError} {e : ValidateAsActionsError} → id_cause x ≡ operand_cause kind o → x ≡ Err e
      → acted_of (Err e) l ≡ step l (action_of lists kind o b t)
  operand-refused {x} {e} p q = step-refused l (action_of lists kind o b t) (Err e) (rw (sym p ∙ ap id_cause q) at judged_first) refl

-- where nothing does, it is an id, and the kind is one of three
pub record Id (kind o : ℕ) : Type 0 where
  pub low : 2 ≤ kind
  pub high : kind ≤ 4
  pub small : o ≤ largest_id

pub is_id : (kind o : ℕ) → operand_cause kind o ≡ none → Id kind o
is_id kind o e =
    let x = or_none (cause_when (ltb kind 2) (bare 5)) (cause_when (ltb 4 kind) (bare 5) or_else cause_when (ltb largest_id o) (bare 6)) e in
    let y = or_none (cause_when (ltb 4 kind) (bare 5)) (cause_when (ltb largest_id o) (bare 6)) x.1 in
    record {
      low = ltb-false kind 2 (on_none _ _ x.0);
      high = within 4 kind (bare 5) y.0;
      small = within largest_id o (bare 6) y.1;
    }

-- ---- a mark, as the Build of its own lists

pub mark_build :
    (lists : List ℕ) (kind o b t : ℕ) → Id kind o → ¬ (kind ≡ 1) → ¬ (kind ≡ 2) → {p q : ℕ} → p ≡ bool_byte (eqb kind 3)
    → q ≡ bool_byte (eqb kind 4) → build_at (o ∷ 0 ∷ []) 0 p q ≡ action_of lists kind o b t
unfolding packages_lent packages_at
mark_build lists kind o b t i n₁ n₂ e f =
    elim (dec_lt kind 4) [
      | yes h ↦
          let k : kind ≡ 3 = omega (arith, i.low) in
          rw (kind-mark-blas lists kind o b t n₁ n₂ k, e, f, eq-eqb kind 3 k, ne_eqb kind 4 (λ z. omega arith))
      | no h ↦
          let n₃ : ¬ (kind ≡ 3) = λ k. omega arith in
          let k : kind ≡ 4 = omega (arith, i.high) in
          rw (kind-mark-tlas lists kind o b t n₁ n₂ n₃ k, e, f, ne_eqb kind 3 n₃, eq-eqb kind 4 k)
    ]

pub malformed-step : (l : Lent) → step l malformed ≡ (refused 0 (bare 5) leaving l)
unfolding step before
malformed-step l = refl
