-- The cells of an action; and of one that is no Build, what is judged before its operand is an id. Assumes nothing.
use Rattle.std.specs.Prelude.{ℕ, ◌+◌, List, get_or, ltb, Result, Ok, Err}
use Rattle.std.proofs.Math.Option.{Option, none, some}
use Rattle.ray_tracing.specs.declared.ValidateAsActionsError.{ValidateAsActionsError}
use Rattle.ray_tracing.specs.Causes.{Cause, bare, submission_cause}
use Rattle.submit_run.specs.declared.Cells.{Cells}
use Rattle.ray_tracing.specs.Submission.{cause_when, ◌or_else◌}

abbrev pub cells_at : List ℕ → ℕ → Cells
cells_at s at =
    record {
      kind = get_or s at 0;
      operand = get_or s (at + 1) 0;
      blas_count = get_or s (at + 2) 0;
      tlas_count = get_or s (at + 3) 0;
    }

abbrev pub largest_id : ℕ
largest_id = 65535

-- 5 of a kind that is none, then 6
abbrev pub operand_cause : ℕ → ℕ → Option Cause
operand_cause kind operand =
    cause_when (ltb kind 2) (bare 5) or_else cause_when (ltb 4 kind) (bare 5) or_else cause_when (ltb largest_id operand) (bare 6)

-- what judging an operand finds, which answers the id
abbrev pub id_cause : Result ℕ ValidateAsActionsError → Option Cause
id_cause (Ok _) = none
id_cause (Err e) = some (submission_cause e)
