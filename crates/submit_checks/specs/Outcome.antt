-- What a call is lent, and what it comes to, in the definitions' terms. Assumes nothing.
use Rattle.std.specs.Prelude.{ℕ, ◌+◌, ◌%◌, ◌^◌, ◌≡◌, List, [], Result, Ok, Err}
use Rattle.std.proofs.Math.Option.{Option, none, some}
use Rattle.ray_tracing.specs.declared.ValidateAsActionsError.{ValidateAsActionsError}
use Rattle.submit_checks.specs.declared.BuildLists.{BuildLists}
use Rattle.ray_tracing.specs.Causes.{Cause, submission_cause}
use Rattle.ray_tracing.specs.Submission.{
  Lent,
  lent_of,
  Package,
  Action,
  accepted,
  refused,
  Outcome,
  ◌leaving◌,
  build_at,
  build_tlases,
  step,
  Buffers,
  lent_with,
}

-- for what looks at the two tables only, or at the Blases
abbrev pub tables_only : List ℕ → List ℕ → Lent
tables_only b t = lent_of 0 b t [] []

abbrev pub blases_of : List ℕ → Lent
blases_of b = tables_only b []

abbrev pub package_with : ℕ → List ℕ → Package
package_with t ds = record { tlas = t; dependencies = ds }

-- the Build whose lists the code is lent
abbrev pub build_of : BuildLists → Action
build_of l = build_at l.cells.now l.start l.blas_count l.tlas_count

-- the counter after a Build of the number n
abbrev pub stepped : ℕ → ℕ
stepped n = (n + 1) % 2 ^ 64

-- what judging finds
abbrev pub checked_cause : Result Unit ValidateAsActionsError → Option Cause
checked_cause (Ok _) = none
checked_cause (Err e) = some (submission_cause e)

-- what one action comes to, and what it leaves
abbrev pub acted_of : Result Unit ValidateAsActionsError → Lent → Outcome
acted_of (Ok _) l = accepted leaving l
acted_of (Err e) l = refused 0 (submission_cause e) leaving l

-- the Tlases ps of a Build with the number n, over x: it came to r and left y
abbrev pub BuildsTlases : ℕ → Buffers → List Package → Result Unit ValidateAsActionsError → Buffers → Type 0
BuildsTlases n x ps r y = acted_of r (lent_with (stepped n) y) ≡ build_tlases n ps (lent_with (stepped n) x)

-- one action a: lent the counter n and the buffers x, it came to r and left the counter m and the buffers y
abbrev pub Acts : ℕ → Buffers → Action → Result Unit ValidateAsActionsError → ℕ → Buffers → Type 0
Acts n x a r m y = acted_of r (lent_with m y) ≡ step (lent_with n x) a
