-- Lines from what a build came to, and from the parts of a sheet and of a plan that they look at. Assumes nothing.
use Rattle.std.specs.Prelude.{ℕ, List, [], ◌++◌, take, Option, Some, None, is_some}
use Rattle.ray_tracing.specs.Causes.{bare}
use Rattle.ray_tracing.specs.Plan.{Tables, Outputs, Building, recorded, nothing-recorded, not_built, plan_of, build}
use Rattle.ray_tracing.specs.Submission.{Outcome}
use Rattle.ray_tracing.specs.Report.{build_line, outcome_lines, answer_lines}
use Rattle.ray_tracing.specs.Explain.{Refusal, of_build, outcome_refusal, answer_refusal}
use Rattle.report_plan.specs.Lines.{recorded_lines}
use Rattle.report_submit.specs.Parts.{places, parts_of, submission_outcome}

-- what the actions come to after an accepted build, by its scratch size, if it is recorded, and its lists
abbrev pub outcome_after : Option ℕ → ℕ → Tables → List ℕ → List ℕ → Outcome
outcome_after scratch counter x actions lists = submission_outcome counter (parts_of x) (is_some scratch) actions lists

-- the lines of both, with the outputs that the build left
abbrev pub accepted_lines : Option ℕ → ℕ → Tables → List ℕ → Outputs → List ℕ → List ℕ
accepted_lines scratch counter x actions o lists =
    build_line 0 0 (bare 0)
    ++ (recorded_lines scratch x.entries x.packages o.blas_offsets o.tlas_offsets o.staging_ranges
    ++ outcome_lines (places (is_some scratch) actions) (outcome_after scratch counter x actions lists))

-- and what they refuse
abbrev pub accepted_refusal : Option ℕ → ℕ → Tables → List ℕ → List ℕ → Refusal
accepted_refusal scratch counter x actions lists =
    outcome_refusal actions (places (is_some scratch) actions) (outcome_after scratch counter x actions lists)

-- how many cells of the lent lists a build wrote
abbrev pub lists_of : Building → ℕ
lists_of (recorded size w) = w.lists
lists_of (nothing-recorded n) = 0
lists_of (not_built e f c) = 0

-- `answer_lines` with what the build left of its outputs
abbrev pub answer_lines_of : Building → ℕ → Tables → List ℕ → Outputs → List ℕ
answer_lines_of (recorded size w) counter x actions o = accepted_lines (Some size) counter x actions o (take w.lists o.lists)
answer_lines_of (nothing-recorded n) counter x actions o = accepted_lines None counter x actions o []
answer_lines_of (not_built e f c) counter x actions o = build_line e f c

-- and what they refuse: what the build does, or else the submission
abbrev pub answer_refusal_of : Building → ℕ → Tables → List ℕ → Outputs → Refusal
answer_refusal_of (recorded size w) counter x actions o = accepted_refusal (Some size) counter x actions (take w.lists o.lists)
answer_refusal_of (nothing-recorded n) counter x actions o = accepted_refusal None counter x actions []
answer_refusal_of (not_built e f c) counter x actions o = of_build e f c

-- the lines of tables that are built, and of actions
unfoldable pub table_lines : ℕ → Tables → List ℕ → List ℕ
table_lines counter x actions = answer_lines counter x actions (build x (plan_of x))

-- and what they refuse
unfoldable pub table_refusal : ℕ → Tables → List ℕ → Refusal
table_refusal counter x actions = answer_refusal counter x actions (build x (plan_of x))
