-- A sheet's actions, from the parts of the sheet that they look at. Assumes nothing.
use Rattle.std.specs.Prelude.{ℕ, ◌*◌, ◌/◌, ◌≤◌, Bool, cond, List, [], length}
use Rattle.ray_tracing.specs.declared.Version.TheVariants as version
use Rattle.ray_tracing.specs.Layout.{layout, size}
use Rattle.ray_tracing.specs.Records.{field_at}
use Rattle.ray_tracing.specs.Plan.{Tables, tables_of}
use Rattle.ray_tracing.specs.Submission.{Outcome, decode, submission, piece_of}
use Rattle.ray_tracing.specs.Report.{sheet_start, kept, cells_of, action_cells, positions}
use Rattle.ray_tracing.specs.Parts.{entries_in, packages_in}

-- how many there are
abbrev pub actions_in : List ℕ → ℕ
actions_in actions = length actions / size 9

-- the kind of action i
abbrev pub kind_of : List ℕ → ℕ → ℕ
kind_of actions i = field_at 9 actions (i * size 9) 0

-- what action i adds to the cells, and what all do
abbrev pub kept_cells : Tables → Bool → List ℕ → ℕ → List ℕ
kept_cells x recorded actions i =
    cond (kept recorded (kind_of actions i)) (cells_of x (kind_of actions i) (field_at 9 actions (i * size 9) 1)) []

abbrev pub all_cells : Tables → Bool → List ℕ → List ℕ
all_cells x recorded actions = action_cells x recorded actions 0 (actions_in actions)

-- the positions of those that are kept
abbrev pub places : Bool → List ℕ → List ℕ
places recorded actions = positions recorded actions 0 (actions_in actions)

-- the tables that a submission looks at
abbrev pub lent_parts : List ℕ → List ℕ → List ℕ → List ℕ → Tables
lent_parts blases tlases entries packages = tables_of version.One 0 [] blases [] tlases entries [] packages []

-- `sheet_outcome` with the recorded Build's lists as they were lent
unfoldable pub submission_outcome : ℕ → Tables → Bool → List ℕ → List ℕ → Outcome
submission_outcome counter x recorded actions lists =
    submission (sheet_start counter x) (decode (piece_of (all_cells x recorded actions) lists))

-- no more of each than a sheet may have
pub record Lendable (blases tlases entries packages actions : List ℕ) : Type 0 where
  pub blas-bytes : length blases ≤ (layout 2).most * size 2
  pub tlas-bytes : length tlases ≤ (layout 4).most * size 4
  pub few-entries : entries_in entries ≤ (layout 5).most
  pub few-packages : packages_in packages ≤ (layout 7).most
  pub few-actions : actions_in actions ≤ (layout 9).most

-- of a build's tables, those
abbrev pub parts_of : Tables → Tables
parts_of x = lent_parts x.blases x.tlases x.entries x.packages

abbrev pub LendableTables : Tables → List ℕ → Type 0
LendableTables x actions = Lendable x.blases x.tlases x.entries x.packages actions
