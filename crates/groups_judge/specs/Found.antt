-- Internal: what the code's judging says: what it finds, where what it found fine ends, and where groups begin. Assumes nothing.
use Rattle.std.specs.Prelude.{ℕ, ◌<◌, ◌≡◌, List, get_or, Result, Ok, Err}
use Rattle.ray_tracing.specs.declared.GroupsError.{GroupsError}
use Rattle.ray_tracing.specs.declared.GroupsError.TheVariants as groups-error
use Rattle.ray_tracing.specs.Causes.{sheet_number}
use Rattle.ray_tracing.specs.Groups.{Finding, fine, at_byte, at_item, group_count, group_at, judge_groups}

abbrev pub finding_of : Result ℕ GroupsError → Finding
finding_of (Ok e) = fine
finding_of (Err (groups-error.Malformed r)) = at_byte (sheet_number r.error) r.place
finding_of (Err (groups-error.InvalidGroup g i)) = at_item 45 g i

-- where it ends, or d where it is refused
abbrev pub ended_at : Result ℕ GroupsError → ℕ → ℕ
ended_at (Ok e) d = e
ended_at (Err r) d = d

-- if nothing is refused the table has the place of each group
abbrev pub Began : List ℕ → List ℕ → Type 0
Began s starts = judge_groups s ≡ fine → (g : ℕ) → g < group_count s → get_or starts g 0 ≡ group_at s g
