-- "Last: 39", by the counts and the lengths of what is lent; and what writing asks of an answer. Assumes nothing.
use Rattle.std.specs.Prelude.{ℕ, ◌≤◌, Bool, ◌||◌, List, length, ltb}
use Rattle.ray_tracing.specs.declared.Written.{Written}
use Rattle.ray_tracing.specs.Causes.{bare}
use Rattle.ray_tracing.specs.Plan.{Tables, Outputs, refused, on, Building, recorded, nothing-recorded, not_built, unless}
use Rattle.ray_tracing.specs.Parts.{entries_in}
use Rattle.build_ranges.specs.Ranges.{all_ranges, DrawnFit}
use Rattle.build_plan.specs.Planned.{planned, Plannable, PlanRoom}

abbrev pub short_of : Written → Written → Bool
short_of w lent =
    ltb lent.blas_offsets w.blas_offsets
    || (ltb lent.tlas_offsets w.tlas_offsets
    || (ltb lent.staging_ranges w.staging_ranges
    || (ltb lent.instances w.instances
    || (ltb lent.init_ranges w.init_ranges
    || (ltb lent.compactable w.compactable || ltb lent.lists w.lists)))))

-- with room for what is written, recorded
abbrev pub recorded_if : ℕ → Written → Written → Building
recorded_if size w lent = unless (on (short_of w lent) (refused 0 0 (bare 39))) (recorded size w)

-- with room for the cells of the initialisation ranges, nothing recorded
abbrev pub nothing_if : ℕ → ℕ → Building
nothing_if cells lent = unless (on (ltb lent cells) (refused 0 0 (bare 39))) (nothing-recorded cells)

abbrev pub ranges_out : Tables → List ℕ
ranges_out x = all_ranges x.version x.entries x.geometries 0 0 (entries_in x.entries)

-- what an answer may write was judged, and has room
abbrev pub Writes : Building → Tables → Outputs → Type 0
Writes (recorded n w) x o = Plannable x × PlanRoom (planned x) o
Writes (nothing-recorded n) x o = DrawnFit x.version x.entries x.geometries × (length (ranges_out x) ≤ length o.init_ranges)
Writes (not_built e f c) x o = Unit
