-- What the answers of the parts of a check mean. Assumes nothing.
use Rattle.std.specs.Prelude.{[], Option, Result, Ok, Err}
use Rattle.ray_tracing.specs.declared.Range.{Range}
use Rattle.ray_tracing.specs.declared.BuildAccelerationStructureError.{BuildAccelerationStructureError}
use Rattle.ray_tracing.specs.Causes.{build_cause}
use Rattle.ray_tracing.specs.Checks.{Checked, asks, refused, ranges}
use Rattle.ray_tracing.specs.Code.{asked_of, range_of}

-- what follows a buffer's own check
abbrev pub usable_then : Result Unit BuildAccelerationStructureError → Checked → Checked
usable_then (Ok _) rest = rest
usable_then (Err e) rest = refused (build_cause e)

abbrev pub vertices_of : Result Range BuildAccelerationStructureError → Checked
vertices_of (Ok r) = asks (ranges (range_of r) [] [])
vertices_of (Err e) = refused (build_cause e)

-- a part that is the index buffer's, and one that is the transform's

abbrev pub index_part_of : Result (Option Range) BuildAccelerationStructureError → Checked
index_part_of (Ok a) = asks (ranges [] (asked_of a) [])
index_part_of (Err e) = refused (build_cause e)

abbrev pub transform_part_of : Result (Option Range) BuildAccelerationStructureError → Checked
transform_part_of (Ok a) = asks (ranges [] [] (asked_of a))
transform_part_of (Err e) = refused (build_cause e)
