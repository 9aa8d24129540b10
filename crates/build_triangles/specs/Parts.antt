-- What the sizes' answers mean. Assumes nothing.
use Rattle.std.specs.Prelude.{[], Result, Ok, Err}
use Rattle.ray_tracing.specs.declared.BuildAccelerationStructureError.{BuildAccelerationStructureError}
use Rattle.ray_tracing.specs.Causes.{build_cause}
use Rattle.ray_tracing.specs.Checks.{Checked, asks, refused, ranges}

abbrev pub sizes_of : Result Unit BuildAccelerationStructureError → Checked
sizes_of (Ok _) = asks (ranges [] [] [])
sizes_of (Err e) = refused (build_cause e)
