-- Internal: what the values mean that the code hands from function to function. No entry point's contract rests on these. Assumes nothing.
use Rattle.std.specs.Prelude.{ℕ, List, [], ◌∷◌, Some, None, Result, Ok, Err}
use Rattle.std.specs.Prelude as rust
use Rattle.std.proofs.Math.Option.{Option, none, some}
use Rattle.ray_tracing.specs.declared.Buffer.{Buffer}
use Rattle.ray_tracing.specs.declared.BlasGeometrySizeDescriptor.{BlasGeometrySizeDescriptor}
use Rattle.ray_tracing.specs.declared.Range.{Range}
use Rattle.ray_tracing.specs.declared.GeometryRanges.{GeometryRanges}
use Rattle.ray_tracing.specs.declared.BuildAccelerationStructureError.{BuildAccelerationStructureError}
use Rattle.ray_tracing.specs.declared.SheetRefusal.{SheetRefusal}
use Rattle.ray_tracing.specs.declared.OutsideTable.{OutsideTable}
use Rattle.ray_tracing.specs.declared.BuildRefusal.{BuildRefusal}
use Rattle.ray_tracing.specs.Reading as reading
use Rattle.ray_tracing.specs.Causes.{Cause, bare, sheet_number, build_cause}
use Rattle.ray_tracing.specs.Checks.{Checked, asks, refused, ranges}
use Rattle.ray_tracing.specs.Plan as plan

-- what judging a field, a record or a table finds, with its place
abbrev pub judged_of : Result Unit SheetRefusal → reading.Judged
judged_of (Ok _) = reading.fine
judged_of (Err r) = reading.refused (sheet_number r.error) r.place

-- the number of what the code finds at a mention
abbrev pub mention_of : Result Unit OutsideTable → ℕ
mention_of (Ok _) = 0
mention_of (Err _) = 6

-- what checking a geometry is given, and what it finds

abbrev pub declared_given : rust.Option BlasGeometrySizeDescriptor → Option BlasGeometrySizeDescriptor
declared_given None = none
declared_given (Some d) = some d

abbrev pub buffer_given : rust.Option Buffer → Option Buffer
buffer_given None = none
buffer_given (Some b) = some b

abbrev pub range_of : Range → List ℕ
range_of r = r.buffer.0 ∷ r.start ∷ r.end ∷ []

abbrev pub asked_of : rust.Option Range → List ℕ
asked_of None = []
asked_of (Some r) = range_of r

abbrev pub checked_of : Result GeometryRanges BuildAccelerationStructureError → Checked
checked_of (Ok r) = asks (ranges (range_of r.primitives) (asked_of r.index) (asked_of r.transform))
checked_of (Err e) = refused (build_cause e)

-- the cause of what judging an instance finds
abbrev pub instance_cause : Result Unit BuildAccelerationStructureError → Cause
instance_cause (Ok _) = bare 0
instance_cause (Err e) = build_cause e

-- what judging a build finds
abbrev pub verdict_of : Result Unit BuildRefusal → plan.Verdict
verdict_of (Ok _) = plan.passed
verdict_of (Err r) = plan.refused r.e0 r.e1 (build_cause r.error)
