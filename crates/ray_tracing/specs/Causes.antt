-- "Causes and what they cost": the number of each cause, and what is returned with it, for each answer of the code. Assumes nothing.
use Rattle.std.specs.Prelude.{ℕ, Bool, true, false, Result, Ok, Err}
use Rattle.ray_tracing.specs.declared.SheetError.{SheetError}
use Rattle.ray_tracing.specs.declared.SheetError.TheVariants as sheet
use Rattle.ray_tracing.specs.declared.SheetRefusal.{SheetRefusal}
use Rattle.ray_tracing.specs.declared.Sheet.{Sheet}
use Rattle.ray_tracing.specs.declared.Resource.{Resource}
use Rattle.ray_tracing.specs.declared.Resource.TheVariants as resource
use Rattle.ray_tracing.specs.declared.RunningTotal.{RunningTotal}
use Rattle.ray_tracing.specs.declared.RunningTotal.TheVariants as running-total
use Rattle.ray_tracing.specs.declared.BuildAccelerationStructureError.{BuildAccelerationStructureError}
use Rattle.ray_tracing.specs.declared.BuildAccelerationStructureError.TheVariants as build
use Rattle.ray_tracing.specs.declared.ValidateAsActionsError.{ValidateAsActionsError}
use Rattle.ray_tracing.specs.declared.ValidateAsActionsError.TheVariants as submission
use Rattle.ray_tracing.specs.declared.ReadInstancesError.{ReadInstancesError}
use Rattle.ray_tracing.specs.declared.ReadInstancesError.TheVariants as instances
use Rattle.ray_tracing.specs.Reading as reading

-- "version not 1" (neither 1 nor 2), "sheet ends early; bytes after it | 1; 2; 3", "count above its limit; value outside its field | 4; 5"
abbrev pub sheet_number : SheetError → ℕ
sheet_number sheet.UnknownVersion = 1
sheet_number sheet.Truncated = 2
sheet_number sheet.TrailingBytes = 3
sheet_number sheet.TooMany = 4
sheet_number sheet.InvalidValue = 5

abbrev pub reading_of : Result Sheet SheetRefusal → reading.Reading
reading_of (Ok s) = reading.accepted s
reading_of (Err r) = reading.rejected (sheet_number r.error) r.place

-- a cause's number and its figures; "A refusal's unused figures are 0"
pub record Cause : Type 0 where
  pub number : ℕ
  pub first : ℕ
  pub second : ℕ
  pub third : ℕ
  -- the figures are a use's, its Tlas before its Blas: so that 42 of a Build and 42 of a use are two causes
  pub of_use : Bool

abbrev pub cause : ℕ → ℕ → ℕ → ℕ → Cause
cause n a b c = record { number = n; first = a; second = b; third = c; of_use = false }

-- "42 gives Blas, Tlas in a Build and Tlas, Blas in a use"
abbrev pub unbuilt_in_use : ℕ → ℕ → Cause
unbuilt_in_use tlas blas = record { number = 42; first = tlas; second = blas; third = 0; of_use = true }

abbrev pub bare : ℕ → Cause
bare n = cause n 0 0 0

-- "sort (1 buffer, 2 Blas, 3 Tlas), id"
abbrev pub sorted : ℕ → Resource → Cause
sorted n (resource.Buffer b) = cause n 1 b.0 0
sorted n (resource.Blas b) = cause n 2 b.0 0
sorted n (resource.Tlas t) = cause n 3 t.0 0

-- "a first figure of 1 for an entry or 2 for a package"
abbrev pub running_total : RunningTotal → ℕ
running_total running-total.Entries = 1
running_total running-total.Packages = 2

-- a build's causes, E apart
abbrev pub build_cause : BuildAccelerationStructureError → Cause
build_cause build.TooMany = bare 4
build_cause build.InvalidValue = bare 5
build_cause build.InvalidResource = bare 6
build_cause build.BlasGeometryKindMismatch = bare 10
build_cause build.IncompatibleBlasBuildSizes = bare 11
build_cause (build.IncompatibleBlasFlags declared given) = cause 12 declared given 0
build_cause (build.IncompatibleBlasVertexCount declared given) = cause 13 declared given 0
build_cause (build.DifferentBlasVertexFormats declared given) = cause 14 declared given 0
build_cause (build.VertexStrideTooSmall needed given) = cause 15 needed given 0
build_cause (build.VertexStrideUnaligned needed given) = cause 16 needed given 0
build_cause build.BlasIndexCountProvidedMismatch = bare 17
build_cause (build.IncompatibleBlasIndexCount declared given) = cause 18 declared given 0
build_cause (build.DifferentBlasIndexFormats declared given) = cause 19 declared given 0
build_cause build.MissingIndexBuffer = bare 20
build_cause (build.DestroyedResource r) = sorted 21 r
build_cause (build.MissingBufferUsage b) = sorted 22 (resource.Buffer b)
build_cause (build.InsufficientBufferSize offset region size) = cause 23 offset region size
build_cause build.MissingAssociatedData = bare 24
build_cause build.MissingIndexFormat = bare 25
build_cause (build.OffsetLimitedTo4GB offset count stride) = cause 26 offset count stride
build_cause (build.InvalidIndexCount count) = cause 27 count 0 0
build_cause build.UseTransformMissing = bare 28
build_cause build.UnalignedTransformBufferOffset = bare 29
build_cause build.TransformMissing = bare 30
build_cause (build.IncompatibleBlasAabbPrimitiveCount declared given) = cause 31 declared given 0
build_cause build.UnalignedAabbPrimitiveOffset = bare 32
build_cause (build.InvalidAabbStride stride) = cause 33 stride 0 0
build_cause build.TlasInvalidCustomIndex = bare 34
build_cause build.TlasDependentMissingVertexReturn = bare 35
build_cause (build.TlasInstanceCountExceeded count most) = cause 36 count most 0
build_cause (build.OutOfMemory t) = cause 37 (running_total t) 0 0
build_cause build.CompactedBlas = bare 38
build_cause build.OutputTooShort = bare 39

-- a submission's causes, the action apart
abbrev pub submission_cause : ValidateAsActionsError → Cause
submission_cause submission.TooMany = bare 4
submission_cause submission.InvalidValue = bare 5
submission_cause submission.InvalidResource = bare 6
submission_cause (submission.DestroyedResource b) = cause 21 b.0 0 0
submission_cause submission.OutputTooShort = bare 39
submission_cause submission.CounterExhausted = bare 40
submission_cause (submission.CompactedBlas b) = cause 41 b.0 0 0
submission_cause (submission.UsedUnbuiltBlas b t) = cause 42 b.0 t.0 0
submission_cause (submission.UsedTlasOfUnbuiltBlas t b) = unbuilt_in_use t.0 b.0
submission_cause (submission.UsedUnbuiltTlas t) = cause 43 t.0 0 0
submission_cause (submission.BlasNewerThenTlas b t) = cause 44 b.0 t.0 0

-- "48 for a length not in 64s, before all; then per record 49 where the u32 that the writer leaves zero holds something else; 50 for an
-- address of no Blas or of several; both with the record; 39 last"
abbrev pub instances_number : ReadInstancesError → ℕ
instances_number instances.UnevenLength = 48
instances_number instances.WordNotZero = 49
instances_number instances.NotOneBlas = 50
instances_number instances.OutputTooShort = 39
