-- Each cause of the code is one that its call can give.
use Prim.Native.Nat.{ℕ}
use mathlib.Core.Path.{refl}
use Rattle.ray_tracing.specs.declared.SheetError.{SheetError}
use Rattle.ray_tracing.specs.declared.SheetError.TheVariants as sheet
use Rattle.ray_tracing.specs.declared.Resource.TheVariants as resource
use Rattle.ray_tracing.specs.declared.BuildAccelerationStructureError.{BuildAccelerationStructureError}
use Rattle.ray_tracing.specs.declared.BuildAccelerationStructureError.TheVariants as build
use Rattle.ray_tracing.specs.declared.ValidateAsActionsError.{ValidateAsActionsError}
use Rattle.ray_tracing.specs.declared.ValidateAsActionsError.TheVariants as submission
use Rattle.ray_tracing.specs.Causes.{sheet_number, build_cause, submission_cause}
use Rattle.causes.specs.Figures.{plainly}
use Rattle.ray_tracing.specs.Explain.{nothing, of_sheet, of_build, of_action, explanation, words_of}
use Rattle.report_words.specs.Refused.{refused_by, told_of, Refuses}

pub tells_nothing : Refuses (told_of nothing) nothing
unfolding words_of
tells_nothing = record { numbers = refl; words = refl }

pub sheet-told : (e : SheetError) (place : ℕ) → Refuses (told_of (of_sheet (sheet_number e) place)) (of_sheet (sheet_number e) place)
unfolding words_of
sheet-told sheet.UnknownVersion place = record { numbers = refl; words = refl }
sheet-told sheet.Truncated place = record { numbers = refl; words = refl }
sheet-told sheet.TrailingBytes place = record { numbers = refl; words = refl }
sheet-told sheet.TooMany place = record { numbers = refl; words = refl }
sheet-told sheet.InvalidValue place = record { numbers = refl; words = refl }

pub build-told : (error : BuildAccelerationStructureError) (e g : ℕ) → Refuses (refused_by 2 e g (build_cause error)) (of_build e g (build_cause error))
unfolding words_of
build-told build.TooMany e g = record { numbers = refl; words = refl }
build-told build.InvalidValue e g = record { numbers = refl; words = refl }
build-told build.InvalidResource e g = record { numbers = refl; words = refl }
build-told build.BlasGeometryKindMismatch e g = record { numbers = refl; words = refl }
build-told build.IncompatibleBlasBuildSizes e g = record { numbers = refl; words = refl }
build-told (build.IncompatibleBlasFlags declared given) e g = record { numbers = refl; words = refl }
build-told (build.IncompatibleBlasVertexCount declared given) e g = record { numbers = refl; words = refl }
build-told (build.DifferentBlasVertexFormats declared given) e g = record { numbers = refl; words = refl }
build-told (build.VertexStrideTooSmall needed given) e g = record { numbers = refl; words = refl }
build-told (build.VertexStrideUnaligned needed given) e g = record { numbers = refl; words = refl }
build-told build.BlasIndexCountProvidedMismatch e g = record { numbers = refl; words = refl }
build-told (build.IncompatibleBlasIndexCount declared given) e g = record { numbers = refl; words = refl }
build-told (build.DifferentBlasIndexFormats declared given) e g = record { numbers = refl; words = refl }
build-told build.MissingIndexBuffer e g = record { numbers = refl; words = refl }
build-told (build.DestroyedResource (resource.Buffer b)) e g = record { numbers = refl; words = refl }
build-told (build.DestroyedResource (resource.Blas b)) e g = record { numbers = refl; words = refl }
build-told (build.DestroyedResource (resource.Tlas t)) e g = record { numbers = refl; words = refl }
build-told (build.MissingBufferUsage b) e g = record { numbers = refl; words = refl }
build-told (build.InsufficientBufferSize offset region size) e g = record { numbers = refl; words = refl }
build-told build.MissingAssociatedData e g = record { numbers = refl; words = refl }
build-told build.MissingIndexFormat e g = record { numbers = refl; words = refl }
build-told (build.OffsetLimitedTo4GB offset count stride) e g = record { numbers = refl; words = refl }
build-told (build.InvalidIndexCount count) e g = record { numbers = refl; words = refl }
build-told build.UseTransformMissing e g = record { numbers = refl; words = refl }
build-told build.UnalignedTransformBufferOffset e g = record { numbers = refl; words = refl }
build-told build.TransformMissing e g = record { numbers = refl; words = refl }
build-told (build.IncompatibleBlasAabbPrimitiveCount declared given) e g = record { numbers = refl; words = refl }
build-told build.UnalignedAabbPrimitiveOffset e g = record { numbers = refl; words = refl }
build-told (build.InvalidAabbStride stride) e g = record { numbers = refl; words = refl }
build-told build.TlasInvalidCustomIndex e g = record { numbers = refl; words = refl }
build-told build.TlasDependentMissingVertexReturn e g = record { numbers = refl; words = refl }
build-told (build.TlasInstanceCountExceeded count most) e g = record { numbers = refl; words = refl }
build-told (build.OutOfMemory t) e g = record { numbers = refl; words = refl }
build-told build.CompactedBlas e g = record { numbers = refl; words = refl }
build-told build.OutputTooShort e g = record { numbers = refl; words = refl }

pub action-told :
    (error : ValidateAsActionsError) (i kind : ℕ)
    → Refuses (refused_by 3 i kind (plainly (submission_cause error))) (of_action i kind (submission_cause error))
unfolding words_of explanation
action-told submission.TooMany i kind = record { numbers = refl; words = refl }
action-told submission.InvalidValue i kind = record { numbers = refl; words = refl }
action-told submission.InvalidResource i kind = record { numbers = refl; words = refl }
action-told (submission.DestroyedResource b) i kind = record { numbers = refl; words = refl }
action-told submission.OutputTooShort i kind = record { numbers = refl; words = refl }
action-told submission.CounterExhausted i kind = record { numbers = refl; words = refl }
action-told (submission.CompactedBlas b) i kind = record { numbers = refl; words = refl }
action-told (submission.UsedUnbuiltBlas b t) i kind = record { numbers = refl; words = refl }
action-told (submission.UsedTlasOfUnbuiltBlas t b) i kind = record { numbers = refl; words = refl }
action-told (submission.UsedUnbuiltTlas t) i kind = record { numbers = refl; words = refl }
action-told (submission.BlasNewerThenTlas b t) i kind = record { numbers = refl; words = refl }
