-- Each cause has a number: 0 is left for what is accepted.
use Prim.Native.Nat.{◌<◌}
use lib.Dec.{lit<}
use Rattle.ray_tracing.specs.declared.Resource.TheVariants as resource
use Rattle.ray_tracing.specs.declared.BuildAccelerationStructureError.{BuildAccelerationStructureError}
use Rattle.ray_tracing.specs.declared.BuildAccelerationStructureError.TheVariants as build
use Rattle.ray_tracing.specs.Causes.{build_cause}

pub positive : (e : BuildAccelerationStructureError) → 0 < (build_cause e).number
positive build.TooMany = lit< tt
positive build.InvalidValue = lit< tt
positive build.InvalidResource = lit< tt
positive build.BlasGeometryKindMismatch = lit< tt
positive build.IncompatibleBlasBuildSizes = lit< tt
positive (build.IncompatibleBlasFlags a b) = lit< tt
positive (build.IncompatibleBlasVertexCount a b) = lit< tt
positive (build.DifferentBlasVertexFormats a b) = lit< tt
positive (build.VertexStrideTooSmall a b) = lit< tt
positive (build.VertexStrideUnaligned a b) = lit< tt
positive build.BlasIndexCountProvidedMismatch = lit< tt
positive (build.IncompatibleBlasIndexCount a b) = lit< tt
positive (build.DifferentBlasIndexFormats a b) = lit< tt
positive build.MissingIndexBuffer = lit< tt
positive (build.DestroyedResource (resource.Buffer i)) = lit< tt
positive (build.DestroyedResource (resource.Blas i)) = lit< tt
positive (build.DestroyedResource (resource.Tlas i)) = lit< tt
positive (build.MissingBufferUsage a) = lit< tt
positive (build.InsufficientBufferSize a b c) = lit< tt
positive build.MissingAssociatedData = lit< tt
positive build.MissingIndexFormat = lit< tt
positive (build.OffsetLimitedTo4GB a b c) = lit< tt
positive (build.InvalidIndexCount a) = lit< tt
positive build.UseTransformMissing = lit< tt
positive build.UnalignedTransformBufferOffset = lit< tt
positive build.TransformMissing = lit< tt
positive (build.IncompatibleBlasAabbPrimitiveCount a b) = lit< tt
positive build.UnalignedAabbPrimitiveOffset = lit< tt
positive (build.InvalidAabbStride a) = lit< tt
positive build.TlasInvalidCustomIndex = lit< tt
positive build.TlasDependentMissingVertexReturn = lit< tt
positive (build.TlasInstanceCountExceeded a b) = lit< tt
positive (build.OutOfMemory a) = lit< tt
positive build.CompactedBlas = lit< tt
positive build.OutputTooShort = lit< tt
