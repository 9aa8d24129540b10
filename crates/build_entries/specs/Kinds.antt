-- The rule of a geometry by its entry's kind, over the buffers that its ids name. Assumes nothing.
use Rattle.std.specs.Prelude.{ℕ, cond, List, eqb}
use Rattle.std.proofs.Math.Option.{Option}
use Rattle.ray_tracing.specs.declared.Blas.{Blas}
use Rattle.ray_tracing.specs.declared.BlasGeometrySizeDescriptor.{BlasGeometrySizeDescriptor}
use Rattle.ray_tracing.specs.declared.BlasGeometry.{BlasGeometry}
use Rattle.ray_tracing.specs.Mentions.{buffer_of}
use Rattle.ray_tracing.specs.Checks.{Checked}
use Rattle.ray_tracing.specs.Triangles.{unless_none, triangles_rule}
use Rattle.ray_tracing.specs.Boxes.{boxes_rule}

abbrev pub by_kind : List ℕ → ℕ → Blas → Option BlasGeometrySizeDescriptor → BlasGeometry → Checked
by_kind buffers kind blas declared g =
    cond (eqb kind 0)
    (triangles_rule
    blas
    declared
    g
    (buffer_of buffers g.buffer.0)
    (unless_none (buffer_of buffers) g.index_buffer.0)
    (unless_none (buffer_of buffers) g.transform_buffer.0))
    (boxes_rule blas declared g (buffer_of buffers g.buffer.0))
