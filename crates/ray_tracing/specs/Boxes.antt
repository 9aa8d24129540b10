-- "Boxes: 10, 11, 12, 31, 32, 33, 21, 22, 26 (stride or count times stride above 2^32 - 1), 23." Over whole numbers. Assumes nothing.
use Rattle.std.specs.Prelude.{◌+◌, ◌*◌, ◌%◌, ◌||◌, [], ltb}
use Rattle.std.proofs.Math.Option.{Option}
use Rattle.scratch.specs.Scratch.{stopped}
use Rattle.ray_tracing.specs.declared.Blas.{Blas}
use Rattle.ray_tracing.specs.declared.Buffer.{Buffer}
use Rattle.ray_tracing.specs.declared.BlasGeometry.{BlasGeometry}
use Rattle.ray_tracing.specs.declared.BlasGeometrySizeDescriptor.{BlasGeometrySizeDescriptor}
use Rattle.ray_tracing.specs.Causes.{cause, bare}
use Rattle.ray_tracing.specs.Guard.{refuse, neb}
use Rattle.ray_tracing.specs.Checks.{Checked, asks, refused, range, ranges, limit32, usable_buffer}
use Rattle.ray_tracing.specs.Triangles.{declared_rule}

-- "21, 22, 26 (stride or count times stride above 2^32 - 1), 23"
abbrev pub region_rule : BlasGeometry → Buffer → Checked
region_rule g b =
    usable_buffer g.buffer.0 b
    (refuse
    (ltb limit32 g.stride || ltb limit32 (g.count * g.stride))
    (refused (cause 26 (stopped (g.count * g.stride)) g.count g.stride))
    (refuse
    (ltb b.size (g.first + g.count * g.stride))
    (refused (cause 23 g.first (g.count * g.stride) b.size))
    (asks (ranges (range g.buffer.0 g.first (g.count * g.stride)) [] []))))

-- 12 flags differ, 31 box count above declared, 32 box offset not in eights, 33 box stride below 24 or not in eights, then the buffer
abbrev pub given_rule : BlasGeometrySizeDescriptor → BlasGeometry → Buffer → Checked
given_rule d g b =
    refuse (neb d.flags g.flags) (refused (cause 12 d.flags g.flags 0))
    (refuse (ltb d.count g.count) (refused (cause 31 d.count g.count 0))
    (refuse (neb (g.first % 8) 0) (refused (bare 32))
    (refuse (ltb g.stride 24 || neb (g.stride % 8) 0) (refused (cause 33 g.stride 0 0))
    (region_rule g b))))

-- 10 kind mismatch, 11 more geometries than declared
abbrev pub boxes_rule : Blas → Option BlasGeometrySizeDescriptor → BlasGeometry → Buffer → Checked
boxes_rule blas declared g b = refuse (neb blas.kind 1) (refused (bare 10)) (declared_rule declared (λ d. given_rule d g b))
