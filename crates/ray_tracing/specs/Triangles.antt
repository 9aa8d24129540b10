-- "Triangles: 10 to 20 in order; data buffer 21, 22, 23. With an index buffer: 24, 21, 22, 25, 26, 26, 27, 23. With a transform buffer:
-- 28, 24, 21, 22, 26, 29, 23; without: 30." Over whole numbers. Assumes nothing.
use Rattle.std.specs.Prelude.{ℕ, ◌+◌, ◌*◌, ◌%◌, Bool, true, false, not, ◌&&◌, cond, [], ltb, eqb}
use Rattle.std.proofs.Math.Option.{Option, none, some}
use Rattle.scratch.specs.Scratch.{stopped}
use Rattle.ray_tracing.specs.declared.Blas.{Blas}
use Rattle.ray_tracing.specs.declared.Buffer.{Buffer}
use Rattle.ray_tracing.specs.declared.BlasGeometry.{BlasGeometry}
use Rattle.ray_tracing.specs.declared.BlasGeometrySizeDescriptor.{BlasGeometrySizeDescriptor}
use Rattle.ray_tracing.specs.Causes.{cause, bare}
use Rattle.ray_tracing.specs.Guard.{refuse, neb}
use Rattle.ray_tracing.specs.Checks.{Checked, asks, refused, ◌then◌, range, ranges, limit32, usable_buffer}

-- 12 flags differ; 13 vertex count above declared, 14 format differs; 15 stride below least, 16 not a multiple
abbrev pub descriptor_rule : BlasGeometrySizeDescriptor → BlasGeometry → Checked
descriptor_rule d g =
    refuse (neb d.flags g.flags) (refused (cause 12 d.flags g.flags 0))
    (refuse (ltb d.count g.count) (refused (cause 13 d.count g.count 0))
    (refuse (neb d.vertex_format g.vertex_format) (refused (cause 14 d.vertex_format g.vertex_format 0))
    (refuse (ltb g.stride d.min_vertex_stride) (refused (cause 15 d.min_vertex_stride g.stride 0))
    (refuse (neb (g.stride % d.stride_alignment) 0) (refused (cause 16 d.stride_alignment g.stride 0))
    (asks (ranges [] [] []))))))

-- 17 index count on one side only; 18 index count above, 19 format differs; 20 declared, no buffer
abbrev pub index_sizes_rule : BlasGeometrySizeDescriptor → BlasGeometry → Bool → Checked
index_sizes_rule d g has-buffer =
    refuse (neb d.index_count_present g.index_count_present) (refused (bare 17))
    (refuse
    (neb d.index_count_present 0 && ltb d.index_count g.index_count)
    (refused (cause 18 d.index_count g.index_count 0))
    (refuse (neb d.index_format g.index_format) (refused (cause 19 d.index_format g.index_format 0))
    (refuse (neb d.index_count_present 0 && not has-buffer) (refused (bare 20)) (asks (ranges [] [] [])))))

-- "data buffer 21, 22, 23 (first vertex plus count, times stride, above its size)"; 23 gives offset, region, size
abbrev pub vertices_rule : BlasGeometry → Buffer → Checked
vertices_rule g b =
    usable_buffer g.buffer.0 b
    (refuse
    (ltb b.size ((g.first + g.count) * g.stride))
    (refused (cause 23 (stopped (g.first * g.stride)) (stopped (g.count * g.stride)) b.size))
    (asks (ranges (range g.buffer.0 (g.first * g.stride) (g.count * g.stride)) [] [])))

-- "index format u8 (0 none, 1 two-byte, 2 four-byte)"
abbrev pub index_width : ℕ → ℕ
index_width format = cond (eqb format 1) 2 4

-- "26 (first index times width), 26 (count times width), 27, 23"
abbrev pub index_region_rule : BlasGeometry → ℕ → Buffer → Checked
index_region_rule g width b =
    refuse (ltb limit32 (g.first_index * width)) (refused (cause 26 (g.first_index * width) g.first_index width))
    (refuse (ltb limit32 (g.index_count * width)) (refused (cause 26 (g.index_count * width) g.index_count width))
    (refuse (neb (g.index_count % 3) 0) (refused (cause 27 g.index_count 0 0))
    (refuse
    (ltb b.size (g.first_index * width + g.index_count * width))
    (refused (cause 23 (g.first_index * width) (g.index_count * width) b.size))
    (asks (ranges [] (range g.index_buffer.0 (g.first_index * width) (g.index_count * width)) [])))))

-- "24, 21, 22, 25", then the region
abbrev pub indices_rule : BlasGeometry → ℕ → Buffer → Checked
indices_rule g width b =
    refuse (eqb g.first_index_present 0) (refused (bare 24))
    (refuse (eqb g.index_count_present 0) (refused (bare 24))
    (usable_buffer g.index_buffer.0 b
    (refuse (eqb g.index_format 0) (refused (bare 25)) (index_region_rule g width b))))

-- "28, 24, 21, 22, 26, 29, 23 (48 bytes)"; 26 gives "transform: offset, offset, 1"
abbrev pub transform_rule : ℕ → BlasGeometry → Buffer → Checked
transform_rule flags g b =
    refuse (eqb (flags % 2) 0) (refused (bare 28))
    (refuse (eqb g.transform_buffer_offset_present 0) (refused (bare 24))
    (usable_buffer g.transform_buffer.0 b
    (refuse
    (ltb limit32 g.transform_buffer_offset)
    (refused (cause 26 g.transform_buffer_offset g.transform_buffer_offset 1))
    (refuse (neb (g.transform_buffer_offset % 16) 0) (refused (bare 29))
    (refuse
    (ltb b.size (g.transform_buffer_offset + 48))
    (refused (cause 23 g.transform_buffer_offset 48 b.size))
    (asks (ranges [] [] (range g.transform_buffer.0 g.transform_buffer_offset 48))))))))

-- "Only index and transform buffers may be 65535, none": the buffer of an id, if it is one
abbrev pub unless_none : (ℕ → Buffer) → ℕ → Option Buffer
unless_none buffer id = cond (eqb id 65535) none (some (buffer id))

abbrev pub is_lent : Option Buffer → Bool
is_lent none = false
is_lent (some b) = true

abbrev pub index_part : BlasGeometry → Option Buffer → Checked
index_part g none = asks (ranges [] [] [])
index_part g (some b) = indices_rule g (index_width g.index_format) b

-- without a transform buffer, 30: flagged, absent
abbrev pub transform_part : ℕ → BlasGeometry → Option Buffer → Checked
transform_part flags g none = refuse (neb (flags % 2) 0) (refused (bare 30)) (asks (ranges [] [] []))
transform_part flags g (some b) = transform_rule flags g b

-- 11 more geometries than declared: d is what the Blas declares for this geometry, if it does
abbrev pub declared_rule : Option BlasGeometrySizeDescriptor → (BlasGeometrySizeDescriptor → Checked) → Checked
declared_rule none f = refused (bare 11)
declared_rule (some d) f = f d

-- 10 kind mismatch, and the rest in order; flag 1 is USE_TRANSFORM
abbrev pub triangles_rule : Blas → Option BlasGeometrySizeDescriptor → BlasGeometry → Buffer → Option Buffer → Option Buffer
    → Checked
triangles_rule blas declared g vertices index transform =
    refuse (neb blas.kind 0) (refused (bare 10))
    (declared_rule declared
    (λ d.
    descriptor_rule d g
    then index_sizes_rule d g (is_lent index)
    then vertices_rule g vertices
    then index_part g index
    then transform_part blas.flags g transform))
