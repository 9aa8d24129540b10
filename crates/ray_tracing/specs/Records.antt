-- The records of lent tables: what stands at a byte place, field by field of the layout. A record's size is the caller's, so that
-- records of two sizes can stand side by side. Assumes nothing.
use Rattle.std.specs.Prelude.{ℕ, ◌/◌, ◌%◌, List, eqb}
use Rattle.wire.specs.Wire.{le_at}
use Rattle.ray_tracing.specs.declared.Version.{Version}
use Rattle.ray_tracing.specs.declared.Buffer.{Buffer}
use Rattle.ray_tracing.specs.declared.Blas.{Blas}
use Rattle.ray_tracing.specs.declared.BlasGeometrySizeDescriptor.{BlasGeometrySizeDescriptor}
use Rattle.ray_tracing.specs.declared.Tlas.{Tlas}
use Rattle.ray_tracing.specs.declared.BlasBuildEntry.{BlasBuildEntry}
use Rattle.ray_tracing.specs.declared.BlasGeometry.{BlasGeometry}
use Rattle.ray_tracing.specs.declared.TlasPackage.{TlasPackage}
use Rattle.ray_tracing.specs.Layout.{Field, geometries, layout, place_of, width_of}

-- field j of a record with the fields fs at a place
abbrev pub field_of : List Field → List ℕ → ℕ → ℕ → ℕ
field_of fs t at j = le_at (width_of fs j) t (place_of fs at j)

-- of a record of section k
abbrev pub field_at : ℕ → List ℕ → ℕ → ℕ → ℕ
field_at k = field_of (layout k).fields

-- marks: 1 BLAS_INPUT, 2 destroyed
abbrev pub buffer_at : List ℕ → ℕ → Buffer
buffer_at t at =
    record {
      size = field_at 1 t at 0;
      blas_input = eqb (field_at 1 t at 1 % 2) 1;
      destroyed = eqb (field_at 1 t at 1 / 2 % 2) 1;
    }

-- scratch is `build_scratch_size`, address `handle`, number `built_index`, state `compacted_state`
abbrev pub blas_at : List ℕ → ℕ → Blas
blas_at t at =
    record {
      kind = field_at 2 t at 0;
      flags = field_at 2 t at 1;
      compacted_state = field_at 2 t at 2;
      destroyed = field_at 2 t at 3;
      build_scratch_size = field_at 2 t at 4;
      handle = field_at 2 t at 5;
      built_index = field_at 2 t at 6;
    }

-- a declared geometry
abbrev pub declared_at : List ℕ → ℕ → BlasGeometrySizeDescriptor
declared_at t at =
    record {
      blas = record { 0 = field_at 3 t at 0 };
      flags = field_at 3 t at 1;
      count = field_at 3 t at 2;
      vertex_format = field_at 3 t at 3;
      min_vertex_stride = field_at 3 t at 4;
      stride_alignment = field_at 3 t at 5;
      index_format = field_at 3 t at 6;
      index_count_present = field_at 3 t at 7;
      index_count = field_at 3 t at 8;
    }

-- most instances is `max_instance_count`
abbrev pub tlas_at : List ℕ → ℕ → Tlas
tlas_at t at =
    record {
      flags = field_at 4 t at 0;
      destroyed = field_at 4 t at 1;
      build_scratch_size = field_at 4 t at 2;
      max_instance_count = field_at 4 t at 3;
      built_index = field_at 4 t at 4;
    }

abbrev pub entry_at : List ℕ → ℕ → BlasBuildEntry
entry_at t at =
    record { blas = record { 0 = field_at 5 t at 0 }; kind = field_at 5 t at 1; geometry_count = field_at 5 t at 2 }

-- "the shared geometry record widens with it": a geometry of either version
abbrev pub geometry_at : Version → List ℕ → ℕ → BlasGeometry
geometry_at v t at =
    record {
      flags = field_of (geometries v).fields t at 0;
      count = field_of (geometries v).fields t at 1;
      first = field_of (geometries v).fields t at 2;
      stride = field_of (geometries v).fields t at 3;
      buffer = record { 0 = field_of (geometries v).fields t at 4 };
      vertex_format = field_of (geometries v).fields t at 5;
      index_format = field_of (geometries v).fields t at 6;
      index_buffer = record { 0 = field_of (geometries v).fields t at 7 };
      index_count_present = field_of (geometries v).fields t at 8;
      index_count = field_of (geometries v).fields t at 9;
      first_index_present = field_of (geometries v).fields t at 10;
      first_index = field_of (geometries v).fields t at 11;
      transform_buffer = record { 0 = field_of (geometries v).fields t at 12 };
      transform_buffer_offset_present = field_of (geometries v).fields t at 13;
      transform_buffer_offset = field_of (geometries v).fields t at 14;
    }

abbrev pub package_at : List ℕ → ℕ → TlasPackage
package_at t at = record { tlas = record { 0 = field_at 7 t at 0 }; slot_count = field_at 7 t at 1 }
