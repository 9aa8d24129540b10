-- The initialisation ranges of geometries that no check refuses: they go by the geometry alone. Assumes nothing.
use Rattle.std.specs.Prelude.{ℕ, zero, suc, ◌+◌, ◌*◌, ◌/◌, ◌^◌, ◌<◌, ◌≤◌, ◌≡◌, cond, List, [], ◌++◌, length, eqb}
use Rattle.ray_tracing.specs.declared.Version.{Version}
use Rattle.ray_tracing.specs.declared.BlasGeometry.{BlasGeometry}
use Rattle.ray_tracing.specs.Layout.{layout_in, size, size_in}
use Rattle.ray_tracing.specs.Records.{entry_at, geometry_at}
use Rattle.ray_tracing.specs.Checks.{range}
use Rattle.ray_tracing.specs.Triangles.{index_width}
use Rattle.ray_tracing.specs.Plan.{geometry_count}
use Rattle.ray_tracing.proofs.Inside.{drawn_before}
use Rattle.ray_tracing.specs.Parts.{entries_in, of_entries}

-- triangles' vertices, or boxes
abbrev pub data_range : ℕ → BlasGeometry → List ℕ
data_range kind g =
    cond (eqb kind 0) (range g.buffer.0 (g.first * g.stride) (g.count * g.stride))
    (range g.buffer.0 g.first (g.count * g.stride))

-- triangles' indices and transform, if they have the buffer
abbrev pub index_range : ℕ → BlasGeometry → List ℕ
index_range kind g =
    cond (eqb kind 0)
    (cond (eqb g.index_buffer.0 65535) []
    (range
    g.index_buffer.0
    (g.first_index * index_width g.index_format)
    (g.index_count * index_width g.index_format)))
    []

abbrev pub transform_range : ℕ → BlasGeometry → List ℕ
transform_range kind g =
    cond (eqb kind 0)
    (cond (eqb g.transform_buffer.0 65535) [] (range g.transform_buffer.0 g.transform_buffer_offset 48))
    []

abbrev pub geometry_ranges : ℕ → BlasGeometry → List ℕ
geometry_ranges kind g = data_range kind g ++ (index_range kind g ++ transform_range kind g)

-- of n geometries from geometry g on, of one kind
unfoldable pub entry_ranges : Version → List ℕ → ℕ → ℕ → ℕ → List ℕ
entry_ranges v geometries kind g zero = []
entry_ranges v geometries kind g (suc n) =
    geometry_ranges kind (geometry_at v geometries (g * size_in v 6)) ++ entry_ranges v geometries kind (g + 1) n

-- of n entries from entry i on, whose geometries stand from g on
unfoldable pub all_ranges : Version → List ℕ → List ℕ → ℕ → ℕ → ℕ → List ℕ
all_ranges v entries geometries i g zero = []
all_ranges v entries geometries i g (suc n) =
    entry_ranges v geometries (entry_at entries (i * size 5)).kind g (entry_at entries (i * size 5)).geometry_count
    ++ all_ranges v entries geometries (i + 1) (g + (entry_at entries (i * size 5)).geometry_count) n

-- of all entries
abbrev pub ranges_in : Version → List ℕ → List ℕ → List ℕ
ranges_in v entries geometries = all_ranges v entries geometries 0 0 (entries_in entries)

-- the ends of a geometry's ranges are u64s
pub record RangesFit (kind : ℕ) (g : BlasGeometry) : Type 0 where
  pub vertices : kind ≡ 0 → (g.first + g.count) * g.stride < 2 ^ 64
  pub boxes : (kind ≡ 0 → ⊥) → g.first + g.count * g.stride < 2 ^ 64
  pub transform : kind ≡ 0 → (g.transform_buffer.0 ≡ 65535 → ⊥) → g.transform_buffer_offset + 48 < 2 ^ 64

abbrev pub AllFit : Version → List ℕ → ℕ → ℕ → ℕ → Type 0
AllFit v geometries kind first count =
    (g : ℕ) → first ≤ g → g < first + count → RangesFit kind (geometry_at v geometries (g * size_in v 6))

-- the geometries that each entry draws are there, there are not too many, and their ranges fit
abbrev pub geometries_in : Version → List ℕ → ℕ
geometries_in v geometries = length geometries / size_in v 6

pub record DrawnFit (v : Version) (entries geometries : List ℕ) : Type 0 where
  pub drawn :
      (i : ℕ)
      → i < entries_in entries
      → drawn_before (of_entries [] entries) i + geometry_count (of_entries [] entries) i ≤ geometries_in v geometries
  pub most : geometries_in v geometries ≤ (layout_in v 6).most
  pub fit :
      (i : ℕ)
      → i < entries_in entries
      → AllFit
      v
      geometries
      (entry_at entries (i * size 5)).kind
      (drawn_before (of_entries [] entries) i)
      (geometry_count (of_entries [] entries) i)
