-- What the checks of entries and their geometries rely on: the records that they read lie within their tables. Assumes nothing.
use Rattle.std.specs.Prelude.{ℕ, ◌+◌, ◌≤◌, ◌<◌, ◌≡◌}
use Rattle.ray_tracing.specs.Layout.{layout}
use Rattle.ray_tracing.specs.Plan.{Tables, records_in, entry_of, geometry_of, geometry_count}
use Rattle.ray_tracing.proofs.Inside.{Named, drawn_before}

-- geometry g, drawn by entry i
pub record GeometryInside (x : Tables) (i g : ℕ) : Type 0 where
  pub entry : i < records_in x 5
  pub geometry : g < records_in x 6
  pub blas : (entry_of x i).blas.0 < records_in x 2
  pub data_buffer : (geometry_of x g).buffer.0 < records_in x 1
  pub index_buffer : (entry_of x i).kind ≡ 0 → Named (geometry_of x g).index_buffer.0 (records_in x 1)
  pub transform_buffer : (entry_of x i).kind ≡ 0 → Named (geometry_of x g).transform_buffer.0 (records_in x 1)

-- all of them
pub record EntriesInside (x : Tables) : Type 0 where
  pub few : records_in x 2 ≤ (layout 2).most
  pub blas : (i : ℕ) → i < records_in x 5 → (entry_of x i).blas.0 < records_in x 2
  pub drawn : (i : ℕ) → i < records_in x 5 → drawn_before x i + geometry_count x i ≤ records_in x 6
  pub geometries :
      (i j : ℕ) → i < records_in x 5 → j < geometry_count x i → GeometryInside x i (drawn_before x i + j)
