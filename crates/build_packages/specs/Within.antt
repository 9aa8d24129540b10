-- What the checks of packages and slots rely on: the records that they read lie within their tables. Assumes nothing.
use Rattle.std.specs.Prelude.{ℕ, ◌+◌, ◌≤◌, ◌<◌, true, ◌≡◌}
use Rattle.ray_tracing.specs.Layout.{layout}
use Rattle.ray_tracing.specs.Plan.{Tables, records_in, package_of, slot_count, slot_present, slot_blas}
use Rattle.ray_tracing.proofs.Inside.{slots_before}

pub record PackagesInside (x : Tables) : Type 0 where
  pub few : records_in x 8 ≤ (layout 8).most
  pub tlas : (p : ℕ) → p < records_in x 7 → (package_of x p).tlas.0 < records_in x 4
  pub drawn : (p : ℕ) → p < records_in x 7 → slots_before x p + slot_count x p ≤ records_in x 8
  pub blas :
      (p j : ℕ)
      → p < records_in x 7
      → j < slot_count x p
      → slot_present x.slots (slots_before x p + j) ≡ true
      → slot_blas x.slots (slots_before x p + j) < records_in x 2
