-- Room: what the test of the counts tells of the outputs.
use mathlib.Core.Path.{◌≡◌, refl}
use mathlib.Core.Bool.{Bool, true, false, ◌||◌}
use mathlib.Core.List.{List}
use Prim.Native.Nat.{ℕ, ◌≤◌}
use native.Mathlib.Omega.{arith}
use lib.ListN.{length}
use borrow.Author.Tests.{ltb-false}
use Rattle.ray_tracing.specs.Plan.{Outputs, too_short, short}
use Rattle.build_plan.specs.Planned.{PlanRoom}

or_left : (a b : Bool) → (a || b) ≡ false → a ≡ false
or_left false b e = refl
or_left true b e = let z : ◌≡◌ {A = ℕ} 0 1 = cc in absurd (omega arith)

or_right : (a b : Bool) → (a || b) ≡ false → b ≡ false
or_right false b e = e
or_right true b e = let z : ◌≡◌ {A = ℕ} 0 1 = cc in absurd (omega arith)

pub fits : (values lent : List ℕ) → short values lent ≡ false → length values ≤ length lent
fits values lent e = ltb-false (length lent) (length values) e

pub room_is : (p o : Outputs) → too_short p o ≡ false → PlanRoom p o
room_is p o a =
    let b = or_right (short p.blas_offsets o.blas_offsets) _ a in
    let c = or_right (short p.tlas_offsets o.tlas_offsets) _ b in
    let d = or_right (short p.staging_ranges o.staging_ranges) _ c in
    let g = or_right (short p.instances o.instances) _ d in
    let h = or_right (short p.init_ranges o.init_ranges) _ g in
    record {
      blas-offsets = fits p.blas_offsets o.blas_offsets (or_left _ _ a);
      tlas-offsets = fits p.tlas_offsets o.tlas_offsets (or_left _ _ b);
      staging-ranges = fits p.staging_ranges o.staging_ranges (or_left _ _ c);
      instances = fits p.instances o.instances (or_left _ _ d);
      init-ranges = fits p.init_ranges o.init_ranges (or_left _ _ g);
      compactable = fits p.compactable o.compactable (or_left _ _ h);
      lists = fits p.lists o.lists (or_right (short p.compactable o.compactable) _ h);
    }
