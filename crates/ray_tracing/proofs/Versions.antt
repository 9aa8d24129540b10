-- What the two versions have in common: every section but the geometries, and of these all but their offset's width.
use Prim.Native.Nat.{ℕ, ◌+◌, ◌≤◌}
use native.Mathlib.Omega.{arith}
use mathlib.Core.Bool.{Bool, true, false, cond}
use mathlib.Core.Path.{◌≡◌, refl, ap}
use mathlib.Core.List.{List}
use lib.Dec.{eqb}
use borrow.Author.Tests.{eqb-true}
use Rattle.wire.specs.Wire.{le_at}
use Rattle.ray_tracing.specs.declared.Version.{Version}
use Rattle.ray_tracing.specs.declared.Version.TheVariants as version
use Rattle.ray_tracing.specs.Layout.{Layout, version_number, geometries, layout, layout_in, size, size_in, total, offset_width}
use Rattle.ray_tracing.specs.Reading.{version_in}

pub layout_same : (v : Version) (k : ℕ) → eqb k 6 ≡ false → layout_in v k ≡ layout k
layout_same v k e = ap (λ (b : Bool). cond b (geometries v) (layout k)) e

pub size_same : (v : Version) (k : ℕ) → eqb k 6 ≡ false → size_in v k ≡ size k
size_same v k e = ap (λ (l : Layout). total l.fields) (layout_same v k e)

pub most_same : (v : Version) (k : ℕ) → (layout_in v k).most ≡ (layout k).most
most_same v k = go (eqb k 6) refl
  where
    go : (b : Bool) → eqb k 6 ≡ b → (cond b (geometries v) (layout k)).most ≡ (layout k).most
    go false e = refl
    go true e = rw (eqb-true k 6 e)

pub geometry-size : (v : Version) → size_in v 6 ≡ 40 + offset_width v
geometry-size version.One = refl
geometry-size version.Two = refl

pub offset-width : (v : Version) → (4 ≤ offset_width v) × (offset_width v ≤ 8)
offset-width version.One = (omega arith, omega arith)
offset-width version.Two = (omega arith, omega arith)

-- the version by its number
pub version-known : (s : List ℕ) (v : Version) → le_at 1 s 0 ≡ version_number v → version_in s ≡ v
unfolding version_in
version-known s v e = rw e (by v)
  where
    by : (v : Version) → cond (eqb (version_number v) 2) version.Two version.One ≡ v
    by version.One = refl
    by version.Two = refl
