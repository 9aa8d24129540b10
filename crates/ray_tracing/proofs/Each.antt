-- A fact that computes for each number below n holds at any of them; so the layouts, a list, answer for every section.
use Prim.Native.Nat.{ℕ, zero, suc, ◌<◌}
use native.Mathlib.Nat.{not-suc-le-zero, le_of_suc-le-suc}
use mathlib.Core.Path.{◌≡◌, refl}
use mathlib.Core.Bool.{true}
use lib.Dec.{ltb}
use borrow.Author.Tests.{ltb-true}
use Rattle.ray_tracing.specs.declared.Version.{Version}
use Rattle.ray_tracing.specs.declared.Version.TheVariants as version
use Rattle.ray_tracing.specs.Layout.{size_in}

abbrev pub Each : (ℕ → Type 0) → ℕ → Type 0
Each P zero = Unit {0}
Each P (suc n) = P 0 × Each (λ (k : ℕ). P (suc k)) n

pub each : (P : ℕ → Type 0) (n : ℕ) → Each P n → (k : ℕ) → k < n → P k
each P zero e k h = absurd (not-suc-le-zero h)
each P (suc n) e zero h = e.0
each P (suc n) e (suc k) h = each (λ (j : ℕ). P (suc j)) n e.1 k (le_of_suc-le-suc h)

pub size-positive : (v : Version) (k : ℕ) → k < 10 → 0 < size_in v k
size-positive version.One k h =
    ltb-true 0 (size_in version.One k)
    (each (λ (j : ℕ). ltb 0 (size_in version.One j) ≡ true) 10 (refl, (refl, (refl, (refl, (refl, (refl, (refl, (refl, (refl, (refl, tt)))))))))) k h)
size-positive version.Two k h =
    ltb-true 0 (size_in version.Two k)
    (each (λ (j : ℕ). ltb 0 (size_in version.Two j) ≡ true) 10 (refl, (refl, (refl, (refl, (refl, (refl, (refl, (refl, (refl, (refl, tt)))))))))) k h)
