-- What the checks of a geometry give: the first cause, or what is asked to be initialised. Assumes nothing.
use Rattle.std.specs.Prelude.{ℕ, ◌+◌, not, List, [], ◌∷◌, ◌++◌}
use Rattle.ray_tracing.specs.declared.Buffer.{Buffer}
use Rattle.ray_tracing.specs.Causes.{Cause, cause}
use Rattle.ray_tracing.specs.Guard.{refuse}

infixr 20 ◌then◌
-- buffer, start and end of each range asked for: of the data buffer, of the index buffer, of the transform buffer
pub record Ranges : Type 0 where
  pub of_data : List ℕ
  pub of_indices : List ℕ
  pub of_transform : List ℕ

abbrev pub ranges : List ℕ → List ℕ → List ℕ → Ranges
ranges d i t = record { of_data = d; of_indices = i; of_transform = t }

-- those, or the first cause
pub data Checked : Type 0 where
  asks : Ranges → Checked
  refused : Cause → Checked

abbrev pub asks_too : Ranges → Checked → Checked
asks_too a (asks b) = asks (ranges (a.of_data ++ b.of_data) (a.of_indices ++ b.of_indices) (a.of_transform ++ b.of_transform))
asks_too a (refused c) = refused c

-- one check after the other
abbrev pub ◌then◌ : Checked → Checked → Checked
◌then◌ (asks a) c = asks_too a c
◌then◌ (refused c) d = refused c

-- "Each buffer's initialisation range is its offset up to its offset plus region"
abbrev pub range : ℕ → ℕ → ℕ → List ℕ
range buffer offset region = buffer ∷ offset ∷ (offset + region) ∷ []

-- "product or offset above 2^32 - 1"
abbrev pub limit32 : ℕ
limit32 = 4294967295

-- 21 destroyed, 22 no BLAS_INPUT, "E, sort (1 buffer, 2 Blas, 3 Tlas), id"
abbrev pub usable_buffer : ℕ → Buffer → Checked → Checked
usable_buffer id b rest =
    refuse b.destroyed (refused (cause 21 1 id 0)) (refuse (not b.blas_input) (refused (cause 22 1 id 0)) rest)
