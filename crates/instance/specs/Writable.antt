-- What the writing of an instance asks, by its Blas and its custom data: that 6 and 34 were judged. Assumes nothing.
use Rattle.std.specs.Prelude.{ℕ, ◌/◌, ◌^◌, ◌<◌, List, length}
use Rattle.ray_tracing.specs.Layout.{size}

pub record Writable (blases : List ℕ) (blas custom : ℕ) : Type 0 where
  pub inside : blas < length blases / size 2
  pub narrow : custom < 2 ^ 24
