-- `sheet_clear::clear_declared` meets its contract: the record's Blas is there, and its kind goes for the record.
use mathlib.Core.Path.{refl}
use Rattle.ray_tracing.specs.Layout.{size}
use Rattle.ray_tracing.specs.Reading.{begin}
use Rattle.sheet_clear.proofs.clear_declared.Goals as goal

pub returns : goal.returns
returns c v boxes =
    c.clear_declared_of.ensures v (begin (size 2) c.args.blases.now boxes) (rw c.u16_at-blas.ensures refl)
