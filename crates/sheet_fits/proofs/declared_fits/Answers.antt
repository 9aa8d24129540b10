-- `sheet_fits::declared_fits` meets its contract: a Blas that is counted is there, and its kind goes for the record.
use Prim.Native.Nat.{◌/◌}
use native.Mathlib.Omega.{arith}
use mathlib.Core.Path.{◌≡◌, refl}
use lib.ListN.{length}
use borrow.Author.Tests.{lt-ltb}
use native.Mathlib.Nat.{add-zero}
use Rattle.ray_tracing.specs.Layout.{kind_known}
use Rattle.ray_tracing.specs.Reading.{begin}
use Rattle.sheet_fits.proofs.declared_fits.Goals as goal

pub returns-then-blas-before : goal.returns-then-blas-before
returns-then-blas-before c v boxes =
    let b = c.args.before.now in
    let counted : b.count ≡ length b.records.now / b.each = omega arith in
    rw (add-zero, ← c.u16_at.ensures, ← c.from-blas.ensures, ← counted, lt-ltb _ _ c.if-blas-before.true)
    (c.declared_rest_fits.ensures (kind_known (begin b.each b.records.now boxes) c.from-blas.result) refl)
