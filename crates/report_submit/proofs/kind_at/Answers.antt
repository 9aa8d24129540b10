-- `report_submit::kind_at` meets its contract: past the actions there is no byte, and a byte that is not there is 0.
use Prim.Native.Nat.{◌*◌}
use native.Mathlib.Omega.{arith}
use lib.ListN.{get_or-eq_default}
use Rattle.ray_tracing.specs.Layout.{size}
use Rattle.wire.specs.Wire.{le_at}
use Rattle.report_submit.proofs.kind_at.Goals as goal

pub returns : goal.returns
unfolding le_at
returns c = let a = c.args in
    let past = get_or-eq_default a.actions.now 0 {n = a.i * size 9} (omega (arith, c.if-i-actions.false)) in
    omega arith
