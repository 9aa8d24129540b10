-- `wire::put_bytes` meets its contract.
use native.Mathlib.Nat.{add-zero}
use mathlib.Core.Path.{◌∙◌}
use lib.ListN.{drop_of_length-le}
use Rattle.std.proofs.Common.{◌≤◌, length, arith}
use Rattle.wire.proofs.Laws.{copy_next}
use Rattle.wire.proofs.put_bytes.Goals as goal

pub loop-i-init : goal.loop-i-init
loop-i-init c = rw add-zero

pub loop-i-preserved : goal.loop-i-preserved
loop-i-preserved c = copy_next c.loop-i.s c.args.v.now c.args.at c.loop-i.i (omega arith) ∙ c.loop-i.invariant

pub returns : goal.returns
returns c =
    let done : length c.args.v.now ≤ c.loop-i.i = omega arith in
    rw (drop_of_length-le c.args.v.now done) at c.loop-i.invariant
