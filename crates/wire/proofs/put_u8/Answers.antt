-- `wire::put_u8` meets its contract: a byte is its own lowest byte.
use Rattle.std.proofs.Common.{arith, ◌≡◌, ◌%◌}
use Rattle.wire.specs.Wire.{le_bytes}
use Rattle.wire.proofs.put_u8.Goals as goal

pub returns : goal.returns
unfolding le_bytes
returns c =
    let e : c.args.v % 256 ≡ c.args.v = omega arith in
    rw e
