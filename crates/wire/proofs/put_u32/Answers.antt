-- `wire::put_u32` meets its contract: the library's bytes of a number are its 4 lowest.
use Rattle.std.proofs.Common.{arith}
use Rattle.wire.specs.Wire.{le_bytes}
use Rattle.wire.proofs.Laws.{sets_part}
use Rattle.wire.proofs.put_u32.Goals as goal

pub returns : goal.returns
unfolding le_bytes
returns c = grind (arith, sets_part)
