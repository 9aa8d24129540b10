-- `wire::u8_at` meets its contract: `le_at` at width 1 is the byte.
use Rattle.std.proofs.Common.{rules}
use Rattle.wire.specs.Wire.{le_at}
use Rattle.wire.proofs.u8_at.Goals as goal

pub returns : goal.returns
unfolding le_at
returns c = search rules
