-- `instance_bytes::is_nan_bits` meets its contract: `nan_bits` is one comparison.
use Rattle.std.proofs.Common.{sym}
use Rattle.std.specs.Float.{binary32}
use lib.Ieee.Bits.{nan_bits_above}
use Rattle.instance_bytes.proofs.is_nan_bits.Goals as goal

pub returns : goal.returns
returns c = sym (nan_bits_above binary32 c.args.bits)
