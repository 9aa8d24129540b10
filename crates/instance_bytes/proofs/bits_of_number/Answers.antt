-- `instance_bytes::bits_of_number` meets its contract: each way out is a case of `bits_of`.
use Rattle.std.proofs.Common.{sym}
use Rattle.ray_tracing.proofs.Numbers.{is_nan_is, bits_kept, bits_quiet, bits_plain}
use Rattle.instance_bytes.proofs.bits_of_number.Goals as goal

pub returns-then-not-is_nan : goal.returns-then-not-is_nan
returns-then-not-is_nan c = sym (bits_plain _ _ (sym c.if-not-is_nan.ensures.value))

pub returns-then-is_nan_bits : goal.returns-then-is_nan_bits
returns-then-is_nan_bits c =
    sym (bits_kept _ _ (is_nan_is _ (sym c.if-not-is_nan.ensures.value)) (sym c.if-is_nan_bits.ensures))

pub returns-else-is_nan_bits : goal.returns-else-is_nan_bits
returns-else-is_nan_bits c =
    sym (bits_quiet _ _ (is_nan_is _ (sym c.if-not-is_nan.ensures.value)) (sym c.if-is_nan_bits.ensures))
