-- `instance_bytes::number_of_bits` meets its contract, by what `is_nan_bits` says.
use Rattle.std.proofs.Common.{refl, sym, ◌∙◌}
use lib.Ieee.{nan_bits}
use Rattle.ray_tracing.proofs.Numbers.{of_bits_nan, nan_of_nan, nan_of_plain}
use Rattle.instance_bytes.proofs.number_of_bits.Goals as goal

pub returns-then-is_nan_bits : goal.returns-then-is_nan_bits
unfolding nan_bits
returns-then-is_nan_bits c =
    let e = sym c.is_nan_bits.ensures ∙ c.if-is_nan_bits.true in
    (of_bits_nan 0x7fc0_0000 refl ∙ sym (of_bits_nan _ e), sym (nan_of_nan _ e))

pub returns-else-is_nan_bits : goal.returns-else-is_nan_bits
returns-else-is_nan_bits c = (refl, sym (nan_of_plain _ (sym c.is_nan_bits.ensures ∙ c.if-is_nan_bits.false)))
