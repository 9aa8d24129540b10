-- `scratch::is_power_of_two` meets its contract: one bit is set exactly where it is a power of two.
use Rattle.std.proofs.Common.{◌∙◌}
use Rattle.scratch.proofs.Powers.{power_bits}
use Rattle.scratch.proofs.is_power_of_two.Goals as goal

pub returns : goal.returns
returns c = c.is_power_of_two.ensures ∙ power_bits c.args.n c.ranges.n.fits
