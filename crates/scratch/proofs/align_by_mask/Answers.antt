-- `scratch::align_by_mask` meets its contract: the mask clears what a division leaves over, and a sum past 2^64 - 1 rounds past it.
use Rattle.std.proofs.Common.{arith}
use Rattle.scratch.proofs.Powers.{power_positive, round_masked, past_reported}
use Rattle.scratch.proofs.align_by_mask.Goals as goal

pub overflow_sub-mask : goal.overflow_sub-mask
overflow_sub-mask c = power_positive c.args.alignment c.ranges.alignment.fits c.requires

pub returns-in_err-sum : goal.returns-in_err-sum
returns-in_err-sum c =
    let a = c.args in
    let past = past_reported a.alignment c.ranges.alignment.fits c.requires a.size in
    grind (arith, past)

pub returns : goal.returns
returns c =
    let a = c.args in
    round_masked a.alignment c.ranges.alignment.fits c.requires a.size c.in_ok-sum.sum (omega arith) (omega arith)
