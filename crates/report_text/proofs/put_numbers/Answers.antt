-- `report_text::put_numbers` meets its contract.
use Rattle.std.proofs.Common.{arith, rules, get_or}
use Rattle.report_text.proofs.Laws.{left-all, left_less, left-none, numbers_more, numbers-none, digits-most, put_same_length}
use Rattle.report_text.proofs.put_numbers.Goals as goal

pub loop-n-init : goal.loop-n-init
loop-n-init c = (search rules, left-all _ _ _)

pub loop-n-preserved : goal.loop-n-preserved
loop-n-preserved c =
    let put = c.put_number-end.ensures in (
      omega (arith, put_same_length put, put.ends, digits-most 20 (get_or c.args.numbers.now c.loop-n.n-index 0)),
      left_less (rw (numbers_more _ _ c.loop-n-test.true) at c.loop-n.invariant.1) put,
    )

pub returns : goal.returns
returns c = left-none (rw (numbers-none _ _ c.loop-n-test.false) at c.loop-n.invariant.1)
