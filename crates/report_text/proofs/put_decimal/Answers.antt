-- `report_text::put_decimal` meets its contract.
use Rattle.std.proofs.Common.{rules}
use Rattle.report_text.proofs.Laws.{digits-begin, digits-next, digits_end}
use Rattle.report_text.proofs.put_decimal.Goals as goal

pub loop-rest-init : goal.loop-rest-init
loop-rest-init c = digits-begin _ _ (search rules) (search rules)

pub loop-rest-preserved : goal.loop-rest-preserved
loop-rest-preserved c = digits-next _ _ _ _ _ c.loop-rest.invariant c.loop-rest-test.true c.digit.ensures

pub returns : goal.returns
returns c =
    rw (digits_end _ c.loop-rest.digits c.loop-rest.first c.loop-rest.rest _ c.loop-rest.invariant c.loop-rest-test.false c.digit-2.ensures)
    at c.put.ensures
