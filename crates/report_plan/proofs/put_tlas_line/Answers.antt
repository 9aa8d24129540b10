-- `report_plan::put_tlas_line` meets its contract.
use Rattle.report_plan.proofs.put_tlas_line.Goals as goal

pub returns : goal.returns
returns c = rw (c.from.ensures, c.u16_at.ensures) at c.put_line.ensures
