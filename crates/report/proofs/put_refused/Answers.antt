-- `report::put_refused` meets its contract: the numbers of the line are those of the refusal.
use Rattle.report.proofs.put_refused.Goals as goal

pub returns : goal.returns
returns c =
    let told = c.into-refusal.ensures in
    record { put = rw told.numbers at c.put_line-end.ensures; refuses = told }
