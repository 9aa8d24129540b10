-- Two lines end to end are one write.
use Rattle.report_text.proofs.Laws.{put_then}
use Rattle.report_submit.proofs.put_outcome.Goals as goal

pub returns : goal.returns
returns c = put_then c.put_line-end.ensures c.put_line.ensures
