-- `report_text::put_number` meets its contract: two writes end to end are one.
use Rattle.report_text.proofs.Laws.{put_then}
use Rattle.report_text.proofs.put_number.Goals as goal

pub returns : goal.returns
returns c = put_then c.put_byte-next.ensures c.put_decimal.ensures
