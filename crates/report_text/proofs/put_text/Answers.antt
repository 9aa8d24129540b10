-- `report_text::put_text` meets its contract: the text is put where it fits.
use Rattle.report_text.proofs.Laws.{text_short, text_fits}
use Rattle.report_text.proofs.put_text.Goals as goal

pub returns-then-out-text : goal.returns-then-out-text
returns-then-out-text c = text_short _ _ c.if-out-text.true

pub returns : goal.returns
returns c = text_fits c.if-out-text.false c.put.ensures
