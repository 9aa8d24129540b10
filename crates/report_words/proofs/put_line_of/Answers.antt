-- `report_words::put_line_of` meets its contract: from where the line begins the text is what stands past those before it.
use Rattle.report_words.proofs.Laws.{rest_is}
use Rattle.report_words.proofs.put_line_of.Goals as goal

pub put_filled-requires : goal.put_filled-requires
put_filled-requires c = rw (rest_is c.args.text.now c.line_start-start.result c.line_start-start.ensures.1) c.requires

pub returns : goal.returns
returns c = rw (rest_is c.args.text.now c.line_start-start.result c.line_start-start.ensures.1) at c.put_filled.ensures
