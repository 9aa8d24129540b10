-- `report_words::put_line` meets its contract: the text is the definition's, by computing.
use Rattle.ray_tracing.specs.Report.{digits}
use Rattle.report_words.specs.Lines.{lines}
use Rattle.report_words.proofs.put_line.Goals as goal

pub put_line_of-requires : goal.put_line_of-requires
unfolding lines digits
put_line_of-requires c = c.requires

pub returns : goal.returns
unfolding lines digits
returns c = c.put_line_of.ensures
