-- The invariant: what is left of the line, filled and written, makes the whole.
use lib.ListN.{drop}
use Rattle.report_text.proofs.Laws.{Left}
use Rattle.report_words.specs.Lines.{filled}
use Rattle.report_words.proofs.put_filled.Given as goal

abbrev pub invariant-loop-b : goal.invariant-loop-b
invariant-loop-b l = Left l.initial.out l.at (filled l.v l.text) l.end l.out (filled l.v (drop l.b-index l.text))
