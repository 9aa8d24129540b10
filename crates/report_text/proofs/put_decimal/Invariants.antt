-- The invariant: the digits of what is left, before those stored, are the whole.
use Rattle.report_text.proofs.Laws.{Digits}
use Rattle.report_text.proofs.put_decimal.Given as goal

abbrev pub invariant-loop-rest : goal.invariant-loop-rest
invariant-loop-rest l = Digits l.n l.digits l.first l.rest

abbrev pub decreases-loop-rest : goal.decreases-loop-rest
decreases-loop-rest l = l.rest
