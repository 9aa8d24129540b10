-- `report_words::put_filled` meets its contract.
use native.Mathlib.Omega.{arith}
use Rattle.report_text.proofs.Laws.{left-all, left_less, left-none}
use Rattle.report_words.proofs.Laws.{filled_more, filled-last, filled_none}
use Rattle.report_words.proofs.put_filled.Goals as goal

pub loop-b-init : goal.loop-b-init
loop-b-init c = left-all _ _ _

pub put_letter-end-requires : goal.put_letter-end-requires
put_letter-end-requires c = let l = c.loop-b.invariant in
    omega (arith, l.ends, l.same)

pub returns-then-b-eq10 : goal.returns-then-b-eq10
returns-then-b-eq10 c = left-none (left_less (rw (filled-last _ _ _ c.loop-b-test.true c.if-b-eq10.true) at c.loop-b.invariant) c.put_letter-end.ensures)

pub loop-b-preserved : goal.loop-b-preserved
loop-b-preserved c = left_less (rw (filled_more _ _ _ c.loop-b-test.true c.if-b-eq10.false) at c.loop-b.invariant) c.put_letter-end.ensures

pub returns-after-loop-b : goal.returns-after-loop-b
returns-after-loop-b c = left-none (rw (filled_none _ _ _ c.loop-b-test.false) at c.loop-b.invariant)
