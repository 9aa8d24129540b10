use Rattle.report_submit.proofs.Laws.{position_here}
use Rattle.report_submit.proofs.position_of.Goals as goal

pub returns-then-left-eq0 : goal.returns-then-left-eq0
returns-then-left-eq0 c = position_here _ _ _ _ _ _ c.loop-i.invariant c.loop-i-test.true c.u8_at.ensures c.is_kept.ensures c.if-is_kept.true c.if-left-eq0.true
