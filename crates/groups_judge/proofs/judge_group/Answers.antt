use Rattle.std.proofs.Common.{arith, sym}
use Rattle.std.proofs.lemmas.Result.{err_from_is_err_and}
use Rattle.groups_judge.proofs.Steps.{group_cut, group-none, left-all, left-none, left-stop, left_more}
use Rattle.groups_judge.proofs.judge_group.Goals as goal

pub returns-then-groups-start-lt2-clause-judged : goal.returns-then-groups-start-lt2-clause-judged
returns-then-groups-start-lt2-clause-judged c =
    let a = c.args in rw c.malformed.ensures (sym (group_cut a.groups.now a.group a.start (omega arith)))

pub returns-then-count-eq0-clause-judged : goal.returns-then-count-eq0-clause-judged
returns-then-count-eq0-clause-judged c =
    let a = c.args in
    sym (group-none a.groups.now a.group a.start (omega arith) (omega (arith, c.u16_at-count.ensures)))

pub loop-i-init : goal.loop-i-init
loop-i-init c =
    (omega arith, left-all _ _ _ _ (omega arith) c.u16_at-count.ensures (λ z. omega arith))

pub returns-in_err-at-clause-judged : goal.returns-in_err-at-clause-judged
returns-in_err-at-clause-judged c =
    let l = c.loop-i in
    let called = c.judge_item.ensures in
    let p = err_from_is_err_and c.from_residual.result c.from_residual.ensures.1 in
    rw (p.1, p.2)
    (left-stop _ _ _ _ l.i _ l.invariant.1 (omega arith) _ (called.judged, called.ends) c.in_err-at.was)

pub loop-i-preserved : goal.loop-i-preserved
loop-i-preserved c =
    let l = c.loop-i in
    let called = c.judge_item.ensures in
    left_more _ _ _ _ l.i _ l.invariant.1 (omega arith) _ (called.judged, called.ends) c.in_ok-at.was

pub returns : goal.returns
returns c =
    let l = c.loop-i in
    let found = left-none _ _ _ _ l.i _ l.invariant.1 (omega arith) in
    record { judged = found.0; ends = found.1 }
