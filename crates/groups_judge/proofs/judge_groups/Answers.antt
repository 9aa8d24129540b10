use Rattle.std.proofs.Common.{arith}
use lib.ListN.{set}
use Rattle.std.proofs.lemmas.Result.{err_from_is_err_and}
use Rattle.groups_judge.proofs.Steps.{groups_cut, groups-many, groups_none, refuses, ahead_all, ahead-trailing, ahead_none, ahead-stop, ahead_more}
use Rattle.groups_judge.proofs.judge_groups.Goals as goal

pub returns-then-groups-lt2 : goal.returns-then-groups-lt2
returns-then-groups-lt2 c =
    let a = c.args in
    let found = refuses _ a.starts.now (groups_cut a.groups.now (omega arith)) in
    rw c.malformed.ensures (record { judged = found.0; starts = found.1 })

pub returns-then-count-gt-MOST_GROUPS : goal.returns-then-count-gt-MOST_GROUPS
returns-then-count-gt-MOST_GROUPS c =
    let a = c.args in
    let found =
    refuses _ a.starts.now (groups-many a.groups.now (omega arith) (omega (arith, c.u16_at-count.ensures))) in
    rw c.malformed-then-count-gt-MOST_GROUPS.ensures (record { judged = found.0; starts = found.1 })

pub returns-then-count-eq0 : goal.returns-then-count-eq0
returns-then-count-eq0 c =
    let a = c.args in
    let found =
    refuses _ a.starts.now (groups_none a.groups.now (omega arith) (omega (arith, c.u16_at-count.ensures))) in
    record { judged = found.0; starts = found.1 }

pub loop-g-init : goal.loop-g-init
loop-g-init c =
    let e = c.u16_at-count.ensures in
    (omega arith, ahead_all _ _ (omega arith) (omega (arith, e)) (λ z. c.if-count-eq0.false (omega (arith, e, z))))

pub returns-in_err-at : goal.returns-in_err-at
returns-in_err-at c =
    let l = c.loop-g in
    let called = c.judge_group.ensures in
    let count = c.u16_at-count.ensures in
    let p = err_from_is_err_and c.from_residual.result c.from_residual.ensures.1 in
    let found =
    ahead-stop _ _ l.g _ l.invariant.1 (omega arith) _ (called.judged, called.ends) (set l.starts l.g l.at)
    c.in_err-at.was in
    rw (p.1, p.2) (record { judged = found.0; starts = found.1 })

pub loop-g-preserved : goal.loop-g-preserved
loop-g-preserved c =
    let l = c.loop-g in
    let called = c.judge_group.ensures in
    let count = c.u16_at-count.ensures in
    ahead_more _ _ l.g _ l.invariant.1 (omega arith) _ (called.judged, called.ends) (omega arith) c.in_ok-at.was

pub returns-then-at-groups : goal.returns-then-at-groups
returns-then-at-groups c =
    let l = c.loop-g in
    let count = c.u16_at-count.ensures in
    let found = refuses _ l.starts (ahead-trailing _ _ l.g _ l.invariant.1 (omega arith) (omega arith)) in
    rw c.malformed-then-at-groups.ensures (record { judged = found.0; starts = found.1 })

pub returns : goal.returns
returns c =
    let l = c.loop-g in
    let count = c.u16_at-count.ensures in
    let found = ahead_none _ _ l.g _ l.invariant.1 (omega arith) (omega arith) in
    record { judged = found.0; starts = found.1 }
