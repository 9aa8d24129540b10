-- `groups_judge::judge_item` meets its contract.
use Rattle.std.proofs.Common.{arith, sym}
use Rattle.groups_judge.proofs.Steps.{item_cut, item-slot, item-named, item-other}
use Rattle.groups_judge.proofs.judge_item.Goals as goal

pub returns-then-groups-at-clause-judged : goal.returns-then-groups-at-clause-judged
returns-then-groups-at-clause-judged c =
    let a = c.args in rw c.malformed.ensures (sym (item_cut a.groups.now a.group a.item a.at (omega arith)))

pub returns-in-1 : goal.returns-in-1
returns-in-1 c =
    let a = c.args in
    let byte = c.u8_at.ensures in
    let called = c.judge_slot in
    let found =
    item-slot a.groups.now a.group a.item a.at (omega arith) called.result (omega (arith, byte, c.in-1.is))
    (called.ensures.judged, called.ensures.ends) in
    record { judged = found.0; ends = found.1 }

pub returns-in-2 : goal.returns-in-2
returns-in-2 c =
    let a = c.args in
    let byte = c.u8_at.ensures in
    let called = c.judge_name in
    let found =
    item-named a.groups.now a.group a.item a.at (omega arith) called.result (omega (arith, byte, c.in-2.is))
    (called.ensures.judged, called.ensures.ends) in
    record { judged = found.0; ends = found.1 }

pub returns-in_default-clause-judged : goal.returns-in_default-clause-judged
returns-in_default-clause-judged c =
    let byte = c.u8_at.ensures in
    rw c.malformed-in_default.ensures (sym (item-other _ _ _ _ (omega arith) (λ e. omega arith) (λ e. omega arith)))
