-- `groups_judge::judge_slot` meets its contract: a whole slot is fine, and one that is cut is judged as a record.
use Rattle.std.proofs.Common.{arith, sym, ap}
use Rattle.std.proofs.lemmas.Result.{err_from_is_err_and}
use Rattle.ray_tracing.specs.Groups.{by_byte}
use Rattle.groups_judge.proofs.Steps.{slot-there, slot-judged}
use Rattle.groups_judge.proofs.judge_slot.Goals as goal

pub returns-then-groups-at-ge-SLOT_SIZE-clause-judged :
    goal.returns-then-groups-at-ge-SLOT_SIZE-clause-judged
returns-then-groups-at-ge-SLOT_SIZE-clause-judged c =
    let a = c.args in sym (ap by_byte (slot-there a.groups.now a.at (omega arith)))

pub returns-in_err-judge_records-clause-judged : goal.returns-in_err-judge_records-clause-judged
returns-in_err-judge_records-clause-judged c =
    let p = err_from_is_err_and c.from_residual.result c.from_residual.ensures.1 in
    rw (p.1, p.2) (slot-judged _ _ c.requires.0 c.requires.1 _ c.judge_records.ensures c.in_err-judge_records.was)

pub returns-clause-judged : goal.returns-clause-judged
returns-clause-judged c =
    slot-judged _ _ c.requires.0 c.requires.1 _ c.judge_records.ensures c.in_ok-judge_records.was
