-- `groups_judge::judge_group` meets its contract. The invariant: the items left are judged as the whole, and end where it does.
use Rattle.std.proofs.Common.{◌≤◌, length}
use Rattle.groups_judge.proofs.Steps.{Left}
use Rattle.groups_judge.proofs.judge_group.Given as goal

abbrev pub invariant-loop-i : goal.invariant-loop-i
invariant-loop-i l = (l.at ≤ length l.groups) × Left l.groups l.group l.start l.count l.i l.at
