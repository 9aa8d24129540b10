-- `groups_judge::judge_groups` meets its contract. The invariant: the groups left are judged as the whole, and those passed are in the
-- table.
use Rattle.std.proofs.Common.{◌≤◌, length}
use Rattle.groups_judge.proofs.Steps.{Ahead}
use Rattle.groups_judge.proofs.judge_groups.Given as goal

abbrev pub invariant-loop-g : goal.invariant-loop-g
invariant-loop-g l = (l.at ≤ length l.groups) × Ahead l.groups l.starts l.g l.at
