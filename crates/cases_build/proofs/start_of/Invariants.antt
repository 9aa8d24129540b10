-- `cases_build::start_of` is safe. Assumes nothing.
use Rattle.std.proofs.Common.{◌≤◌}
use Rattle.cases_build.proofs.start_of.Given as goal

abbrev pub invariant-loop-i : goal.invariant-loop-i
invariant-loop-i l = l.at ≤ 131072
