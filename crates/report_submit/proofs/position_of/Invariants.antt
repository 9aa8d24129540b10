-- The invariant: of the positions that are left, the one asked for is that of all.
use Rattle.std.proofs.Common.{◌≡◌, ◌-◌, get_or}
use Rattle.ray_tracing.specs.Report.{positions}
use Rattle.report_submit.proofs.position_of.Given as goal

abbrev pub invariant-loop-i : goal.invariant-loop-i
invariant-loop-i l = get_or (positions l.recorded l.actions l.i (l.n - l.i)) l.left 0 ≡ get_or (positions l.recorded l.actions 0 l.n) l.k 0
