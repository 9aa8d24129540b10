-- `report_plan::put_tlas_lines` meets its contract. The invariant: what is left has room, and with it written the text is whole.
use Prim.Native.Nat.{◌+◌, ◌-◌, ◌*◌, ◌≤◌}
use lib.ListN.{length}
use Rattle.ray_tracing.specs.Report.{word-tlas}
use Rattle.ray_tracing.specs.Sizes.{longest_line}
use Rattle.report_text.proofs.Laws.{Left}
use Rattle.report_plan.specs.Lines.{tlas_lines_of}
use Rattle.report_plan.proofs.put_tlas_lines.Given as goal

abbrev pub invariant-loop-p : goal.invariant-loop-p
invariant-loop-p l = (l.end + (l.p-end - l.p) * longest_line word-tlas 4 ≤ length l.out) × Left l.initial.out l.at (tlas_lines_of l.packages l.offsets l.ranges 0 l.p-end) l.end l.out (tlas_lines_of l.packages l.offsets l.ranges l.p (l.p-end - l.p))
