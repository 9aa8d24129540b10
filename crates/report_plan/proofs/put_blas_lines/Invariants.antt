-- `report_plan::put_blas_lines` meets its contract. The invariant: what is left has room, and with it written the text is whole.
use Prim.Native.Nat.{◌+◌, ◌-◌, ◌*◌, ◌≤◌}
use lib.ListN.{length}
use Rattle.ray_tracing.specs.Report.{word-blas}
use Rattle.ray_tracing.specs.Sizes.{longest_line}
use Rattle.report_text.proofs.Laws.{Left}
use Rattle.report_plan.specs.Lines.{blas_lines_of}
use Rattle.report_plan.proofs.put_blas_lines.Given as goal

abbrev pub invariant-loop-i : goal.invariant-loop-i
invariant-loop-i l = (l.end + (l.i-end - l.i) * longest_line word-blas 2 ≤ length l.out) × Left l.initial.out l.at (blas_lines_of l.entries l.offsets 0 l.i-end) l.end l.out (blas_lines_of l.entries l.offsets l.i (l.i-end - l.i))
