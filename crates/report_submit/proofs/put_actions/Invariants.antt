-- The invariant: what is left has room, and with it written the cells are whole.
use Rattle.std.proofs.Common.{◌+◌, ◌-◌, ◌*◌, ◌≤◌, length}
use Rattle.report_text.proofs.Laws.{Left}
use Rattle.ray_tracing.specs.Report.{action_cells}
use Rattle.ray_tracing.specs.Parts.{listing}
use Rattle.report_submit.proofs.put_actions.Given as goal

abbrev pub invariant-loop-i : goal.invariant-loop-i
invariant-loop-i l = record {
  room : l.end + (l.n - l.i) * 4 ≤ length l.cells;
  left : Left l.initial.cells 0 (action_cells (listing l.tables.entries.now l.tables.packages.now) l.recorded l.actions 0 l.n) l.end l.cells (action_cells (listing l.tables.entries.now l.tables.packages.now) l.recorded l.actions l.i (l.n - l.i));
}
