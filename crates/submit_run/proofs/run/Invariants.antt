-- The invariant: what is left is a start that is not refused, and what is left to do, done from here, is what the whole was to be.
use Rattle.std.proofs.Common.{◌≡◌, ◌*◌, drop}
use Rattle.ray_tracing.specs.Submission.{decode_cells, later, run, lent_with, lent_buffers, SameBuffers}
use Rattle.ray_tracing.proofs.Sound.{Sound}
use Rattle.submit_run.proofs.run.Given as goal

abbrev pub invariant-loop-index : goal.invariant-loop-index
invariant-loop-index l = record {
  sound : Sound (lent_with l.number (lent_buffers l.buffers));
  names : SameBuffers l.initial.buffers l.buffers;
  same : later l.index (run (lent_with l.number (lent_buffers l.buffers)) (decode_cells l.lists (drop (l.index * 4) l.actions)))
      ≡ run (lent_with l.counter (lent_buffers l.initial.buffers)) (decode_cells l.lists l.actions);
}
