-- `explain::explain` meets its contract: the text is put where it fits.
use Rattle.std.proofs.Common.{ℕ, ◌≤◌, List, length, arith}
use Rattle.ray_tracing.specs.Explain.{explained}
use Rattle.report_text.proofs.Laws.{put_within, put_taken, count_is}
use Rattle.explain.proofs.Longest.{explained-most}
use Rattle.explain.proofs.explain.Goals as goal

explained-fits : (s : List ℕ) → length (explained s) ≤ 6405
explained-fits s = omega (arith, explained-most s)

pub slice_bounds-text-end : goal.slice_bounds-text-end
slice_bounds-text-end c = put_within c.put_explained-n.ensures (explained-fits _)

pub slice_bounds-put_text-end : goal.slice_bounds-put_text-end
slice_bounds-put_text-end c = count_is _ _ (put_within c.put_explained-n.ensures (explained-fits _))

pub returns : goal.returns
returns c = rw (put_taken c.put_explained-n.ensures (explained-fits _)) at c.put_text.ensures
