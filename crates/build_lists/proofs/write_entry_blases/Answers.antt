use lib.ListN.{set}
use Rattle.ray_tracing.specs.declared.BlasBuildEntry.{BlasBuildEntry}
use mathlib.Core.Path.{refl, ap}
use Rattle.build_ranges.proofs.Appending.{turn, done}
use Rattle.build_lists.proofs.Laws.{blases_more, blases-none}
use Rattle.build_lists.proofs.write_entry_blases.Goals as goal

pub loop-i-preserved : goal.loop-i-preserved
loop-i-preserved c = turn c.loop-i.invariant (blases_more _ _ _ c.loop-i-test.true) refl (ap (λ (b : BlasBuildEntry). set c.loop-i.out c.loop-i.i b.blas.0) c.entry_at.ensures)

pub returns : goal.returns
returns c = done c.loop-i.invariant (blases-none _ _ _ c.loop-i-test.false)
