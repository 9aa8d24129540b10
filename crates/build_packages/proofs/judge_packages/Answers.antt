use Rattle.std.proofs.Common.{◌+◌, arith, sym}
use Rattle.ray_tracing.specs.Plan.{lent_tables}
use Rattle.ray_tracing.proofs.Verdicts.{onward-drawing}
use Rattle.ray_tracing.proofs.Inside.{slots_before, slots_more}
use Rattle.build_packages.proofs.Laws.{slot-named}
use Rattle.build_packages.proofs.judge_packages.Goals as goal

pub judge_package-requires-clause-by_index : goal.judge_package-requires-clause-by_index
judge_package-requires-clause-by_index c =
    let t = c.args.tables.now in
    let l = c.loop-p in
    λ j k. rw l.invariant.drawn (slot-named t.blases.now t.slots.now (slots_before (lent_tables t) l.p + j) (c.requires.blas l.p j c.loop-p-test.true (omega arith)))

pub loop-p-preserved : goal.loop-p-preserved
loop-p-preserved c = record {
  drawn = omega (arith, slots_more (lent_tables c.args.tables.now) c.loop-p.p);
  left = rw c.slot_count-count.ensures (onward-drawing _ _ _ _ _ _ c.loop-p.invariant.left c.loop-p-test.true (sym c.in_ok-judge_package.ensures));
}
