use Rattle.std.proofs.Common.{ℕ, [], ◌+◌, ◌*◌, ap, arith, rules}
use Rattle.ray_tracing.proofs.Inside.{slots_more}
use Rattle.ray_tracing.proofs.Plan.{staging_length}
use Rattle.ray_tracing.specs.Parts.{of_packages}
use Rattle.build_ranges.proofs.Appending.{turn}
use Rattle.build_plan.proofs.Laws.{staging_more, pair_stored}
use Rattle.build_plan.proofs.write_staging_ranges.Goals as goal

pub bounds-out-p-in-loop-p : goal.bounds-out-p-in-loop-p
bounds-out-p-in-loop-p c = let room = rw staging_length at c.requires.1 in search rules

pub loop-p-preserved : goal.loop-p-preserved
loop-p-preserved c =
    let l = c.loop-p in
    let more = staging_more (of_packages [] c.args.packages.now c.args.slots.now) l.start _ _ _ c.loop-p-test.true c.slot_count-count.ensures (ap (λ (n : ℕ). l.start + 64 * n) c.present_of-bytes.ensures.0) in
    record {
      drawn = omega (arith, c.slot_count-count.ensures, slots_more (of_packages [] c.args.packages.now c.args.slots.now) l.p);
      most = omega arith;
      left = turn l.invariant.left more (omega arith) (pair_stored l.out (2 * l.p) l.start _);
    }
