use Rattle.std.proofs.Common.{arith, rules, sym}
use Rattle.ray_tracing.specs.Plan.{lent_tables}
use Rattle.ray_tracing.proofs.Verdicts.{onward-drawing}
use Rattle.ray_tracing.proofs.Inside.{slots_more, slots_within}
use Rattle.build_ids.proofs.packages_ids.Goals as goal

pub package_ids-requires-clause-size_in_bounds : goal.package_ids-requires-clause-size_in_bounds
package_ids-requires-clause-size_in_bounds c =
    (search rules, omega (arith, slots_within (lent_tables c.args.tables.now) _ _ c.loop-p-test.true))

pub overflow_add-s : goal.overflow_add-s
overflow_add-s c = omega (arith, slots_within (lent_tables c.args.tables.now) _ _ c.loop-p-test.true)

pub loop-p-preserved : goal.loop-p-preserved
loop-p-preserved c = record {
  drawn = omega (arith, slots_more (lent_tables c.args.tables.now) c.loop-p.p);
  left = rw c.slot_count-count.ensures (onward-drawing _ _ _ _ _ _ c.loop-p.invariant.left c.loop-p-test.true (sym c.in_ok-package_ids.ensures));
}
