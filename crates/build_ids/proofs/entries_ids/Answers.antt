use Rattle.std.proofs.Common.{arith, rules, sym}
use Rattle.ray_tracing.specs.Plan.{lent_tables}
use Rattle.ray_tracing.proofs.Verdicts.{onward-drawing}
use Rattle.ray_tracing.proofs.Inside.{drawn_more, drawn_within}
use Rattle.build_ids.proofs.entries_ids.Goals as goal

pub entry_ids-requires-clause-size_in_bounds : goal.entry_ids-requires-clause-size_in_bounds
entry_ids-requires-clause-size_in_bounds c =
    (search rules, omega (arith, drawn_within (lent_tables c.args.tables.now) _ _ c.loop-i-test.true))

pub overflow_add-g : goal.overflow_add-g
overflow_add-g c = omega (arith, drawn_within (lent_tables c.args.tables.now) _ _ c.loop-i-test.true)

pub loop-i-preserved : goal.loop-i-preserved
loop-i-preserved c = record {
  drawn = omega (arith, drawn_more (lent_tables c.args.tables.now) c.loop-i.i);
  left = rw c.geometry_count-count.ensures (onward-drawing _ _ _ _ _ _ c.loop-i.invariant.left c.loop-i-test.true (sym c.in_ok-entry_ids.ensures));
}
