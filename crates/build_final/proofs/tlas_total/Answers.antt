use Rattle.ray_tracing.specs.Plan.{lent_tables, tlas_scratch}
use Rattle.build_final.proofs.Totals.{none-told, total-next, total-turn, total-reached}
use Rattle.build_final.proofs.tlas_total.Goals as goal

pub returns-in_err-total : goal.returns-in_err-total
returns-in_err-total c =
    let l = c.loop-p in
    let f = tlas_scratch (lent_tables c.args.tables.now) in
    let h = c.in_err-total.ensures in
    let e = rw (h.ok_part, c.tlas_of_package-tlas.ensures) at c.add_below-sum.ensures in
    rw (none-told c.from_residual.result c.from_residual.ensures.1 h.ok_part h.value, c.out_of_memory.ensures) (total-reached f c.args.tables.now.alignment 2 _ l.p l.total l.invariant.total l.invariant.left c.loop-p-test.true e)

pub loop-p-preserved : goal.loop-p-preserved
loop-p-preserved c =
    let l = c.loop-p in
    let f = tlas_scratch (lent_tables c.args.tables.now) in
    let e = rw (c.in_ok-total.ensures.ok_part, c.tlas_of_package-tlas.ensures) at c.add_below-sum.ensures in record {
      total = total-next f c.args.tables.now.alignment 2 0 l.p l.total l.invariant.total e;
      left = total-turn f c.args.tables.now.alignment 2 _ l.p l.total l.invariant.total l.invariant.left c.loop-p-test.true e;
    }
