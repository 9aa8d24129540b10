use Rattle.ray_tracing.specs.Plan.{lent_tables, blas_scratch}
use Rattle.build_final.proofs.Totals.{none-told, total-next, total-turn, total-reached}
use Rattle.build_final.proofs.blas_total.Goals as goal

pub returns-in_err-total : goal.returns-in_err-total
returns-in_err-total c =
    let l = c.loop-i in
    let f = blas_scratch (lent_tables c.args.tables.now) in
    let h = c.in_err-total.ensures in
    let e = rw (h.ok_part, c.blas_of_entry-blas.ensures) at c.add_below-sum.ensures in
    rw (none-told c.from_residual.result c.from_residual.ensures.1 h.ok_part h.value, c.out_of_memory.ensures) (total-reached f c.args.tables.now.alignment 1 _ l.i l.total l.invariant.total l.invariant.left c.loop-i-test.true e)

pub loop-i-preserved : goal.loop-i-preserved
loop-i-preserved c =
    let l = c.loop-i in
    let f = blas_scratch (lent_tables c.args.tables.now) in
    let e = rw (c.in_ok-total.ensures.ok_part, c.blas_of_entry-blas.ensures) at c.add_below-sum.ensures in record {
      total = total-next f c.args.tables.now.alignment 1 0 l.i l.total l.invariant.total e;
      left = total-turn f c.args.tables.now.alignment 1 _ l.i l.total l.invariant.total l.invariant.left c.loop-i-test.true e;
    }
