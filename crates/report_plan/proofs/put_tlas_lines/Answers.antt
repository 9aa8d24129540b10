use native.Mathlib.Nat.{sub-zero}
use native.Mathlib.Omega.{arith}
use Rattle.report_text.proofs.Laws.{left-all, left_less, left-none, put_same_length}
use Rattle.report_plan.proofs.Laws.{tlas_line-most, tlas_more, tlas-none}
use borrow.Author.Rules.{rules}
use Rattle.report_plan.proofs.put_tlas_lines.Goals as goal

pub loop-p-init : goal.loop-p-init
loop-p-init c = (search rules, rw sub-zero (left-all _ _ _))

pub loop-p-preserved : goal.loop-p-preserved
loop-p-preserved c = let put = c.put_tlas_line-end.ensures in
    (omega (arith, put_same_length put, put.ends, tlas_line-most c.args.packages.now c.args.offsets.now c.args.ranges.now c.loop-p.p 0), left_less (rw (tlas_more _ _ _ _ _ c.loop-p-test.true) at c.loop-p.invariant.1) put)

pub returns : goal.returns
returns c = left-none (rw (tlas-none _ _ _ _ _ c.loop-p-test.false) at c.loop-p.invariant.1)
