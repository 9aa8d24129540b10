use native.Mathlib.Nat.{sub-zero}
use native.Mathlib.Omega.{arith}
use Rattle.report_text.proofs.Laws.{left-all, left_less, left-none, put_same_length}
use Rattle.report_plan.proofs.Laws.{blas_line-most, blas_more, blas-none}
use borrow.Author.Rules.{rules}
use Rattle.report_plan.proofs.put_blas_lines.Goals as goal

pub loop-i-init : goal.loop-i-init
loop-i-init c = (search rules, rw sub-zero (left-all _ _ _))

pub loop-i-preserved : goal.loop-i-preserved
loop-i-preserved c = let put = c.put_blas_line-end.ensures in
    (omega (arith, put_same_length put, put.ends, blas_line-most c.args.entries.now c.args.offsets.now c.loop-i.i 0), left_less (rw (blas_more _ _ _ _ c.loop-i-test.true) at c.loop-i.invariant.1) put)

pub returns : goal.returns
returns c = left-none (rw (blas-none _ _ _ _ c.loop-i-test.false) at c.loop-i.invariant.1)
