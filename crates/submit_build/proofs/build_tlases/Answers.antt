-- One Tlas, then those after it.
use native.Mathlib.Nat.{add-sub_cancel_left}
use Rattle.std.proofs.Common.{rules}
use Rattle.std.proofs.lemmas.Result.{err_from_is_err_and}
use Rattle.ray_tracing.specs.Submission.{lent_of}
use Rattle.submit_checks.specs.Outcome.{stepped}
use Rattle.submit_build_checks.proofs.Packages.{lent_rest}
use Rattle.submit_build.proofs.Acting.{tlases_stop, tlases_go_on, listed_rest}
use Rattle.submit_build.proofs.build_tlases.Goals as goal

pub returns-in_err-build_tlas : goal.returns-in_err-build_tlas
returns-in_err-build_tlas c =
    let q = err_from_is_err_and c.from_residual.result c.from_residual.ensures.1 in
    let a = c.args in
    let b = c.loop in
    let l = lent_of (stepped a.number) a.blases.now b.tlases b.dependency_counts b.dependencies in
    rw (q.1, q.2) (tlases_stop a.number a.lists.now c.loop.at c.loop.counter a.tlas_count l _ _ c.loop-test.true c.loop.invariant.same (rw add-sub_cancel_left at c.build_tlas.ensures) c.in_err-build_tlas.was)

pub loop-preserved : goal.loop-preserved
loop-preserved c =
    let a = c.args in
    let b = c.loop in
    let l = lent_of (stepped a.number) a.blases.now b.tlases b.dependency_counts b.dependencies in
    record {
      lent = lent_rest _ _ _ _ c.loop-test.true c.loop.invariant.lent;
      listed = listed_rest _ _ _ _ _ _ c.loop-test.true c.loop.invariant.listed;
      t_len = search rules;
      c_len = search rules;
      d_len = search rules;
      same = tlases_go_on a.number a.lists.now c.loop.at c.loop.counter a.tlas_count l _ _ c.loop-test.true c.loop.invariant.same (rw add-sub_cancel_left at c.build_tlas.ensures) c.in_ok-build_tlas.was;
    }
