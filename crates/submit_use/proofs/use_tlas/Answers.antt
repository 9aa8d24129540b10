-- The list is what the use is judged by.
use native.Mathlib.Nat.{add-sub_cancel_left}
use Rattle.std.proofs.Common.{refl, ne_eqb}
use Rattle.ray_tracing.specs.Submission.{lent_of, list_in}
use Rattle.submit_use.proofs.Laws.{tlas-number}
use Rattle.submit_use.proofs.use_tlas.Goals as goal

pub returns : goal.returns
unfolding list_in
returns c =
    let a = c.args in
    let l = lent_of 0 a.blases.now a.tlases.now a.dependency_counts.now a.dependencies.now in
    let n = tlas-number l a.tlas.0 c.tlas_at-own.ensures in
    rw (n, ne_eqb _ _ c.if-own-eq0.false) (rw add-sub_cancel_left at (c.use_list.ensures l refl n))
