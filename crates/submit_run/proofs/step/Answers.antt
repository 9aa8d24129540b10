-- An action by its kind: a Build, a use, or a mark as a Build of its own lists.
use Rattle.std.proofs.Common.{sym, ap, ◌∙◌}
use Rattle.ray_tracing.specs.Submission.{lent_with, lent_buffers}
use Rattle.submit_checks.proofs.Start.{ready, judge_at}
use Rattle.submit_run.specs.Cells.{id_cause}
use Rattle.submit_run.proofs.ByKind.{as_taken, kind_build, kind-use, mark_build, is_id, operand-refused}
use Rattle.submit_run.proofs.step.Goals as goal

pub returns-then-kind-eq-BUILD-clause-acts : goal.returns-then-kind-eq-BUILD-clause-acts
returns-then-kind-eq-BUILD-clause-acts c =
    let s = c.args.lists.now in
    let x = c.args.cells in
    let k = c.taken_for-kind in
    rw (as_taken s x.kind x.operand x.blas_count x.tlas_count k.ensures, kind_build s k.result x.operand x.blas_count x.tlas_count c.if-kind-eq-BUILD.true) c.build_action-built.ensures.acts

pub returns-in-Err-clause-acts : goal.returns-in-Err-clause-acts
returns-in-Err-clause-acts c =
    let s = c.args.lists.now in
    let x = c.args.cells in
    let k = c.taken_for-kind in
    let l = lent_with c.args.counter (lent_buffers c.args.buffers.now) in
    let r = ready c.args.counter (lent_buffers c.args.buffers.now) c.requires in
    rw (as_taken s x.kind x.operand x.blas_count x.tlas_count k.ensures)
    (operand-refused l r.few-blases r.few-tlases s k.result x.operand x.blas_count x.tlas_count c.if-kind-eq-BUILD.false c.judge_operand.ensures.cause c.in-Err.is)

pub use_lent-requires : goal.use_lent-requires
use_lent-requires c = sym (judge_at _ _) ∙ c.requires

pub returns-then-kind-eq-USE_TLAS-clause-acts : goal.returns-then-kind-eq-USE_TLAS-clause-acts
returns-then-kind-eq-USE_TLAS-clause-acts c =
    let s = c.args.lists.now in
    let x = c.args.cells in
    let k = c.taken_for-kind in
    rw (as_taken s x.kind x.operand x.blas_count x.tlas_count k.ensures, kind-use s k.result x.operand x.blas_count x.tlas_count c.if-kind-eq-BUILD.false c.if-kind-eq-USE_TLAS.true, ← c.in-Ok.ensures.id)
    (c.use_lent.ensures _)

pub returns-clause-acts : goal.returns-clause-acts
returns-clause-acts c =
    let s = c.args.lists.now in
    let x = c.args.cells in
    let k = c.taken_for-kind in
    let i = is_id k.result x.operand (sym c.judge_operand.ensures.cause ∙ ap id_cause c.in-Ok.is) in
    rw (as_taken s x.kind x.operand x.blas_count x.tlas_count k.ensures, ← mark_build s k.result x.operand x.blas_count x.tlas_count i c.if-kind-eq-BUILD.false c.if-kind-eq-USE_TLAS.false c.from.ensures c.from-2.ensures, ← c.in-Ok.ensures.id)
    c.build_action-marked.ensures.acts
