-- `report::put_built` meets its contract: the arrays have room for whatever is built.
use native.Mathlib.Omega.{arith}
use mathlib.Core.Path.{ap}
use Rattle.ray_tracing.specs.declared.Written.{Written}
use Rattle.ray_tracing.specs.Plan.{lent_tables}
use Rattle.report_plan.proofs.Room.{rooms, roomy}
use Rattle.report.proofs.Answers.{lists-fit, same-lengths, built-lines, built-refusal}
use borrow.Author.Rules.{rules}
use Rattle.report.proofs.put_built.Goals as goal

pub put_answer-requires-clause-in_bounds : goal.put_answer-requires-clause-in_bounds
put_answer-requires-clause-in_bounds c =
    let a = c.args in
    let builds = c.build_acceleration_structures-built.ensures.built in
    let same = same-lengths a.counter (lent_tables a.tables.now) rooms a.actions.now roomy builds.answer builds.left in (
      omega (arith, ap (λ (w : Written). w.blas_offsets) same, roomy.blas-offsets),
      omega (arith, ap (λ (w : Written). w.tlas_offsets) same, roomy.tlas-offsets),
    )

pub put_answer-requires-clause-in_bounds_2 : goal.put_answer-requires-clause-in_bounds_2
put_answer-requires-clause-in_bounds_2 c =
    let a = c.args in
    let x = lent_tables a.tables.now in
    let builds = c.build_acceleration_structures-built.ensures.built in
    let same = same-lengths a.counter x rooms a.actions.now roomy builds.answer builds.left in
    let fit = lists-fit a.counter x rooms a.actions.now roomy builds.answer builds.left in (
      omega (arith, ap (λ (w : Written). w.staging_ranges) same, roomy.staging-ranges),
      omega (arith, ap (λ (w : Written). w.lists) same, fit),
    )

pub returns : goal.returns
returns c =
    let a = c.args in
    let x = lent_tables a.tables.now in
    let builds = c.build_acceleration_structures-built.ensures.built in
    let put = c.put_answer.ensures in
    record {
      put = rw (built-lines a.counter x rooms a.actions.now roomy builds.answer builds.left) at put.put;
      refuses = rw (built-refusal a.counter x rooms a.actions.now roomy builds.answer builds.left) at put.refuses;
    }
