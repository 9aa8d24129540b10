-- `report::put_lines` meets its contract: the line of the build, those of the plan and those of the submission.
use Prim.Native.Nat.{ℕ, ◌≤◌}
use native.Mathlib.Omega.{arith}
use lib.ListN.{length}
use Rattle.std.specs.Prelude.{Option, Some, None}
use Rattle.ray_tracing.specs.Causes.{bare}
use Rattle.ray_tracing.specs.Layout.{layout}
use Rattle.ray_tracing.specs.Plan.{Tables, Outputs, lent_tables, lent_outputs}
use Rattle.ray_tracing.specs.Parts.{entries_in, packages_in}
use Rattle.report_plan.specs.Lines.{recorded_lines, longest_plan}
use Rattle.report_text.proofs.Laws.{put_then, put_same_length}
use Rattle.report_plan.proofs.Laws.{build-most, plan-most}
use Rattle.report.proofs.put_lines.Goals as goal

-- what is there or not is as short as it is
recorded-most :
    (scratch : Option ℕ) (x : Tables) (o : Outputs)
    → entries_in x.entries ≤ (layout 5).most
    → packages_in x.packages ≤ (layout 7).most
    → length (recorded_lines scratch x.entries x.packages o.blas_offsets o.tlas_offsets o.staging_ranges) ≤ longest_plan
recorded-most None x o h k = omega arith
recorded-most (Some size) x o h k = plan-most size x.entries x.packages o.blas_offsets o.tlas_offsets o.staging_ranges h k

pub put_plan-end-requires-clause-packages_in_bounds_2 : goal.put_plan-end-requires-clause-packages_in_bounds_2
put_plan-end-requires-clause-packages_in_bounds_2 c =
    let built = rw c.no_refusal.ensures.numbers at c.put_build_line-built.ensures in (
      omega (arith, c.requires, c.requires.lendable.few-packages),
      omega (arith, c.requires, put_same_length built, built.ends, build-most 0 0 (bare 0)),
    )

pub put_submission-requires-clause-word_next_in_bounds : goal.put_submission-requires-clause-word_next_in_bounds
put_submission-requires-clause-word_next_in_bounds c =
    let built = rw c.no_refusal.ensures.numbers at c.put_build_line-built.ensures in
    let plan = c.put_plan-end.ensures in
    let few = c.requires.lendable in
    omega (
      arith,
      c.requires,
      put_same_length built,
      built.ends,
      build-most 0 0 (bare 0),
      put_same_length plan,
      plan.ends,
      recorded-most c.args.scratch (lent_tables c.args.tables.now) (lent_outputs c.args.outputs.now) few.few-entries few.few-packages,
    )

pub returns : goal.returns
returns c =
    let built = rw c.no_refusal.ensures.numbers at c.put_build_line-built.ensures in
    let submitted = rw c.is_some.ensures at c.put_submission.ensures in
    record { put = put_then built (put_then c.put_plan-end.ensures submitted.put); refuses = submitted.refuses }
