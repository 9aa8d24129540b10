-- `report_plan::put_plan` meets its contract: three writes end to end are one.
use Rattle.std.proofs.Common.{arith, [], ◌∷◌}
use Rattle.ray_tracing.specs.Report.{word_scratch}
use Rattle.ray_tracing.specs.Parts.{entries_in}
use Rattle.report_text.proofs.Laws.{put_then, put_same_length, line-most}
use Rattle.report_plan.proofs.Laws.{blas_lines-most}
use Rattle.report_plan.proofs.put_plan.Goals as goal

pub put_blas_lines-next-requires-clause-word_blas_in_bounds : goal.put_blas_lines-next-requires-clause-word_blas_in_bounds
put_blas_lines-next-requires-clause-word_blas_in_bounds c =
    let scratch = c.put_line-end.ensures in
    omega (arith, c.requires, put_same_length scratch, scratch.ends, line-most word_scratch (c.in-Some.size ∷ []))

pub put_tlas_lines-requires-clause-word_tlas_in_bounds : goal.put_tlas_lines-requires-clause-word_tlas_in_bounds
put_tlas_lines-requires-clause-word_tlas_in_bounds c =
    let blases = c.put_blas_lines-next.ensures in
    let scratch = c.put_line-end.ensures in
    let entries = c.args.entries.now in
    omega (
      arith,
      c.requires,
      put_same_length scratch,
      scratch.ends,
      line-most word_scratch (c.in-Some.size ∷ []),
      put_same_length blases,
      blases.ends,
      blas_lines-most entries c.args.blas_offsets.now 0 (entries_in entries),
    )

pub returns : goal.returns
returns c =
    rw c.in-Some.is
    (put_then c.put_line-end.ensures (put_then c.put_blas_lines-next.ensures c.put_tlas_lines.ensures))
