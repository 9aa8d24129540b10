-- `explain::put_explained` meets its contract: the words are put where the report ends.
use Rattle.std.proofs.Common.{arith}
use Rattle.ray_tracing.specs.Explain.{explained}
use Rattle.report_text.proofs.Laws.{put_then, put_same_length}
use Rattle.report.proofs.Lengths.{report-most}
use Rattle.explain.proofs.put_explained.Goals as goal

pub put_words-requires : goal.put_words-requires
put_words-requires c =
    let put = c.put_report-printed.ensures.put in
    omega (arith, c.requires, put_same_length put, put.ends, report-most c.args.sheet.now)

pub returns : goal.returns
unfolding explained
returns c =
    let report = c.put_report-printed.ensures in
    put_then report.put (rw report.refuses.words at c.put_words.ensures)
