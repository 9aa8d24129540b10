-- `report::report` meets its contract: the text is put where it fits.
use Rattle.report_text.proofs.Laws.{put_within, put_taken, count_is}
use Rattle.report.proofs.Lengths.{report-most}
use Rattle.report.proofs.report.Goals as goal

pub slice_bounds-text-end : goal.slice_bounds-text-end
slice_bounds-text-end c = put_within c.put_report-n.ensures.put (report-most _)

pub slice_bounds-put_text-end : goal.slice_bounds-put_text-end
slice_bounds-put_text-end c = count_is _ _ (put_within c.put_report-n.ensures.put (report-most _))

pub returns : goal.returns
returns c = rw (put_taken c.put_report-n.ensures.put (report-most _)) at c.put_text.ensures
