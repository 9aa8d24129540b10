-- `report::put_report` meets its contract, by what the sheet is read as.
use mathlib.Core.Path.{sym, ap, ◌∙◌}
use Rattle.ray_tracing.specs.Causes.{reading_of}
use Rattle.ray_tracing.specs.Report.{report}
use Rattle.ray_tracing.specs.Explain.{refusal_in}
use borrow.Author.Rules.{rules}
use Rattle.report.proofs.put_report.Goals as goal

pub put_accepted-requires : goal.put_accepted-requires
put_accepted-requires c = (sym c.read_sheet.ensures ∙ ap reading_of c.in-Ok.is, search rules)

pub returns-in-Ok : goal.returns-in-Ok
unfolding report refusal_in
returns-in-Ok c =
    record {
      put = rw (← c.read_sheet.ensures, c.in-Ok.is) c.put_accepted.ensures.put;
      refuses = rw (← c.read_sheet.ensures, c.in-Ok.is) c.put_accepted.ensures.refuses;
    }

pub returns-in-Err : goal.returns-in-Err
unfolding report refusal_in
returns-in-Err c =
    record {
      put = rw (← c.read_sheet.ensures, c.in-Err.is) c.put_refused.ensures.put;
      refuses = rw (← c.read_sheet.ensures, c.in-Err.is) c.put_refused.ensures.refuses;
    }
