-- `Refusal::from` of a `SheetRefusal` meets its contract: each cause is one that reading gives.
use Rattle.std.proofs.Common.{◌≡◌, arith}
use Rattle.ray_tracing.specs.Explain.{nothing}
use Rattle.report_words.specs.Refused.{told_of}
use Rattle.report_words.proofs.Refused.{sheet-told}
use Rattle.report_words.proofs.RefusalFromSheetRefusal.from.Goals as goal

pub returns : goal.returns
returns c =
    let none : c.default.result ≡ told_of nothing = grind arith in
    rw (c.sheet_number.ensures, none) (sheet-told c.args.r.error c.args.r.place)
