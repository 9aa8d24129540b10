-- `sheet_write::write_sheet` meets its contract, by what the sheet is read as.
use mathlib.Core.Path.{sym, ap, ◌∙◌}
use Rattle.std.proofs.lemmas.Result.{err_from_is_err_and}
use Rattle.ray_tracing.specs.Causes.{reading_of}
use Rattle.ray_tracing.proofs.Instances.{Below}
use Rattle.sheet_write.proofs.Calls.{refused-call, call-judged, short-call, written-call}
use Rattle.sheet_write.proofs.write_sheet.Goals as goal

pub returns-in_err-read_sheet : goal.returns-in_err-read_sheet
returns-in_err-read_sheet c =
    let p = err_from_is_err_and c.from_residual.result c.from_residual.ensures.1 in
    rw (p.1, p.2) (refused-call _ _ _ _ (sym (ap reading_of c.in_err-read_sheet.was) ∙ c.read_sheet.ensures))

pub returns-then-out-sheet : goal.returns-then-out-sheet
returns-then-out-sheet c =
    let s = c.args.sheet.now in
    let e = sym (ap reading_of c.in_ok-read_sheet.was) ∙ c.read_sheet.ensures in
    let b : Below s = λ i. (c.type_inv.sheet i).fits in
    short-call s _ _ e b c.if-out-sheet.true

pub write_accepted-requires : goal.write_accepted-requires
write_accepted-requires c =
    let s = c.args.sheet.now in
    let e = sym (ap reading_of c.in_ok-read_sheet.was) ∙ c.read_sheet.ensures in
    let b : Below s = λ i. (c.type_inv.sheet i).fits in
    (call-judged s c.args.out.now _ e b, c.if-out-sheet.false)

pub returns : goal.returns
returns c =
    let s = c.args.sheet.now in
    let e = sym (ap reading_of c.in_ok-read_sheet.was) ∙ c.read_sheet.ensures in
    let b : Below s = λ i. (c.type_inv.sheet i).fits in
    written-call s _ _ e b c.if-out-sheet.false _ c.write_accepted.ensures
