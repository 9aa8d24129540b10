-- `sheet_convert::convert` meets its contract, by the version byte and by what the sheet is read as.
use Rattle.std.proofs.Common.{arith, length, ◌≤◌}
use Rattle.std.proofs.lemmas.Grind.{common_steps}
use mathlib.Core.Path.{sym, ap, ◌∙◌}
use Rattle.std.proofs.lemmas.Result.{err_from_is_err_and}
use Rattle.ray_tracing.specs.declared.Sheet.{Sheet}
use Rattle.ray_tracing.specs.Layout.{version_number}
use Rattle.ray_tracing.specs.Causes.{reading_of}
use Rattle.ray_tracing.proofs.Sheets.{accepted_is}
use Rattle.ray_tracing.proofs.Versions.{version-known}
use Rattle.sheet_convert.proofs.Calls.{empty_call, other-call, refused-call, stands}
use Rattle.sheet_convert.proofs.convert.Goals as goal

pub returns-then-is_empty : goal.returns-then-is_empty
returns-then-is_empty c = empty_call c.args.to c.args.sheet.now c.args.out.now (grind (arith, common_steps, c.is_empty.ensures, c.if-is_empty.true))

pub returns-then-u8_at-from : goal.returns-then-u8_at-from
returns-then-u8_at-from c =
    let some : 1 ≤ length c.args.sheet.now = grind (arith, common_steps, c.is_empty.ensures, c.if-is_empty.false) in
    let n = c.from.ensures ∙ ap version_number c.other-from.ensures in
    other-call c.args.to c.args.sheet.now c.args.out.now some
    (λ q. c.if-u8_at-from.true (c.u8_at.ensures ∙ q ∙ sym n))

pub convert_accepted-requires : goal.convert_accepted-requires
convert_accepted-requires c =
    let s = c.args.sheet.now in
    let r = sym (sym (ap reading_of c.in_ok-geometries.was) ∙ c.read_sheet.ensures) in
    let n = sym c.u8_at.ensures ∙ c.if-u8_at-from.false ∙ c.from.ensures in
    let k = version-known s c.other-from.result n in
    let there = stands _ s _ r k in
    let x = accepted_is s c.in_ok-geometries.field-0 r in
    record {
      sheet = c.in_ok-geometries.field-0;
      read = r;
      known = k;
      way = sym c.other-from.ensures;
      there = (ap (λ (y : Sheet). y.geometries.start) x, ap (λ (y : Sheet). y.geometries.count) x);
      starts = rw x there.0;
      inside = rw x there.1;
    }

pub returns-in_err-geometries : goal.returns-in_err-geometries
returns-in_err-geometries c =
    let p = err_from_is_err_and c.from_residual.result c.from_residual.ensures.1 in
    let s = c.args.sheet.now in
    let some : 1 ≤ length s = grind (arith, common_steps, c.is_empty.ensures, c.if-is_empty.false) in
    let n = sym c.u8_at.ensures ∙ c.if-u8_at-from.false ∙ c.from.ensures ∙ ap version_number c.other-from.ensures in
    rw (p.1, p.2)
    (refused-call c.args.to s c.args.out.now some n _ _ (sym (ap reading_of c.in_err-geometries.was) ∙ c.read_sheet.ensures))
