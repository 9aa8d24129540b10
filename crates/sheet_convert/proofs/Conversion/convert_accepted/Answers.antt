-- `sheet_convert::Conversion::convert_accepted` meets its contract, by what judging the offsets finds and by the room.
use mathlib.Core.Path.{sym, ap, ◌∙◌}
use Rattle.std.proofs.lemmas.Result.{err_from_is_err_and}
use Rattle.sheet_convert.specs.Judged.{offsets_of}
use Rattle.sheet_convert.proofs.Calls.{long, far_call, short-call, written-call}
use Rattle.sheet_convert.proofs.Conversion.convert_accepted.Goals as goal

pub returns-in_err-judge_offsets : goal.returns-in_err-judge_offsets
returns-in_err-judge_offsets c =
    let p = err_from_is_err_and c.from_residual.result c.from_residual.ensures.1 in
    rw (p.1, p.2)
    (far_call c.requires c.args.out.now _ (sym (ap offsets_of c.in_err-judge_offsets.was) ∙ c.judge_offsets.ensures))

pub returns-then-out-written : goal.returns-then-out-written
returns-then-out-written c =
    let e = sym (ap offsets_of c.in_ok-judge_offsets.was) ∙ c.judge_offsets.ensures in
    let l = rw (c.geometry_size.ensures, c.geometry_size-2.ensures, long c.requires) at c.if-out-written.true in
    short-call c.requires c.args.out.now e l

pub write_converted-requires : goal.write_converted-requires
write_converted-requires c =
    let e = sym (ap offsets_of c.in_ok-judge_offsets.was) ∙ c.judge_offsets.ensures in
    record { taken = c.requires; fits = sym e; enough = rw (c.geometry_size.ensures, c.geometry_size-2.ensures) at c.if-out-written.false }

pub returns : goal.returns
returns c =
    let e = sym (ap offsets_of c.in_ok-judge_offsets.was) ∙ c.judge_offsets.ensures in
    let l = rw (c.geometry_size.ensures, c.geometry_size-2.ensures, long c.requires) at c.if-out-written.false in
    rw (c.geometry_size.ensures, c.geometry_size-2.ensures, long c.requires)
    (written-call c.requires c.args.out.now e l _ c.write_converted.ensures)
