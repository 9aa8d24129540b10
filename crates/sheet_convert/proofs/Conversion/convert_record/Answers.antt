-- `sheet_convert::Conversion::convert_record` meets its contract: what it puts are the three parts of the converted geometry.
use Prim.Native.Nat.{◌+◌, ◌-◌}
use native.Mathlib.Omega.{arith}
use mathlib.Core.Path.{◌≡◌}
use Rattle.sheet_convert.proofs.Laws.{record_written}
use Rattle.sheet_convert.proofs.Conversion.convert_record.Goals as goal

pub returns : goal.returns
returns c =
    let a = c.args in
    let k = a.self.now in
    let s = k.sheet.now in
    let five : a.p + 5 - a.p ≡ 5 = omega arith in
    let wide = c.offset_width.ensures in
    let wanted = c.offset_width-2.ensures in
    let past = a.p + 5 + c.offset_width.result in
    let rest : past + 35 - past ≡ 35 = omega arith in
    record_written k.from k.to s a.p c.requires.from_in_bounds.0 a.q a.out.now _
    (rw five at c.put_bytes.ensures)
    (rw c.offset_at-offset.ensures at c.put_offset.ensures)
    (rw (rest, wide, wanted) at c.put_bytes-2.ensures)
