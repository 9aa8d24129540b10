-- `sheet_convert::Conversion::write_converted` meets its contract: what it puts are the four parts of the converted sheet.
use Prim.Native.Nat.{◌+◌, ◌-◌, ◌*◌}
use native.Mathlib.Omega.{arith}
use mathlib.Core.Path.{◌≡◌}
use lib.ListN.{length, take, drop, length-drop}
use lib.Seq.{take_all}
use Rattle.ray_tracing.specs.Layout.{size_in}
use Rattle.sheet_convert.proofs.Calls.{whole_written}
use Rattle.sheet_convert.proofs.Conversion.write_converted.Goals as goal

pub returns : goal.returns
returns c =
    let a = c.args in
    let k = a.self.now in
    let s = k.sheet.now in
    let t = c.requires.taken in
    let z = c.geometry_size.ensures in
    let end = k.start + k.count * size_in k.from 6 in
    let all : take (length s - end) (drop end s) ≡ drop end s = take_all (length s - end) (drop end s) (rw length-drop (omega arith)) in
    whole_written t a.out.now _ _ _
    (rw c.from.ensures at c.put_u8.ensures)
    c.put_bytes.ensures
    c.convert_records.ensures
    (rw (c.geometry_size-2.ensures, z, all) at c.put_bytes-2.ensures)
