-- `sheet_convert::Conversion::convert_records` meets its contract: the geometries that are left, written from here, make the whole.
use Prim.Native.Nat.{◌+◌, ◌-◌, ◌<◌}
use native.Mathlib.Omega.{arith}
use mathlib.Core.Path.{◌≡◌, sym, ◌∙◌}
use lib.ListN.{drop}
use Rattle.ray_tracing.specs.Layout.{size_in}
use Rattle.ray_tracing.proofs.Reading.{one_less}
use Rattle.sheet_convert.proofs.Laws.{offset_here, offsets_after, records_next, nothing_left}
use Rattle.sheet_convert.proofs.Conversion.convert_records.Goals as goal

pub convert_record-requires-clause-p_bound : goal.convert_record-requires-clause-p_bound
convert_record-requires-clause-p_bound c =
    let a = c.args in
    let k = a.self.now in
    let l = c.loop in
    offset_here k.from k.to k.sheet.now l.p (k.count - l.counter) (omega arith) l.invariant.1.0

pub loop-preserved : goal.loop-preserved
loop-preserved c =
    let a = c.args in
    let k = a.self.now in
    let l = c.loop in
    let left = k.count - l.counter in
    let more : 0 < left = omega arith in
    let next : k.count - (l.counter + 1) ≡ left - 1 = omega arith in
    let z = c.geometry_size-size.ensures in
    let y = c.geometry_size-wanted.ensures in
    rw next (
      (
        omega (arith, z, one_less left (size_in k.from 6) more, l.invariant.0.0),
        omega (arith, y, one_less left (size_in k.to 6) more, l.invariant.0.1),
      ),
      (
        rw z (offsets_after k.from k.to k.sheet.now l.p left more l.invariant.1.0),
        rw (z, y)
            (records_next k.from k.to k.sheet.now l.p (omega (arith, one_less left (size_in k.from 6) more, l.invariant.0.0)) l.q left l.out more c.convert_record.ensures
            ∙ l.invariant.1.1),
      ),
    )

pub returns : goal.returns
returns c =
    let a = c.args in
    let k = a.self.now in
    let l = c.loop in
    sym (nothing_left k.from k.to (drop l.p k.sheet.now) l.out l.q (k.count - l.counter) (omega arith))
    ∙ l.invariant.1.1
