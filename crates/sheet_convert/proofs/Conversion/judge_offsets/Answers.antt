-- `sheet_convert::Conversion::judge_offsets` meets its contract: what is left is judged as the whole.
use Prim.Native.Nat.{ℕ, ◌+◌, ◌-◌, ◌^◌, ◌<◌}
use native.Mathlib.Omega.{arith}
use mathlib.Core.Path.{◌≡◌, sym, ap, ◌∙◌}
use lib.Dec.{ltb}
use Rattle.ray_tracing.specs.Layout.{offset_width, size_in}
use Rattle.ray_tracing.proofs.Reading.{one_less}
use Rattle.sheet_convert.proofs.Laws.{offsets_next, offsets_far, none_left}
use Rattle.sheet_convert.proofs.Conversion.judge_offsets.Goals as goal

pub returns-then-not-offset_fits : goal.returns-then-not-offset_fits
returns-then-not-offset_fits c =
    let a = c.args in
    let k = a.self.now in
    let l = c.loop in
    let left = k.count - l.counter in
    let more : 0 < left = omega arith in
    let e = ap (λ (o : ℕ). ltb o (256 ^ offset_width k.to)) (sym c.offset_at-offset.ensures) ∙ sym c.offset_fits.ensures ∙ c.if-not-offset_fits.true in
    sym (offsets_far k.from k.to k.sheet.now l.p left more e) ∙ l.invariant.1

pub loop-preserved : goal.loop-preserved
loop-preserved c =
    let a = c.args in
    let k = a.self.now in
    let l = c.loop in
    let left = k.count - l.counter in
    let more : 0 < left = omega arith in
    let next : k.count - (l.counter + 1) ≡ left - 1 = omega arith in
    let z = c.geometry_size-size.ensures in
    let e = ap (λ (o : ℕ). ltb o (256 ^ offset_width k.to)) (sym c.offset_at-offset.ensures) ∙ sym c.offset_fits.ensures ∙ c.if-not-offset_fits.false in
    rw (next, z) (
      omega (arith, one_less left (size_in k.from 6) more, l.invariant.0),
      (sym (offsets_next k.from k.to k.sheet.now l.p left more e) ∙ l.invariant.1),
    )

pub returns : goal.returns
returns c =
    let a = c.args in
    let k = a.self.now in
    let l = c.loop in
    sym (none_left k.from k.to k.sheet.now l.p (k.count - l.counter) (omega arith)) ∙ l.invariant.1
