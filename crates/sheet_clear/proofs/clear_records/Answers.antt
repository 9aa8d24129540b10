-- `sheet_clear::clear_records` meets its contract: the records that are left, cleared, are what all were to be.
use Prim.Native.Nat.{◌+◌, ◌-◌, ◌≤◌, ◌<◌}
use native.Mathlib.Omega.{arith}
use mathlib.Core.Path.{◌≡◌, ◌∙◌}
use mathlib.Core.List.{flatten}
use lib.ListN.{length}
use Rattle.ray_tracing.specs.Layout.{size_in}
use Rattle.ray_tracing.specs.Reading.{begin}
use Rattle.ray_tracing.specs.Meaning.{records_from}
use Rattle.ray_tracing.proofs.Reading.{one_less}
use Rattle.sheet_clear.proofs.Records.{records_next, blases-next}
use Rattle.sheet_clear.proofs.clear_records.Goals as goal

pub loop-preserved : goal.loop-preserved
loop-preserved c =
    let a = c.args in
    let k = a.section.now in
    let l = c.loop in
    let left = a.n - l.counter in
    let more : 0 < left = omega arith in
    let next : a.n - (l.counter + 1) ≡ left - 1 = omega arith in
    let seen = begin (size_in k.version (k.number - 1)) k.before.now a.boxes in
    -- the next record is there
    let there : l.p + size_in k.version k.number ≤ length l.out = omega (arith, one_less left (size_in k.version k.number) more) in
    let made = c.clear_record.ensures in
    rw (next, c.size_of-size.ensures) (
      omega (arith, one_less left (size_in k.version k.number) more),
      (
        blases-next k.version k.number seen k.before.now l.out l.p left there made l.invariant.1.0,
        records_next k.version k.number seen l.out l.p left there more made ∙ l.invariant.1.1,
      ),
    )

pub returns : goal.returns
unfolding records_from flatten
returns c =
    let z : c.args.n - c.loop.counter ≡ 0 = omega arith in
    rw z at c.loop.invariant.1.1
