-- `sheet_clear::clear_drawn` meets its contract: what the entries that are left draw, cleared, is what all was to be.
use Prim.Native.Nat.{◌+◌, ◌-◌, ◌/◌, ◌<◌}
use native.Mathlib.Omega.{arith}
use mathlib.Core.Path.{◌≡◌, refl, ◌∙◌}
use mathlib.Core.List.{flatten}
use lib.ListN.{length}
use Rattle.ray_tracing.specs.Layout.{size_in}
use Rattle.ray_tracing.specs.Meaning.{drawn_from}
use Rattle.sheet_clear.proofs.Records.{drawn-next, drawn-there}
use Rattle.sheet_clear.proofs.clear_drawn.Goals as goal

pub clear_records-requires : goal.clear_records-requires
clear_records-requires c =
    let l = c.loop in
    let left = length c.args.entries.now / 5 - l.counter in
    let more : 0 < left = omega arith in
    -- the records of the next entry are there
    ((omega arith, refl), (rw c.u16_at-n.ensures (drawn-there _ l.q left (size_in c.args.version 6) l.p _ more l.invariant.0).0, λ e. absurd (omega arith)))

pub loop-preserved : goal.loop-preserved
loop-preserved c =
    let v = c.args.version in
    let e = c.args.entries.now in
    let l = c.loop in
    let left = length e / 5 - l.counter in
    let more : 0 < left = omega arith in
    let next : length e / 5 - (l.counter + 1) ≡ left - 1 = omega arith in
    let there = drawn-there e l.q left (size_in v 6) l.p (length l.out) more l.invariant.0 in
    let made = c.clear_records.ensures in
    rw (next, c.size_of-size.ensures, c.u16_at-n.ensures) (
      omega (arith, there.1),
      (
        omega arith,
        drawn-next v e l.q l.out l.p left there.0 more (made ∙ rw (c.u8_at-boxes.ensures, c.u16_at-n.ensures))
            ∙ l.invariant.1.1,
      ),
    )

pub returns : goal.returns
unfolding drawn_from flatten
returns c =
    let z : length c.args.entries.now / 5 - c.loop.counter ≡ 0 = omega arith in
    rw z at c.loop.invariant.1.1
