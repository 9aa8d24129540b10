-- `sheet_fits::record_fits` meets its contract: the section picks the test.
use native.Mathlib.Omega.{arith}
use mathlib.Core.Path.{◌≡◌, refl}
use Rattle.ray_tracing.specs.Reading.{begin}
use Rattle.sheet_fits.proofs.record_fits.Goals as goal

pub returns-in-0 : goal.returns-in-0
returns-in-0 c = rw c.in-0.is (c.header_fits.ensures c.args.version (begin c.args.before.now.each c.args.before.now.records.now c.args.boxes))

pub returns-in-1 : goal.returns-in-1
returns-in-1 c = rw c.in-1.is (c.buffer_fits.ensures c.args.version (begin c.args.before.now.each c.args.before.now.records.now c.args.boxes))

pub returns-in-2 : goal.returns-in-2
returns-in-2 c = rw c.in-2.is (c.blas_fits.ensures c.args.version (begin c.args.before.now.each c.args.before.now.records.now c.args.boxes))

pub returns-in-3 : goal.returns-in-3
returns-in-3 c = rw c.in-3.is (c.declared_fits.ensures c.args.version c.args.boxes)

pub returns-in-4 : goal.returns-in-4
returns-in-4 c = rw c.in-4.is (c.tlas_fits.ensures c.args.version (begin c.args.before.now.each c.args.before.now.records.now c.args.boxes))

pub returns-in-5 : goal.returns-in-5
returns-in-5 c = rw c.in-5.is (c.entry_fits.ensures c.args.version (begin c.args.before.now.each c.args.before.now.records.now c.args.boxes))

pub returns-in-6 : goal.returns-in-6
returns-in-6 c = rw c.in-6.is (c.geometry_fits.ensures (begin c.args.before.now.each c.args.before.now.records.now c.args.boxes) refl)

pub returns-in-8 : goal.returns-in-8
returns-in-8 c = rw c.in-8.is (c.slot_fits.ensures c.args.version (begin c.args.before.now.each c.args.before.now.records.now c.args.boxes))

-- the last arm is section 9's
pub returns-in_default : goal.returns-in_default
returns-in_default c =
    let ninth : c.args.section ≡ 9 = omega arith in
    rw ninth (c.action_fits.ensures c.args.version (begin c.args.before.now.each c.args.before.now.records.now c.args.boxes))
