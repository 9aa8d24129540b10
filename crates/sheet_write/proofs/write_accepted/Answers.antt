-- `sheet_write::write_accepted` meets its contract: the sections that are left, written from here, make the whole.
use Prim.Native.Nat.{◌+◌, ◌-◌, ◌<◌}
use native.Mathlib.Omega.{arith}
use mathlib.Core.Path.{◌≡◌, sym, ◌∙◌}
use lib.Seq.{sets}
use Rattle.wire.specs.Wire.{le_at, le_bytes}
use Rattle.ray_tracing.proofs.Instances.{Below}
use Rattle.ray_tracing.proofs.Reading.{from_more}
use Rattle.sheet_write.proofs.Sections.{sections_next, header-put, sheet-made}
use Rattle.sheet_write.proofs.write_accepted.Goals as goal

-- the header is there

pub loop-k-preserved : goal.loop-k-preserved
loop-k-preserved c =
    let s = c.args.sheet.now in
    let f = c.requires.0 in
    let inv = c.loop-k.invariant in
    let k = c.loop-k.k in
    let h : k < 9 = omega arith in
    let pe = inv.0.1 in
    let done = c.write_section-end.ensures in
    ((rw pe (sym (from_more s k)), done.0), sections_next s f c.loop-k.out _ k h (rw pe at done.1) ∙ inv.1)

pub returns : goal.returns
returns c =
    let s = c.args.sheet.now in
    let f = c.requires.0 in
    let inv = c.loop-k.invariant in
    let nine : c.loop-k.k ≡ 9 = omega arith in
    let b : Below s = λ i. (c.type_inv.sheet i).fits in
    let z : 1 + c.size_of-p.result - 1 ≡ 12 = omega (arith, c.size_of-p.ensures) in
    -- the version byte is that of the sheet
    let version : c.put_u8.new.s ≡ sets c.args.out.now 0 (le_bytes 1 (le_at 1 s 0)) = rw (← c.u8_at-version.ensures) c.put_u8.ensures in
    sheet-made s f b _ _ _ (header-put s f b _ _ _ version (rw z at c.put_bytes.ensures)) (rw nine at inv.1)
