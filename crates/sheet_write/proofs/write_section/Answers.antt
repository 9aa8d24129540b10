-- `sheet_write::write_section` meets its contract: the places are those of the accepted sheet, and the count and the table follow on.
use Prim.Native.Nat.{◌+◌, ◌-◌, ◌*◌}
use native.Mathlib.Omega.{arith}
use mathlib.Core.Path.{◌≡◌, sym, ap}
use lib.ListN.{length, take, drop}
use lib.Seq.{length-sets}
use Rattle.wire.specs.Wire.{le_at}
use Rattle.ray_tracing.specs.Layout.{size_in}
use Rattle.ray_tracing.specs.Reading.{version_in, past, table}
use Rattle.ray_tracing.proofs.Instances.{Below}
use Rattle.ray_tracing.proofs.Reading.{past_more}
use Rattle.sheet_write.proofs.Sections.{whole, table_here, table-length, lent-here, few-blases, section-made}
use Rattle.sheet_write.proofs.write_section.Goals as goal

pub write_table-requires : goal.write_table-requires
write_table-requires c =
    let s = c.args.sheet.now in
    let k = c.args.k in
    let f = c.requires.0.0 in
    let h = c.requires.1.0 in
    let pe = c.requires.1.1.1 in
    let be = c.requires.1.1.0 in
    let m : c.u16_at-n.result * c.size_of.result ≡ le_at 2 s (past s k) * size_in (version_in s) (k + 1) = cc in
    let before : take (c.args.p - c.args.b) (drop c.args.b s) ≡ table s k = rw (be, pe) in
    let here : take (c.args.p + 2 + c.u16_at-n.result * c.size_of.result - (c.args.p + 2)) (drop (c.args.p + 2) s) ≡ table s (k + 1) =
    rw (m, pe) (table_here s f k h) in
    let l = simp length-sets at (ap length c.put_bytes.ensures) in
    let version = c.version_in-version.ensures in
    rw (version, before, here) (
      (omega (arith, h), few-blases s f k h),
      (omega (arith, whole s f k h, table-length s f k h, l, pe, c.requires.0.1), lent-here s f k h),
    )

pub returns : goal.returns
returns c =
    let s = c.args.sheet.now in
    let k = c.args.k in
    let f = c.requires.0.0 in
    let h = c.requires.1.0 in
    let pe = c.requires.1.1.1 in
    let be = c.requires.1.1.0 in
    let m : c.u16_at-n.result * c.size_of.result ≡ le_at 2 s (past s k) * size_in (version_in s) (k + 1) = cc in
    let before : take (c.args.p - c.args.b) (drop c.args.b s) ≡ table s k = rw (be, pe) in
    let here : take (c.args.p + 2 + c.u16_at-n.result * c.size_of.result - (c.args.p + 2)) (drop (c.args.p + 2) s) ≡ table s (k + 1) =
    rw (m, pe) (table_here s f k h) in
    let b : Below s = λ i. (c.type_inv.sheet i).fits in
    let version = c.version_in-version.ensures in
    let g = rw (version, here, before) at c.write_table.ensures in (
      rw (m, pe) (sym (past_more s k)),
      rw pe (section-made s f b k h _ _ _ (rw pe at c.put_bytes.ensures) (rw pe at g)),
    )
