-- `sheet_write::write_records` meets its contract: a copy made canonical where it stands.
use Prim.Native.Nat.{◌/◌}
use mathlib.Core.Path.{◌≡◌}
use lib.ListN.{length}
use Rattle.ray_tracing.specs.Layout.{size_in}
use Rattle.sheet_write.proofs.Tables.{late, records-written}
use Rattle.sheet_write.proofs.write_records.Goals as goal

pub returns : goal.returns
returns c =
    let k = c.args.section.now.number in
    let l = late k c.requires.0.0 c.requires.0.1 in
    let q : c.records_in-n.result ≡ length c.args.table.now / size_in c.args.section.now.version k = cc in
    records-written c.args.section.now.version k c.requires.0.1 l.0.0 l.0.1 _ _ c.requires.1.1 _ _ _ c.requires.1.0 c.put_bytes.ensures _
    (rw q at c.clear_records.ensures)
