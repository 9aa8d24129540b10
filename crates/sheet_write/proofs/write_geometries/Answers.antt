-- `sheet_write::write_geometries` meets its contract: a copy made canonical where it stands.
use Rattle.sheet_write.proofs.Tables.{drawn-room, geometries-written}
use Rattle.sheet_write.proofs.write_geometries.Goals as goal

pub clear_drawn-requires : goal.clear_drawn-requires
clear_drawn-requires c =
    drawn-room c.args.version _ _ c.requires.1 _ _ _ c.requires.0 c.put_bytes.ensures

pub returns : goal.returns
returns c =
    geometries-written c.args.version _ _ c.requires.1 _ _ _ c.requires.0 c.put_bytes.ensures _ c.clear_drawn.ensures
