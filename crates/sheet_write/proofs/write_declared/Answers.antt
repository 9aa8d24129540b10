-- `sheet_write::write_declared` meets its contract: what is put by Blas and then made canonical is the canonical table.
use mathlib.Core.Path.{refl}
use native.Mathlib.Omega.{arith}
use Rattle.sheet_write.proofs.Tables.{blases-inside, placed-room, placed-inside, declared-written}
use Rattle.sheet_write.proofs.write_declared.Goals as goal

pub put_by_blas-requires : goal.put_by_blas-requires
put_by_blas-requires c =
    ((c.requires.0.0, c.requires.0.1), blases-inside c.args.version _ _ c.requires.1)

pub clear_records-requires : goal.clear_records-requires
clear_records-requires c =
    let e = c.put_by_blas.ensures _ in
    let f = c.requires.1 in
    let h = c.requires.0.0 in
    ((omega arith, refl), (placed-room c.args.version _ _ f _ _ _ h e, λ _. placed-inside c.args.version _ _ f _ _ _ h e))

pub returns : goal.returns
returns c =
    declared-written c.args.version _ _ c.requires.1 _ _ _ c.requires.0.0 (c.put_by_blas.ensures _) _ c.clear_records.ensures
