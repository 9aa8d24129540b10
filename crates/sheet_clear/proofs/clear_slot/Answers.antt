-- `sheet_clear::clear_slot` meets its contract: the bytes after the first go by it.
use native.Mathlib.Nat.{add-zero}
use mathlib.Core.Bool.{not}
use mathlib.Core.Path.{refl}
use mathlib.Core.List.{[], ◌∷◌}
use lib.Dec.{eqb}
use lib.ListN.{replicate}
use Rattle.sheet_clear.proofs.Runs.{group, end, record-cleared}
use Rattle.sheet_clear.proofs.clear_slot.Goals as goal

pub returns : goal.returns
returns c v seen =
    let a = c.args in
    record-cleared
    v
    8
    seen
    (1 ∷ [])
    (group (not (eqb c.u8_at-present.result 0)) (2 ∷ 4 ∷ 1 ∷ replicate 12 4) end)
    a.out.now
    a.at
    a.at
    1
    c.requires
    refl
    refl
    (rw (add-zero, c.u8_at-present.ensures))
    (_, (c.clear_unless.ensures, refl))
