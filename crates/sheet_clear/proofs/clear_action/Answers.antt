-- `sheet_clear::clear_action` meets its contract: the bytes after the first go by it.
use native.Mathlib.Nat.{add-zero}
use mathlib.Core.Bool.{not}
use mathlib.Core.Path.{refl}
use mathlib.Core.List.{[], ◌∷◌}
use lib.Dec.{eqb}
use Rattle.sheet_clear.proofs.Runs.{group, end, record-cleared}
use Rattle.sheet_clear.proofs.clear_action.Goals as goal

pub returns : goal.returns
returns c v seen =
    let a = c.args in
    record-cleared
    v
    9
    seen
    (1 ∷ [])
    (group (not (eqb c.u8_at-operand.result 1)) (2 ∷ []) end)
    a.out.now
    a.at
    a.at
    1
    c.requires
    refl
    refl
    (rw (add-zero, c.u8_at-operand.ensures))
    (_, (c.clear_unless.ensures, refl))
