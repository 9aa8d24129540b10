-- `sheet_clear::clear_declared_of` meets its contract: past the first seven bytes the fields are of triangles.
use native.Mathlib.Nat.{add-zero}
use Rattle.std.proofs.Common.{◌≡◌, ◌+◌, ◌&&◌}
use mathlib.Core.Bool.{not}
use mathlib.Core.Path.{refl}
use mathlib.Core.List.{[], ◌∷◌}
use lib.Dec.{eqb}
use Rattle.wire.specs.Wire.{le_at}
use Rattle.sheet_clear.proofs.Runs.{group, end, record-cleared}
use Rattle.sheet_clear.proofs.clear_declared_of.Goals.{then-triangles, else-triangles}
use Rattle.sheet_clear.proofs.clear_declared_of.Goals as goal

pub returns : goal.returns
returns c v seen known =
    let a = c.args in
    let counted : c.if-triangles.counted ≡ (not a.boxes && not (eqb (le_at 1 a.out.now (a.at + 13)) 0)) =
    elim c.if-triangles.branch [
      | then-triangles w ↦ rw (w.if-triangles.true, ← w.u8_at.ensures) w.counted-is
      | else-triangles w ↦ rw w.if-triangles.false (rw w.if-triangles.false at w.counted-is)
    ] in
    record-cleared
    v
    3
    seen
    (2 ∷ 1 ∷ 4 ∷ [])
    (group (not a.boxes) (1 ∷ 2 ∷ 2 ∷ 1 ∷ 1 ∷ []) (group c.if-triangles.counted (4 ∷ []) end))
    a.out.now
    a.at
    a.at
    7
    c.requires
    refl
    refl
    (rw (add-zero, counted, ← known))
    (_, (c.clear_unless.ensures, (_, (c.clear_unless-2.ensures, refl))))
