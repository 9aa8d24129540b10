-- `sheet_clear::clear_geometry` meets its contract: past the buffer the fields are of triangles, some with a buffer.
use Prim.Native.Nat.{◌+◌, ◌-◌}
use native.Mathlib.Omega.{arith}
use Rattle.std.proofs.Common.{◌&&◌}
use mathlib.Core.Bool.{not}
use mathlib.Core.Path.{◌≡◌, refl}
use mathlib.Core.List.{[], ◌∷◌}
use lib.Dec.{eqb}
use Rattle.wire.specs.Wire.{le_at}
use Rattle.ray_tracing.specs.Layout.{offset_width}
use Rattle.ray_tracing.proofs.Versions.{offset-width}
use Rattle.sheet_clear.proofs.Runs.{group, end, record-cleared}
use Rattle.sheet_clear.proofs.clear_geometry.Goals.{then-triangles, else-triangles, then-triangles-2, else-triangles-2, then-indexed, else-indexed, then-triangles-3, else-triangles-3, then-transformed, else-transformed}
use Rattle.sheet_clear.proofs.clear_geometry.Goals as goal

pub returns : goal.returns
returns c seen known =
    let a = c.args in
    let at = a.at in
    let s = a.out.now in
    let w = offset_width a.version in
    -- where the record would begin if its offset were a u32
    let p = at + (c.geometry_size.result - 44) in
    let q : p + 4 ≡ at + w = omega (arith, c.geometry_size.ensures, offset-width a.version) in
    let p21 : p + 21 ≡ at + (5 + w + 8 + 2 + 1 + 1) = omega (arith, q) in
    let p23 : p + 23 ≡ at + (5 + w + 8 + 2 + 1 + 1 + 2) = omega (arith, q) in
    let p28 : p + 28 ≡ at + (5 + w + 8 + 2 + 1 + 1 + 2 + 1 + 4) = omega (arith, q) in
    let p33 : p + 33 ≡ at + (5 + w + 8 + 2 + 1 + 1 + 2 + 1 + 4 + 1 + 4) = omega (arith, q) in
    let p35 : p + 35 ≡ at + (5 + w + 8 + 2 + 1 + 1 + 2 + 1 + 4 + 1 + 4 + 2) = omega (arith, q) in
    let counted : c.if-triangles.counted ≡ (not a.boxes && not (eqb (le_at 1 s (p + 23)) 0)) =
    elim c.if-triangles.branch [
      | then-triangles w ↦ rw (w.if-triangles.true, ← w.u8_at.ensures) w.counted-is
      | else-triangles w ↦ rw w.if-triangles.false (rw w.if-triangles.false at w.counted-is)
    ] in
    let indexed : c.if-triangles-2.indexed ≡ (not a.boxes && not (eqb (le_at 2 s (p + 21)) 65535)) =
    elim c.if-triangles-2.branch [
      | then-triangles-2 w ↦ rw (w.if-triangles-2.true, ← w.u16_at.ensures) w.indexed-is
      | else-triangles-2 w ↦ rw w.if-triangles-2.false (rw w.if-triangles-2.false at w.indexed-is)
    ] in
    let first : c.if-indexed.first ≡ (c.if-triangles-2.indexed && not (eqb (le_at 1 s (p + 28)) 0)) =
    elim c.if-indexed.branch [
      | then-indexed w ↦ rw (w.if-indexed.true, ← w.u8_at-then-indexed.ensures) w.first-is
      | else-indexed w ↦ rw w.if-indexed.false (rw w.if-indexed.false at w.first-is)
    ] in
    let transformed : c.if-triangles-3.transformed ≡ (not a.boxes && not (eqb (le_at 2 s (p + 33)) 65535)) =
    elim c.if-triangles-3.branch [
      | then-triangles-3 w ↦ rw (w.if-triangles-3.true, ← w.u16_at-then-triangles-3.ensures) w.transformed-is
      | else-triangles-3 w ↦ rw w.if-triangles-3.false (rw w.if-triangles-3.false at w.transformed-is)
    ] in
    let offset : c.if-transformed.offset ≡ (c.if-triangles-3.transformed && not (eqb (le_at 1 s (p + 35)) 0)) =
    elim c.if-transformed.branch [
      | then-transformed w ↦ rw (w.if-transformed.true, ← w.u8_at-then-transformed.ensures) w.offset-is
      | else-transformed w ↦ rw w.if-transformed.false (rw w.if-transformed.false at w.offset-is)
    ] in
    record-cleared
    a.version
    6
    seen
    (1 ∷ 4 ∷ w ∷ 8 ∷ 2 ∷ [])
    (group (not a.boxes) (1 ∷ 1 ∷ 2 ∷ 1 ∷ [])
    (group c.if-triangles.counted (4 ∷ [])
    (group c.if-triangles-2.indexed (1 ∷ [])
    (group c.if-indexed.first (4 ∷ [])
    (group (not a.boxes) (2 ∷ [])
    (group c.if-triangles-3.transformed (1 ∷ [])
    (group c.if-transformed.offset (8 ∷ [])
    end)))))))
    a.out.now
    at
    p
    19
    c.requires
    (omega arith)
    (omega (arith, q))
    (rw (
      offset,
      first,
      transformed,
      indexed,
      counted,
      p21,
      p23,
      p28,
      p33,
      p35,
      ← known,
    ))
    (_, (c.clear_unless.ensures, (_, (c.clear_unless-2.ensures, (_, (c.clear_unless-3.ensures, (_, (c.clear_unless-4.ensures, (_, (c.clear_unless-5.ensures, (_, (c.clear_unless-6.ensures, (_, (c.clear_unless-7.ensures, refl))))))))))))))
