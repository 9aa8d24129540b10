-- `sheet_clear::clear_record` meets its contract: the section picks the function.
use Prim.Native.Nat.{ℕ}
use native.Mathlib.Omega.{arith}
use mathlib.Core.Path.{◌≡◌, refl}
use mathlib.Core.Bool.{true}
use borrow.Author.Tests.{eqb-true, ne_eqb}
use Rattle.ray_tracing.specs.Layout.{size}
use Rattle.ray_tracing.specs.Reading.{begin}
use Rattle.sheet_clear.specs.Cleared.{has_unused}
use Rattle.sheet_clear.proofs.clear_record.Goals as goal

-- the last arm is section 9's
last_is : (k : ℕ) → has_unused k ≡ true → (k ≡ 3 → ⊥) → (k ≡ 6 → ⊥) → (k ≡ 8 → ⊥) → k ≡ 9
last_is k h a b d = eqb-true k 9 (rw (ne_eqb k 3 a, ne_eqb k 6 b, ne_eqb k 8 d) at h)

pub returns-in-3 : goal.returns-in-3
returns-in-3 c = rw c.in-3.is (c.clear_declared.ensures c.args.section.now.version c.args.boxes)

pub returns-in-6 : goal.returns-in-6
returns-in-6 c = rw c.in-6.is (c.clear_geometry.ensures (begin (size 5) c.args.section.now.before.now c.args.boxes) refl)

pub returns-in-8 : goal.returns-in-8
returns-in-8 c = rw c.in-8.is (c.clear_slot.ensures c.args.section.now.version (begin (size 7) c.args.section.now.before.now c.args.boxes))

pub returns-in_default : goal.returns-in_default
returns-in_default c =
    let ninth : c.args.section.now.number ≡ 9 = last_is c.args.section.now.number c.requires.0.1 (λ e. omega arith) (λ e. omega arith) (λ e. omega arith) in
    rw ninth (c.clear_action.ensures c.args.section.now.version (begin (size 8) c.args.section.now.before.now c.args.boxes))
