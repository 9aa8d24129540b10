-- Laws of mentions: what is not refused is in its table; the first that refuses decides.
use mathlib.Core.Path.{◌≡◌, refl, sym, ap, ◌∙◌}
use mathlib.Core.Bool.{Bool, true, false}
use mathlib.Core.List.{List}
use Prim.Native.Nat.{ℕ, zero, suc, ◌/◌, ◌<◌}
use native.Mathlib.Omega.{arith}
use lib.ListN.{length}
use lib.Dec.{leb}
use borrow.Author.Tests.{leb-false}
use Rattle.ray_tracing.specs.Guard.{refuse}
use Rattle.ray_tracing.specs.Mentions.{◌else◌, mention}

pub mention-inside : (w : ℕ) (table : List ℕ) (id : ℕ) → mention w table id ≡ 0 → id < length table / w
unfolding refuse
mention-inside w table id e = go (leb (length table / w) id) refl
  where
    go : (b : Bool) → leb (length table / w) id ≡ b → id < length table / w
    go false p = leb-false (length table / w) id p
    go true p = let z : ◌≡◌ {A = ℕ} 6 0 = ap (λ (b : Bool). refuse b 6 0) (sym p) ∙ e in absurd (omega arith)

-- what refuses first, and what is left where that does not

pub else_first : (m n k : ℕ) → m ≡ suc k → suc k ≡ (m else n)
else_first m n k e = sym (ap (λ (x : ℕ). x else n) e)

pub else_rest : (m n : ℕ) → m ≡ 0 → n ≡ (m else n)
else_rest m n e = sym (ap (λ (x : ℕ). x else n) e)

pub else_zero : (m n : ℕ) → (m else n) ≡ 0 → (m ≡ 0) × (n ≡ 0)
else_zero zero n e = (refl, e)
else_zero (suc m) n e = absurd (omega arith)
