-- Laws of opening slots as they are written. Assumes nothing.
use Prim.Native.Nat.{ℕ, suc, ◌+◌, ◌-◌, ◌≤◌, ◌<◌}
use native.Mathlib.Omega.{arith}
use mathlib.Core.Path.{◌≡◌, refl, ap}
use mathlib.Core.List.{List, [], ◌∷◌, ◌++◌}
use borrow.Author.Tests.{eq-eqb, ne_eqb}
use Rattle.wire.specs.Wire.{le_at}
use Rattle.ray_tracing.specs.Groups.{GroupItem, Slot, item_of, item_size, items_of, group_at, group_of, open_item, open_items, open_below, open_group}
use Rattle.ray_tracing.proofs.Groups.{below-is}

module _ (s : List ℕ) (g i at : ℕ) where
  -- an item that is a slot; and one that names a group before its own
  pub item-slot : (lower : ℕ → List Slot) → le_at 1 s at ≡ 1 → open_item lower (item_of s g i at) ≡ record { group = g; item = i; at = at } ∷ []
  unfolding item_of open_item
  item-slot lower e = rw (eq-eqb (le_at 1 s at) 1 e)

  pub item-named : (c : ℕ → List (GroupItem Slot)) → ¬ (le_at 1 s at ≡ 1) → le_at 2 s (at + 1) < g
      → open_item (open_below c g) (item_of s g i at) ≡ open_group c (le_at 2 s (at + 1))
  unfolding item_of open_item
  item-named c f l = rw (ne_eqb (le_at 1 s at) 1 f) (below-is c g (le_at 2 s (at + 1)) l)

  -- the next of n items, and those after it; and the end
  module _ (lower : ℕ → List Slot) (n : ℕ) where
    pub items_more : i < n
        → open_items lower (items_of s g (n - i) i at) ≡ open_item lower (item_of s g i at) ++ open_items lower (items_of s g (n - (i + 1)) (i + 1) (at + item_size s at))
    unfolding items_of open_items
    items_more h =
        let e : n - i ≡ suc (n - (i + 1)) = omega arith in ap (λ (k : ℕ). open_items lower (items_of s g k i at)) e

    pub items_none : n ≤ i → open_items lower (items_of s g (n - i) i at) ≡ []
    unfolding items_of open_items
    items_none h = let e : n - i ≡ 0 = omega arith in ap (λ (k : ℕ). open_items lower (items_of s g k i at)) e

pub group_items : (s : List ℕ) (g : ℕ)
    → open_group (group_of s) g ≡ open_items (open_below (group_of s) g) (items_of s g (le_at 2 s (group_at s g)) 0 (group_at s g + 2))
unfolding open_group group_of
group_items s g = refl
