-- Internal: items that are slots, from where they begin. Assumes nothing.
use Rattle.std.specs.Prelude.{ℕ, ◌+◌, ◌≤◌, ◌<◌, length, get_or, take, drop}
use mathlib.Core.List.{List, map, flatten}
use Rattle.ray_tracing.specs.Layout.{size}

-- the bytes of the items that begin at these places
unfoldable pub items_at : List ℕ → List ℕ → List ℕ
items_at s places = flatten (map (λ (at : ℕ). take (size 8) (drop at s)) places)

-- each of them is whole
abbrev pub Within : List ℕ → List ℕ → Type 0
Within s places = (k : ℕ) → k < length places → get_or places k 0 + size 8 ≤ length s
