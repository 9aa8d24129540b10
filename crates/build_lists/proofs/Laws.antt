-- Laws of the recorded action's lists, written piece by piece: the next piece, and where nothing is left.
use mathlib.Core.Path.{◌≡◌}
use mathlib.Core.List.{List, [], ◌∷◌}
use Prim.Native.Nat.{ℕ, ◌+◌, ◌-◌, ◌≤◌, ◌<◌}
use Rattle.ray_tracing.specs.Plan.{Tables, entry_of, slot_count, entry_blases, dependencies_from, package_lists}
use Rattle.build_ranges.proofs.Appending.{Next}
use Rattle.build_lists.specs.Lists.{dependency_of, package_list}
use Rattle.ray_tracing.proofs.Plan.{left_more, left-none}

-- ---- the entries' Blases

module _ (x : Tables) where
  pub blases_more :
      (i n : ℕ) → i < n → Next (entry_blases x i (n - i)) ((entry_of x i).blas.0 ∷ []) (entry_blases x (i + 1) (n - (i + 1)))
  unfolding entry_blases
  blases_more i n h = record { cut = rw (left_more i n h) }

  pub blases-none : (i n : ℕ) → n ≤ i → entry_blases x i (n - i) ≡ []
  unfolding entry_blases
  blases-none i n h = rw (left-none i n h)

-- ---- the packages' lists

module _ (slots : List ℕ) where
  pub dependencies_more :
      (s e : ℕ) → s < e → Next (dependencies_from slots s (e - s)) (dependency_of slots s) (dependencies_from slots (s + 1) (e - (s + 1)))
  unfolding dependencies_from
  dependencies_more s e h = record { cut = rw (left_more s e h) }

  pub dependencies-none : (s e : ℕ) → e ≤ s → dependencies_from slots s (e - s) ≡ []
  unfolding dependencies_from
  dependencies-none s e h = rw (left-none s e h)

module _ (x : Tables) where
  pub packages_more :
      {count : ℕ} (p s n : ℕ)
      → p < n
      → count ≡ slot_count x p
      → Next (package_lists x p s (n - p)) (package_list x p s) (package_lists x (p + 1) (s + count) (n - (p + 1)))
  unfolding package_lists
  packages_more p s n h e = record { cut = rw (left_more p n h, e) }

  pub packages-none : (p s n : ℕ) → n ≤ p → package_lists x p s (n - p) ≡ []
  unfolding package_lists
  packages-none p s n h = rw (left-none p n h)
