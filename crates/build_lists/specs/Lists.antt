-- The recorded action's lists, from the sections that they look at. Assumes nothing.
use Rattle.std.specs.Prelude.{ℕ, ◌+◌, ◌/◌, ◌≤◌, ◌<◌, ◌≡◌, cond, List, [], ◌∷◌, ◌++◌, length}
use Rattle.ray_tracing.specs.Layout.{layout, size}
use Rattle.ray_tracing.specs.Instances.{present_of}
use Rattle.ray_tracing.specs.Plan.{Tables, package_of, slot_count, slot_present, slot_blas, entry_blases, dependencies_from, package_lists}
use Rattle.ray_tracing.specs.Parts.{entries_in, of_entries, packages_in, of_packages}
use Rattle.ray_tracing.proofs.Inside.{slots_before}

abbrev pub slots_in : List ℕ → ℕ
slots_in slots = length slots / size 8

-- the slots are those that the packages draw, and there are not too many
pub record Drawn (packages slots : List ℕ) : Type 0 where
  pub all : slots_before (of_packages [] packages slots) (packages_in packages) ≡ slots_in slots
  pub drawn :
      (p : ℕ)
      → p < packages_in packages
      → slots_before (of_packages [] packages slots) p + slot_count (of_packages [] packages slots) p ≤ slots_in slots
  pub most : slots_in slots ≤ (layout 8).most

-- what slot s adds to its package's list
abbrev pub dependency_of : List ℕ → ℕ → List ℕ
dependency_of slots s = cond (slot_present slots s) (slot_blas slots s ∷ []) []

-- what package p adds to the lists, whose slots stand from s on
abbrev pub package_list : Tables → ℕ → ℕ → List ℕ
package_list x p s =
    (package_of x p).tlas.0 ∷ present_of x.slots s (slot_count x p) ∷ dependencies_from x.slots s (slot_count x p)

-- of all entries, of all packages, and both
abbrev pub blas_list : List ℕ → List ℕ
blas_list entries = entry_blases (of_entries [] entries) 0 (entries_in entries)

abbrev pub package_lists_in : List ℕ → List ℕ → List ℕ
package_lists_in packages slots = package_lists (of_packages [] packages slots) 0 0 (packages_in packages)

abbrev pub lists_in : List ℕ → List ℕ → List ℕ → List ℕ
lists_in entries packages slots = blas_list entries ++ package_lists_in packages slots
