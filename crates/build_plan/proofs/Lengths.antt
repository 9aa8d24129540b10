-- How many elements each output takes.
use mathlib.Core.Path.{◌≡◌, sym, ap, ◌∙◌}
use mathlib.Core.List.{List, []}
use Prim.Native.Nat.{ℕ, ◌+◌, ◌*◌}
use native.Mathlib.Nat.{zero-add}
use native.Mathlib.Omega.{arith}
use lib.ListN.{length, length-append}
use Rattle.ray_tracing.specs.declared.Written.{Written}
use Rattle.ray_tracing.specs.Instances.{present_of}
use Rattle.ray_tracing.specs.Plan.{Tables, blas_scratch, tlas_scratch, entry_blases, package_lists, counts_of}
use Rattle.ray_tracing.proofs.Inside.{slots_before, slots-none}
use Rattle.ray_tracing.proofs.Instances.{slots_length}
use Rattle.ray_tracing.proofs.Plan.{offsets_length, staging_length, blases-length, present_zero, packages-length}
use Rattle.ray_tracing.specs.Parts.{entries_in, of_entries, packages_in, of_packages}
use Rattle.build_lists.specs.Lists.{slots_in, Drawn, lists_in}
use Rattle.build_ranges.specs.Ranges.{ranges_in}
use Rattle.build_plan.specs.Parts.{compactable_in}
use Rattle.build_plan.specs.Planned.{planned}

module _ (packages slots : List ℕ) (d : Drawn packages slots) where
  lists_length :
      (entries : List ℕ)
      → entries_in entries + 2 * packages_in packages + present_of slots 0 (slots_in slots)
      ≡ length (lists_in entries packages slots)
  lists_length entries =
      let x = of_packages [] packages slots in
      let n = packages_in packages in
      sym
      (length-append (entry_blases (of_entries [] entries) 0 (entries_in entries)) (package_lists x 0 0 n)
      ∙ omega (
        arith,
        blases-length (of_entries [] entries) 0 (entries_in entries),
        packages-length x 0 0 n (sym (slots-none x)),
        present_zero slots 0,
        ap (present_of slots 0) (ap (slots_before x) (zero-add n) ∙ d.all),
      ))

pub counts_are :
    (x : Tables) {ranges compactable present : ℕ}
    → Drawn x.packages x.slots
    → present ≡ present_of x.slots 0 (slots_in x.slots)
    → ranges ≡ length (ranges_in x.version x.entries x.geometries)
    → compactable ≡ length (compactable_in x.blases x.entries)
    → ◌≡◌ {A = Written} (record {
      blas_offsets = entries_in x.entries;
      tlas_offsets = packages_in x.packages;
      staging_ranges = 2 * packages_in x.packages;
      instances = 64 * present;
      init_ranges = ranges;
      compactable = compactable;
      lists = entries_in x.entries + 2 * packages_in x.packages + present;
    })
    (counts_of (planned x))
counts_are x d e f g =
    let n = entries_in x.entries in
    let m = packages_in x.packages in
    λ j. record {
      blas_offsets = sym (offsets_length (blas_scratch x) x.alignment 0 0 n) j;
      tlas_offsets = sym (offsets_length (tlas_scratch x) x.alignment 0 0 m) j;
      staging_ranges = sym (staging_length (of_packages [] x.packages x.slots) 0 0 0 m) j;
      instances = (ap (λ (n : ℕ). 64 * n) e ∙ sym (slots_length x.blases x.slots 0 (slots_in x.slots))) j;
      init_ranges = f j;
      compactable = g j;
      lists = (ap (λ (k : ℕ). n + 2 * m + k) e ∙ lists_length x.packages x.slots d x.entries) j;
    }
