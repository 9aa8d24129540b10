-- Each output of a recorded build, from the sections that the function that writes it is lent. Assumes nothing.
use Rattle.std.specs.Prelude.{ℕ, ◌-◌, ◌*◌, ◌/◌, ◌%◌, ◌^◌, ◌<◌, ◌≡◌, cond, List, [], ◌∷◌, eqb}
use Rattle.ray_tracing.specs.declared.RunningTotal.{RunningTotal}
use Rattle.ray_tracing.specs.declared.RunningTotal.TheVariants as running-total
use Rattle.ray_tracing.specs.Layout.{size}
use Rattle.ray_tracing.specs.Records.{field_at}
use Rattle.ray_tracing.specs.Instances.{slots_bytes}
use Rattle.ray_tracing.specs.Plan.{Tables, records_in, entry_of, blas_of_entry, blas_scratch, tlas_scratch}
use Rattle.ray_tracing.specs.Plan.{total_from, offsets_from, staging_from, compactable_from}
use Rattle.ray_tracing.specs.Parts.{entries_in, of_entries, packages_in, of_packages, EntriesNamed, PackagesNamed}
use Rattle.instance.specs.Writable.{Writable}
use Rattle.build_lists.specs.Lists.{slots_in}

-- the entries with their Blases, or the packages with their Tlases, by whose running total of scratch it is

abbrev pub structures_in : RunningTotal → Tables → ℕ
structures_in running-total.Entries x = records_in x 5
structures_in running-total.Packages x = records_in x 7

abbrev pub structure_sizes : RunningTotal → Tables → ℕ → ℕ
structure_sizes running-total.Entries x = blas_scratch x
structure_sizes running-total.Packages x = tlas_scratch x

abbrev pub StructuresNamed : RunningTotal → Tables → Type 0
StructuresNamed running-total.Entries x = EntriesNamed x.blases x.entries
StructuresNamed running-total.Packages x = PackagesNamed x.tlases x.packages

abbrev pub structure_offsets : RunningTotal → Tables → List ℕ
structure_offsets t x = offsets_from (structure_sizes t x) x.alignment 0 0 (structures_in t x)

-- no total of those passes 2^64 - 1
abbrev pub TotalBelow : RunningTotal → Tables → Type 0
TotalBelow t x = total_from (structure_sizes t x) x.alignment 0 0 (structures_in t x) < 2 ^ 64 - 1

abbrev pub staging_in : List ℕ → List ℕ → List ℕ
staging_in packages slots = staging_from (of_packages [] packages slots) 0 0 0 (packages_in packages)

abbrev pub instances_in : List ℕ → List ℕ → List ℕ
instances_in blases slots = slots_bytes blases slots 0 (slots_in slots)

-- what entry i adds to the compactable list, and all entries
abbrev pub compactable_of : Tables → ℕ → List ℕ
compactable_of x i = cond (eqb ((blas_of_entry x i).flags / 4 % 2) 1) ((entry_of x i).blas.0 ∷ []) []

abbrev pub compactable_in : List ℕ → List ℕ → List ℕ
compactable_in blases entries = compactable_from (of_entries blases entries) 0 (entries_in entries)

-- each present slot can be written
abbrev pub AllWritable : List ℕ → List ℕ → Type 0
AllWritable blases slots =
    (s : ℕ)
    → s < slots_in slots
    → (field_at 8 slots (s * size 8) 0 ≡ 0 → ⊥)
    → Writable blases (field_at 8 slots (s * size 8) 1) (field_at 8 slots (s * size 8) 2)
