-- Internal: a build's tables as a function that is lent only some of them sees them, what it is not lent being empty, and of version 1 where
-- it is lent no geometries; how many records they have; and what judging ids shows of them. No entry point's contract rests on these. Assumes nothing.
use Rattle.std.specs.Prelude.{ℕ, ◌/◌, ◌<◌, List, [], length}
use Rattle.ray_tracing.specs.declared.Version.TheVariants as version
use Rattle.ray_tracing.specs.Layout.{size}
use Rattle.ray_tracing.specs.Plan.{Tables, tables_of, entry_of, package_of}

-- what writing one output reads

abbrev pub of_entries : List ℕ → List ℕ → Tables
of_entries blases entries = tables_of version.One 0 [] blases [] [] entries [] [] []

abbrev pub of_packages : List ℕ → List ℕ → List ℕ → Tables
of_packages tlases packages slots = tables_of version.One 0 [] [] [] tlases [] [] packages slots

-- what an action's cells look at
abbrev pub listing : List ℕ → List ℕ → Tables
listing entries packages = tables_of version.One 0 [] [] [] [] entries [] packages []

-- how many there are

abbrev pub entries_in : List ℕ → ℕ
entries_in entries = length entries / size 5

abbrev pub packages_in : List ℕ → ℕ
packages_in packages = length packages / size 7

-- what they name stands in its table

abbrev pub EntriesNamed : List ℕ → List ℕ → Type 0
EntriesNamed blases entries =
    (i : ℕ) → i < entries_in entries → (entry_of (of_entries [] entries) i).blas.0 < length blases / size 2

abbrev pub PackagesNamed : List ℕ → List ℕ → Type 0
PackagesNamed tlases packages =
    (p : ℕ) → p < packages_in packages → (package_of (of_packages [] packages []) p).tlas.0 < length tlases / size 4
