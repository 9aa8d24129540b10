-- 37 by example, each a whole build: the entry or package that it gives, where a running total comes to 2^64 - 2, 2^64 - 1 or 2^64.
use Prim.Native.Nat.{ℕ, ◌-◌, ◌^◌}
use mathlib.Core.Path.{◌≡◌, refl}
use mathlib.Core.List.{List, [], ◌∷◌, ◌++◌}
use Rattle.wire.specs.Wire.{le_at, le_bytes}
use Rattle.ray_tracing.specs.declared.Version.TheVariants as version
use Rattle.ray_tracing.specs.Guard.{refuse}
use Rattle.ray_tracing.specs.Reading.{judge_fields, judge_records, judge_drawn, sum_of_counts, judge_lent}
use Rattle.ray_tracing.specs.Causes.{cause}
use Rattle.ray_tracing.specs.Instances.{present_of, slots_bytes}
use Rattle.ray_tracing.specs.Plan.{Tables, tables_of, Building, nothing-recorded, not_built, plan_of, build, first_of, first_drawing, judge_tables, judge_ids, judge_entries, judge_packages, total_from, offsets_from, scratch_size, judge_scratch, judge_final, staging_from, ranges_of_entry, ranges_from, compactable_from, entry_blases, dependencies_from, package_lists}
use Rattle.ray_tracing.proofs.Examples.{of, blas, entry, plan}

-- tables, and what a build of them answers that has room
pub data Answered : Type 0 where
  answers : Tables → Building → Answered

abbrev pub All : List Answered → Type 0
All [] = Unit {0}
All (answers x a ∷ l) = (build x (plan_of x) ≡ a) × All l

-- a Tlas with a scratch size, which may be destroyed, and a package of it
abbrev pub tlas : ℕ → ℕ → List ℕ
tlas scratch destroyed = of 4 (0 ∷ destroyed ∷ scratch ∷ 0 ∷ 0 ∷ [])

abbrev pub of_tlas : ℕ → List ℕ
of_tlas id = of 7 (id ∷ 0 ∷ [])

-- entries of three Blases with these scratch sizes, and packages of two Tlases
abbrev pub scratches : ℕ → ℕ → ℕ → ℕ → ℕ → ℕ → ℕ → Tables
scratches alignment a b c t u destroyed =
    tables_of version.One alignment [] (blas 0 0 a ++ (blas 0 0 b ++ blas 0 0 c)) [] (tlas t destroyed ++ tlas u destroyed)
    (entry 0 0 0 ++ (entry 1 0 0 ++ entry 2 0 0)) [] (of_tlas 0 ++ of_tlas 1) []

-- an entry; a package
abbrev pub entry_named : ℕ → Building
entry_named e = not_built e 0 (cause 37 1 0 0)

abbrev pub package_named : ℕ → Building
package_named p = not_built p 0 (cause 37 2 0 0)

-- the first entry whose total reaches 2^64 - 1, though the next one's passes it; one less is recorded; a sum of 2^64 is not 0; a rounding lands
-- on 2^64 - 1, and one passes it; an entry, though a package's total gets there too, and before 21; the first package, where the Blas total
-- stays below; and without scratch nothing is recorded, and nothing more is judged
pub reached :
    All
    (answers (scratches 1 (2 ^ 63) (2 ^ 63 - 1) 1 0 0 0) (entry_named 1)
    ∷ answers (scratches 1 (2 ^ 63) (2 ^ 63 - 2) 0 (2 ^ 64 - 2) 0 0) (plan (2 ^ 64 - 2) 3 2 4 0 0 0 7)
    ∷ answers (scratches 1 (2 ^ 63) 0 (2 ^ 63) 0 0 0) (entry_named 2)
    ∷ answers (scratches 255 0 (2 ^ 64 - 2) 0 0 0 0) (entry_named 1)
    ∷ answers (scratches 256 0 0 (2 ^ 64 - 255) 0 0 0) (entry_named 2)
    ∷ answers (scratches 1 1 1 (2 ^ 64 - 3) (2 ^ 64 - 1) 0 1) (entry_named 2)
    ∷ answers (scratches 1 1 1 (2 ^ 64 - 4) 1 (2 ^ 64 - 2) 1) (package_named 1)
    ∷ answers (scratches 1 0 0 0 0 0 1) (nothing-recorded 0)
    ∷ [])
unfolding le_at le_bytes refuse judge_fields judge_records judge_drawn sum_of_counts judge_lent present_of slots_bytes plan_of build first_of first_drawing judge_tables judge_ids judge_entries judge_packages total_from offsets_from scratch_size judge_scratch judge_final staging_from ranges_of_entry ranges_from compactable_from entry_blases dependencies_from package_lists
reached = (refl, (refl, (refl, (refl, (refl, (refl, (refl, (refl, tt))))))))
