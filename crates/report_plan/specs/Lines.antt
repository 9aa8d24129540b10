-- Lines from the parts of a sheet and of a plan that they look at. Assumes nothing.
use Rattle.std.specs.Prelude.{ℕ, zero, suc, ◌+◌, ◌*◌, List, [], ◌∷◌, ◌++◌, get_or, Option, Some, None}
use Rattle.ray_tracing.specs.Layout.{layout, size}
use Rattle.ray_tracing.specs.Records.{entry_at, package_at}
use Rattle.ray_tracing.specs.Report.{line, word_scratch, word-blas, word-tlas}
use Rattle.ray_tracing.specs.Sizes.{longest_line}
use Rattle.ray_tracing.specs.Parts.{packages_in, entries_in}

-- `blas_lines` with the entries as bytes and the offsets as cells
abbrev pub blas_line : List ℕ → List ℕ → ℕ → List ℕ
blas_line entries offsets i = line word-blas ((entry_at entries (i * size 5)).blas.0 ∷ get_or offsets i 0 ∷ [])

unfoldable pub blas_lines_of : List ℕ → List ℕ → ℕ → ℕ → List ℕ
blas_lines_of entries offsets i zero = []
blas_lines_of entries offsets i (suc n) = blas_line entries offsets i ++ blas_lines_of entries offsets (i + 1) n

-- `tlas_lines` with the packages as bytes, the offsets and the ranges as cells
abbrev pub tlas_line : List ℕ → List ℕ → List ℕ → ℕ → List ℕ
tlas_line packages offsets ranges p =
    line word-tlas
    ((package_at packages (p * size 7)).tlas.0 ∷ get_or offsets p 0 ∷ get_or ranges (2 * p) 0 ∷ get_or ranges (2 * p + 1) 0 ∷ [])

unfoldable pub tlas_lines_of : List ℕ → List ℕ → List ℕ → ℕ → ℕ → List ℕ
tlas_lines_of packages offsets ranges p zero = []
tlas_lines_of packages offsets ranges p (suc n) =
    tlas_line packages offsets ranges p ++ tlas_lines_of packages offsets ranges (p + 1) n

-- below the line `build`, up to the packages
abbrev pub plan_lines : ℕ → List ℕ → List ℕ → List ℕ → List ℕ → List ℕ → List ℕ
plan_lines size entries packages blas-offsets tlas-offsets staging-ranges =
    line word_scratch (size ∷ [])
    ++ (blas_lines_of entries blas-offsets 0 (entries_in entries)
    ++ tlas_lines_of packages tlas-offsets staging-ranges 0 (packages_in packages))

-- of a build that is recorded, by its scratch size, if it is
abbrev pub recorded_lines : Option ℕ → List ℕ → List ℕ → List ℕ → List ℕ → List ℕ → List ℕ
recorded_lines None entries packages blas-offsets tlas-offsets staging-ranges = []
recorded_lines (Some size) entries packages blas-offsets tlas-offsets staging-ranges =
    plan_lines size entries packages blas-offsets tlas-offsets staging-ranges

-- the most bytes of those
abbrev pub longest_plan : ℕ
longest_plan = longest_line word_scratch 1 + (layout 5).most * longest_line word-blas 2 + (layout 7).most * longest_line word-tlas 4
