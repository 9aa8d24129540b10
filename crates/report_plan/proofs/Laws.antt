-- One more line, as a loop counts, and how long they are.
use native.Mathlib.Omega.{arith}
use Prim.Native.Nat.{ℕ, ◌+◌, ◌-◌, ◌*◌, ◌≤◌, ◌<◌, zero, suc}
use mathlib.Core.Path.{◌≡◌}
use mathlib.Core.List.{List, [], ◌∷◌, ◌++◌}
use lib.ListN.{length, get_or, length-append}
use Rattle.ray_tracing.specs.Layout.{layout, size}
use Rattle.ray_tracing.specs.Causes.{Cause}
use Rattle.ray_tracing.specs.Records.{entry_at, package_at}
use Rattle.ray_tracing.specs.Report.{word-build, word_scratch, word-blas, word-tlas, build_line}
use Rattle.ray_tracing.specs.Sizes.{longest_line}
use Rattle.ray_tracing.specs.Parts.{entries_in, packages_in}
use Rattle.report_text.proofs.Laws.{line-most}
use Rattle.ray_tracing.proofs.Plan.{left_more, left-none}
use Rattle.report_plan.specs.Lines.{blas_line, blas_lines_of, tlas_line, tlas_lines_of, plan_lines, longest_plan}

module _ (entries offsets : List ℕ) (i n : ℕ) where
  pub blas_line-most : length (blas_line entries offsets i) ≤ longest_line word-blas 2
  blas_line-most = line-most word-blas ((entry_at entries (i * size 5)).blas.0 ∷ get_or offsets i 0 ∷ [])

  pub blas_more : i < n → blas_lines_of entries offsets i (n - i) ≡ blas_line entries offsets i ++ blas_lines_of entries offsets (i + 1) (n - (i + 1))
  unfolding blas_lines_of
  blas_more h = rw (left_more i n h)

  pub blas-none : n ≤ i → blas_lines_of entries offsets i (n - i) ≡ []
  unfolding blas_lines_of
  blas-none h = rw (left-none i n h)

module _ (packages offsets ranges : List ℕ) (p n : ℕ) where
  pub tlas_line-most : length (tlas_line packages offsets ranges p) ≤ longest_line word-tlas 4
  tlas_line-most =
      line-most word-tlas
      ((package_at packages (p * size 7)).tlas.0 ∷ get_or offsets p 0 ∷ get_or ranges (2 * p) 0 ∷ get_or ranges (2 * p + 1) 0 ∷ [])

  pub tlas_more :
      p < n
      → tlas_lines_of packages offsets ranges p (n - p)
      ≡ tlas_line packages offsets ranges p ++ tlas_lines_of packages offsets ranges (p + 1) (n - (p + 1))
  unfolding tlas_lines_of
  tlas_more h = rw (left_more p n h)

  pub tlas-none : n ≤ p → tlas_lines_of packages offsets ranges p (n - p) ≡ []
  unfolding tlas_lines_of
  tlas-none h = rw (left-none p n h)

-- ---- how long they are

pub blas_lines-most : (entries offsets : List ℕ) (i n : ℕ) → length (blas_lines_of entries offsets i n) ≤ n * longest_line word-blas 2
unfolding blas_lines_of
blas_lines-most entries offsets i zero = omega arith
blas_lines-most entries offsets i (suc n) =
    simp length-append (omega (arith, blas_line-most entries offsets i 0, blas_lines-most entries offsets (i + 1) n))

pub tlas_lines-most : (packages offsets ranges : List ℕ) (p n : ℕ) → length (tlas_lines_of packages offsets ranges p n) ≤ n * longest_line word-tlas 4
unfolding tlas_lines_of
tlas_lines-most packages offsets ranges p zero = omega arith
tlas_lines-most packages offsets ranges p (suc n) =
    simp length-append (omega (arith, tlas_line-most packages offsets ranges p 0, tlas_lines-most packages offsets ranges (p + 1) n))

pub build-most : (e f : ℕ) (c : Cause) → length (build_line e f c) ≤ longest_line word-build 6
build-most e f c = line-most word-build (c.number ∷ e ∷ f ∷ c.first ∷ c.second ∷ c.third ∷ [])

pub plan-most :
    (n : ℕ) (entries packages blas-offsets tlas-offsets staging-ranges : List ℕ)
    → entries_in entries ≤ (layout 5).most
    → packages_in packages ≤ (layout 7).most
    → length (plan_lines n entries packages blas-offsets tlas-offsets staging-ranges) ≤ longest_plan
plan-most n entries packages blas-offsets tlas-offsets staging-ranges h k =
    simp length-append
    (omega (
      arith,
      line-most word_scratch (n ∷ []),
      blas_lines-most entries blas-offsets 0 (entries_in entries),
      tlas_lines-most packages tlas-offsets staging-ranges 0 (packages_in packages),
    ))
