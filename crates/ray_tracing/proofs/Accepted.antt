-- A build refuses none of an accepted sheet's tables, and a submission's start neither its Blases nor its Tlases.
use Prim.Native.Nat.{ℕ}
use native.Mathlib.Omega.{arith}
use mathlib.Core.Option.{none}
use mathlib.Core.Path.{◌≡◌, refl, ap}
use mathlib.Core.List.{List, []}
use lib.Dec.{lit<}
use borrow.Author.Tests.{ne_eqb}
use Rattle.ray_tracing.specs.declared.Version.TheVariants as version
use Rattle.ray_tracing.specs.declared.Sheet.{Sheet}
use Rattle.ray_tracing.specs.Layout.{size}
use Rattle.ray_tracing.specs.Reading.{accepted, read_sheet, version_in, table}
use Rattle.ray_tracing.specs.Plan.{sheet_tables, passed, first_of, judge_tables}
use Rattle.ray_tracing.specs.Submission.{Lent, judge_blases, judge_tlases}
use Rattle.ray_tracing.proofs.Sheets.{accepted_is, accepted-alignment, accepted-lent, accepted-apart}

module _ (s : List ℕ) (x : Sheet) (e : read_sheet s ≡ accepted x) where
  pub build_takes : judge_tables (sheet_tables x.version x.alignment (table s)) ≡ passed
  unfolding judge_tables first_of
  build_takes =
      let a = accepted-alignment s x e in
      rw (
        ne_eqb x.alignment 0 (λ (z : x.alignment ≡ 0). omega arith),
        ap (λ (y : Sheet). y.version) (accepted_is s x e),
        accepted-apart s x e 0 (lit< tt) refl (version_in s) (size 0) [],
        accepted-lent s x e 1 (lit< tt),
        accepted-lent s x e 2 (lit< tt),
        accepted-lent s x e 3 (lit< tt),
        accepted-lent s x e 4 (lit< tt),
        accepted-lent s x e 5 (lit< tt),
        accepted-lent s x e 6 (lit< tt),
        accepted-lent s x e 7 (lit< tt),
      )

  pub start_takes_blases : (l : Lent) → l.blases ≡ table s 2 → judge_blases l ≡ none
  start_takes_blases l f = rw (f, accepted-apart s x e 1 (lit< tt) refl version.One (size 1) [])

  pub start_takes_tlases : (l : Lent) → l.tlases ≡ table s 4 → judge_tlases l ≡ none
  start_takes_tlases l f = rw (f, accepted-apart s x e 3 (lit< tt) refl version.One (size 3) [])
