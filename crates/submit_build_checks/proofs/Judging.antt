-- What is judged before a Build acts: the refusals in their order, and what acting may count on where there is none.
use mathlib.Core.Path.{◌≡◌, refl}
use mathlib.Core.Bool.{true, false}
use mathlib.Core.Option.{Option, none, some}
use mathlib.Core.List.{List, [], ◌∷◌}
use Prim.Native.Nat.{ℕ, ◌+◌, ◌≤◌, ◌<◌}
use lib.ListN.{length, drop, take}
use borrow.Author.Tests.{le-leb, lt-leb}
use Rattle.ray_tracing.specs.Causes.{Cause, bare}
use Rattle.ray_tracing.specs.Submission.{Lent, Package, ◌or_else◌, first, blas_count, tlas_count, mention_blas, mention_tlas, mention_package, packages_at, packages_lent, Action, build, malformed, build_at, before, most_dependencies, lent_of}
use Rattle.ray_tracing.proofs.Sound.{fit}
use Rattle.ray_tracing.proofs.Firsts.{or_none, inside, within}
use Rattle.submit_checks.specs.Known.{Inside, Listed, AllListed}
use Rattle.submit_checks.proofs.Start.{ids_inside}
use Rattle.submit_build_checks.proofs.Packages.{too_long}

-- ---- nothing was refused

pub or_assoc : (a b c : Option Cause) → ((a or_else b) or_else c) ≡ (a or_else (b or_else c))
or_assoc none b c = refl
or_assoc (some x) b c = refl

package_listed : (l : Lent) (p : Package) → too_long p ≡ none → mention_package l p ≡ none → Listed (blas_count l) (tlas_count l) p
package_listed l p e f =
    let x = or_none (mention_tlas l p.tlas) (first (mention_blas l) p.dependencies) f in
    record {
      tlas = inside (tlas_count l) p.tlas x.0;
      few = within most_dependencies (length p.dependencies) (bare 4) e;
      inside = ids_inside l p.dependencies x.1;
    }

all_listed : (l : Lent) (ps : List Package) → first too_long ps ≡ none → first (mention_package l) ps ≡ none → AllListed (blas_count l) (tlas_count l) ps
unfolding AllListed
all_listed l [] e f = tt
all_listed l (p ∷ ps) e f =
    let x = or_none (too_long p) (first too_long ps) e in
    let y = or_none (mention_package l p) (first (mention_package l) ps) f in
    (package_listed l p x.0 y.0, all_listed l ps x.1 y.1)

-- what acting on a Build counts on
pub known-build : (l : Lent) (bs : List ℕ) (ps : List Package) → before l (build bs ps) ≡ none → (Inside bs (blas_count l) × AllListed (blas_count l) (tlas_count l) ps)
known-build l bs ps e =
    let f = fit l bs ps e in
    (ids_inside l bs f.blases, all_listed l ps f.short f.tlases)

-- ---- 5: a list past what is lent

module _ (lists : List ℕ) (at bs ts : ℕ) where
  pub build-short : length lists < at + bs → build_at lists at bs ts ≡ malformed
  build-short h = rw (build_at, lt-leb _ _ h)

  pub build_cut : packages_lent lists (at + bs) ts ≡ false → at + bs ≤ length lists → build_at lists at bs ts ≡ malformed
  build_cut e h = rw (build_at, le-leb _ _ h, e)

  pub build_whole : packages_lent lists (at + bs) ts ≡ true → at + bs ≤ length lists → build_at lists at bs ts ≡ build (take bs (drop at lists)) (packages_at lists (at + bs) ts)
  build_whole e h = rw (build_at, le-leb _ _ h, e)

pub before-malformed : (l : Lent) {a : Action} → a ≡ malformed → some (bare 5) ≡ before l a
unfolding before
before-malformed l e = rw e

-- what is judged looks at the counter and the two tables
pub judged-whole :
    (l : Lent) (lists : List ℕ) (at bs ts : ℕ) {o : Option Cause} → packages_lent lists (at + bs) ts ≡ true → at + bs ≤ length lists
    → o ≡ before (lent_of l.counter l.blases l.tlases [] []) (build (take bs (drop at lists)) (packages_at lists (at + bs) ts)) → o ≡ before l (build_at lists at bs ts)
unfolding before
judged-whole l lists at bs ts e h p = rw (build_whole lists at bs ts e h) p

pub ruleset lending = (build-short, build_cut, before-malformed, judged-whole)
