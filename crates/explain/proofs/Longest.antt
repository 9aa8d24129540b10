-- The most bytes that any sheet's explained report has, and that a sheet's first bytes decide it.
use Prim.Native.Nat.{ℕ, ◌≤◌, ◌<◌}
use native.Mathlib.Omega.{arith}
use mathlib.Core.Path.{◌≡◌, refl}
use mathlib.Core.List.{List}
use lib.ListN.{length, take, length-append}
use borrow.Author.Tests.{le-ltb}
use Rattle.ray_tracing.specs.Sizes.{longest}
use Rattle.ray_tracing.specs.Report.{reporting, text_rule}
use Rattle.ray_tracing.specs.Explain.{reading_refusal, refusal_in, explained}
use Rattle.report_words.proofs.Longest.{explanation-most}
use Rattle.report.proofs.Lengths.{report-most, prefix_tells, report_prefix}
use Rattle.explain.specs.Longest.{longest_explained}

pub longest_explained_is : longest_explained ≡ 6381
longest_explained_is = refl

pub explained-most : (s : List ℕ) → length (explained s) ≤ longest_explained
unfolding explained
explained-most s = simp length-append (omega (arith, report-most s, explanation-most (refusal_in s)))

-- with that much room none is refused
pub never_short : (s : List ℕ) (room : ℕ) → longest_explained ≤ room → text_rule (explained s) room ≡ reporting 0 (length (explained s))
unfolding text_rule
never_short s room h = rw (le-ltb room (length (explained s)) (omega (arith, explained-most s)))

-- of a long input the first longest + 1 bytes print what the whole does
pub explained_prefix : (m : ℕ) (s : List ℕ) → longest < m → explained (take m s) ≡ explained s
unfolding explained refusal_in
explained_prefix m s h = rw (report_prefix m s h, prefix_tells reading_refusal (λ s t n p. refl) m s h)
