-- The most bytes that any sheet prints, and that a sheet's first bytes decide them.
use Prim.Native.Nat.{ℕ, zero, suc, ◌+◌, ◌*◌, ◌/◌, ◌≤◌, ◌<◌}
use native.Mathlib.Omega.{arith}
use mathlib.Core.Bool.{Bool, true, false}
use mathlib.Core.Path.{◌≡◌, refl, sym, ap, ◌∙◌}
use mathlib.Core.List.{List, [], ◌∷◌}
use lib.Dec.{lit<}
use lib.ListN.{length, take, get_or, length-append}
use lib.Seq.{take_all, take-take}
use borrow.Author.Tests.{le-ltb}
use Rattle.ray_tracing.specs.Layout.{layout, size}
use Rattle.ray_tracing.specs.Causes.{bare}
use Rattle.ray_tracing.specs.Reading.{Reading, accepted, rejected, read_sheet, table}
use Rattle.ray_tracing.specs.Sizes.{longest, longest_report, longest_line}
use Rattle.ray_tracing.specs.Plan.{sheet_tables, Tables, Building, recorded, nothing-recorded, not_built, records_in, entry_of, package_of, plan_of, build}
use Rattle.ray_tracing.specs.Submission as submission
use Rattle.ray_tracing.specs.Report.{word-sheet, word_scratch, word-blas, word-tlas, word_submit, word_next, blas_lines, tlas_lines, positions, sheet_outcome, submit_numbers, outcome_lines, submit_lines, answer_lines, built_lines, reading_lines, report, reporting, text_rule}
use Rattle.ray_tracing.proofs.Sheets.{lent_tells, accepted-lent}
use Rattle.ray_tracing.proofs.Longest.{prefix_decides, accepted-longest}
use Rattle.report_text.proofs.Laws.{line-most}
use Rattle.report_plan.proofs.Laws.{build-most}

pub longest_report_is : longest_report ≡ 6134
longest_report_is = refl

-- ---- lines

module _ (x : Tables) where
  blas_lines-most : (i n : ℕ) → length (blas_lines x i n) ≤ n * longest_line word-blas 2
  unfolding blas_lines
  blas_lines-most i zero = omega arith
  blas_lines-most i (suc n) =
      simp length-append
      (omega (
        arith,
        line-most word-blas ((entry_of x i).blas.0 ∷ get_or (plan_of x).blas_offsets i 0 ∷ []),
        blas_lines-most (i + 1) n,
      ))

  tlas_lines-most : (p n : ℕ) → length (tlas_lines x p n) ≤ n * longest_line word-tlas 4
  unfolding tlas_lines
  tlas_lines-most p zero = omega arith
  tlas_lines-most p (suc n) =
      simp length-append
      (omega (
        arith,
        line-most word-tlas
            ((package_of x p).tlas.0
            ∷ get_or (plan_of x).tlas_offsets p 0
            ∷ get_or (plan_of x).staging_ranges (2 * p) 0
            ∷ get_or (plan_of x).staging_ranges (2 * p + 1) 0
            ∷ []),
        tlas_lines-most (p + 1) n,
      ))

numbers_four : (places : List ℕ) (a : submission.Answer) → length (submit_numbers places a) ≡ 4
numbers_four places submission.accepted = refl
numbers_four places (submission.refused i c) = refl

outcome-most :
    (places : List ℕ) (o : submission.Outcome)
    → length (outcome_lines places o) ≤ longest_line word_submit 4 + longest_line word_next 1
outcome-most places (submission.◌leaving◌ a l) =
    simp length-append
    (omega (
      arith,
      line-most word_submit (submit_numbers places a),
      numbers_four places a,
      line-most word_next (l.counter ∷ []),
    ))

submit_most :
    (counter : ℕ) (x : Tables) (r : Bool) (a : List ℕ)
    → length (submit_lines counter x r a) ≤ longest_line word_submit 4 + longest_line word_next 1
unfolding submit_lines
submit_most counter x r a = outcome-most (positions r a 0 (length a / size 9)) (sheet_outcome counter x r a)

answer-most :
    (counter : ℕ) (x : Tables) (a : List ℕ) (b : Building)
    → records_in x 5 ≤ (layout 5).most
    → records_in x 7 ≤ (layout 7).most
    → length (answer_lines counter x a b) ≤ longest_report
answer-most counter x a (not_built e f c) h k = omega (arith, build-most e f c)
answer-most counter x a (nothing-recorded n) h k =
    simp length-append (omega (arith, build-most 0 0 (bare 0), submit_most counter x false a))
answer-most counter x a (recorded n w) h k =
    simp length-append
    (omega (
      arith,
      build-most 0 0 (bare 0),
      line-most word_scratch (n ∷ []),
      blas_lines-most x 0 (records_in x 5),
      tlas_lines-most x 0 (records_in x 7),
      submit_most counter x true a,
    ))

reading_most : (s : List ℕ) (r : Reading) → read_sheet s ≡ r → length (reading_lines s r) ≤ longest_report
unfolding built_lines
reading_most s (rejected n p) e = omega (arith, line-most word-sheet (n ∷ p ∷ []))
reading_most s (accepted x) e =
    let t = sheet_tables x.version x.alignment (table s) in
    answer-most x.counter t (table s 9) (build t (plan_of t))
    (lent_tells _ _ _ _ _ (accepted-lent s x e 4 (lit< tt))).few
    (lent_tells _ _ _ _ _ (accepted-lent s x e 6 (lit< tt))).few

-- no sheet prints more
pub report-most : (s : List ℕ) → length (report s) ≤ longest_report
unfolding report
report-most s = reading_most s (read_sheet s) refl

-- with that much room none is refused
pub never_short : (s : List ℕ) (room : ℕ) → longest_report ≤ room → text_rule (report s) room ≡ reporting 0 (length (report s))
unfolding text_rule
never_short s room h = rw (le-ltb room (length (report s)) (omega (arith, report-most s)))

-- ---- the first bytes of a sheet

-- of a long input the first longest + 1 bytes are enough for whatever of a refused sheet only the refusal tells
pub prefix_tells :
    {A : Type 0} (told : List ℕ → Reading → A)
    → ((s t : List ℕ) (n p : ℕ) → told s (rejected n p) ≡ told t (rejected n p))
    → (m : ℕ) (s : List ℕ)
    → longest < m
    → told (take m s) (read_sheet (take m s)) ≡ told s (read_sheet s)
prefix_tells told refusals m s h = rw same (go (read_sheet s) refl)
  where
    same : read_sheet (take m s) ≡ read_sheet s
    same = sym (prefix_decides (take m s)) ∙ ap read_sheet (take-take (longest + 1) m s (omega arith)) ∙ prefix_decides s

    go : (r : Reading) → read_sheet s ≡ r → told (take m s) r ≡ told s r
    go (rejected n p) e = refusals (take m s) s n p
    go (accepted x) e = ap (λ (t : List ℕ). told t (accepted x)) (take_all m s (omega (arith, accepted-longest s x e)))

-- they print what the whole does
pub report_prefix : (m : ℕ) (s : List ℕ) → longest < m → report (take m s) ≡ report s
unfolding report
report_prefix m s h = prefix_tells reading_lines (λ s t n p. refl) m s h
