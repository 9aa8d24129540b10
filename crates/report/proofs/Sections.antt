-- The parts of an accepted sheet: each is there, is the section's table, and has no more records than it may.
use Prim.Native.Nat.{ℕ, ◌+◌, ◌*◌, ◌≤◌, ◌<◌}
use native.Mathlib.Omega.{arith}
use mathlib.Core.Path.{◌≡◌, sym, ap, ◌∙◌}
use mathlib.Core.List.{List}
use lib.Dec.{lit<}
use lib.ListN.{length, take, drop}
use Rattle.ray_tracing.specs.declared.Section.{Section}
use Rattle.ray_tracing.specs.declared.Sheet.{Sheet}
use Rattle.ray_tracing.specs.Layout.{layout_in, size_in}
use Rattle.ray_tracing.specs.Reading.{version_in, section_of, sheet_of, accepted, read_sheet, table}
use Rattle.ray_tracing.specs.Report.{built_lines}
use Rattle.ray_tracing.specs.Explain.{built_refusal}
use Rattle.ray_tracing.specs.Plan.{tables_of}
use Rattle.ray_tracing.proofs.Sheets.{Lent, lent_tells, table_section, accepted_is, accepted-whole, accepted-lent}
use Rattle.report_submit.specs.Parts.{Lendable}
use Rattle.report.specs.Parts.{table_lines, table_refusal}

module _ (s : List ℕ) (x : Sheet) (e : read_sheet s ≡ accepted x) where
  version_is : x.version ≡ version_in s
  version_is = ap (λ (y : Sheet). y.version) (accepted_is s x e)

  -- the section after section k, as the sheet's field f tells it
  module _ (k : ℕ) (h : k < 9) (f : Sheet → Section) (g : f (sheet_of s) ≡ section_of s k) where
    section_is : f x ≡ section_of s k
    section_is = ap f (accepted_is s x e) ∙ g

    pub part-inside : (f x).start + (f x).count * size_in x.version (k + 1) ≤ length s
    part-inside = rw (section_is, version_is) (accepted-whole s x e k h)

    pub part_is : take ((f x).count * size_in x.version (k + 1)) (drop (f x).start s) ≡ table s (k + 1)
    part_is = rw (section_is, version_is) (sym (table_section s k))

  lent : (k : ℕ) → k < 9 → Lent (k + 1) (layout_in (version_in s) (k + 1)) (size_in (version_in s) k) (table s k) (table s (k + 1))
  lent k h = lent_tells (k + 1) (layout_in (version_in s) (k + 1)) (size_in (version_in s) k) (table s k) (table s (k + 1)) (accepted-lent s x e k h)

  pub parts_lendable :
      {blases tlases entries packages actions : List ℕ}
      → blases ≡ table s 2
      → tlases ≡ table s 4
      → entries ≡ table s 5
      → packages ≡ table s 7
      → actions ≡ table s 9
      → Lendable blases tlases entries packages actions
  parts_lendable a b c d f =
      let l2 = lent 1 (lit< tt) in
      let l4 = lent 3 (lit< tt) in
      rw (a, b, c, d, f)
      (record {
        blas-bytes = omega (arith, l2.few, l2.whole);
        tlas-bytes = omega (arith, l4.few, l4.whole);
        few-entries = (lent 4 (lit< tt)).few;
        few-packages = (lent 6 (lit< tt)).few;
        few-actions = (lent 8 (lit< tt)).few;
      })

module _
    (s : List ℕ)
    (x : Sheet)
    {t1 t2 t3 t4 t5 t6 t7 t8 t9 : List ℕ}
    (a : t1 ≡ table s 1)
    (b : t2 ≡ table s 2)
    (c : t3 ≡ table s 3)
    (d : t4 ≡ table s 4)
    (e : t5 ≡ table s 5)
    (f : t6 ≡ table s 6)
    (g : t7 ≡ table s 7)
    (h : t8 ≡ table s 8)
    (i : t9 ≡ table s 9)
  where
    pub accepted-lines : table_lines x.counter (tables_of x.version x.alignment t1 t2 t3 t4 t5 t6 t7 t8) t9 ≡ built_lines s x
    unfolding table_lines built_lines
    accepted-lines = rw (a, b, c, d, e, f, g, h, i)

    pub accepted-refusal : table_refusal x.counter (tables_of x.version x.alignment t1 t2 t3 t4 t5 t6 t7 t8) t9 ≡ built_refusal s x
    unfolding table_refusal built_refusal
    accepted-refusal = rw (a, b, c, d, e, f, g, h, i)
