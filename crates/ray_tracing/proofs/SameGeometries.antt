-- Tables whose geometries are the same, in whatever version and bytes: a build of them answers alike, and so does a report.
use Prim.Native.Nat.{ℕ, zero, suc, ◌+◌, ◌*◌, ◌/◌}
use mathlib.Core.Bool.{Bool, true, false, cond}
use mathlib.Core.Path.{◌≡◌, refl, ap}
use mathlib.Core.List.{List, [], ◌∷◌, ◌++◌}
use lib.ListN.{length, get_or}
use lib.Dec.{eqb}
use Rattle.ray_tracing.specs.declared.Version.{Version}
use Rattle.ray_tracing.specs.declared.BlasGeometry.{BlasGeometry}
use Rattle.ray_tracing.specs.Layout.{size}
use Rattle.ray_tracing.specs.Checks as checks
use Rattle.ray_tracing.specs.Triangles.{unless_none, triangles_rule}
use Rattle.ray_tracing.specs.Boxes.{boxes_rule}
use Rattle.ray_tracing.specs.Mentions.{buffer_mention, blas_mention, buffer_of}
use Rattle.ray_tracing.specs.Instances.{present_of}
use Rattle.ray_tracing.specs.Plan.{
  Tables,
  Verdict,
  passed,
  ◌or◌,
  on,
  at_e,
  first_of,
  first_drawing,
  records_in,
  entry_of,
  geometry_of,
  geometry_count,
  slot_count,
  package_of,
  blas_of_entry,
  declared_of,
  optional_mention,
  geometry_ids,
  package_ids,
  judge_tables,
  judge_ids,
  checked_at,
  checked_e,
  judge_entries,
  judge_packages,
  scratch_size,
  judge_scratch,
  judge_final,
  Outputs,
  asked,
  staging_from,
  ranges_of_entry,
  ranges_from,
  compactable_from,
  entry_blases,
  package_lists,
  plan_of,
  Building,
  recorded,
  nothing-recorded,
  not_built,
  build,
  leaves,
  outputs_after,
}
use Rattle.ray_tracing.specs.Causes.{bare}
use Rattle.ray_tracing.specs.Submission.{submission, decode}
use Rattle.ray_tracing.specs.Report.{line, word_scratch, word-blas, word-tlas, blas_lines, tlas_lines, sheet_start, action_cells, positions, outcome_lines, submit_lines, build_line, answer_lines}

-- x with other geometries, of a version
abbrev pub with_geometries : Tables → Version → List ℕ → Tables
with_geometries x v geometries =
    record {
      version = v;
      alignment = x.alignment;
      buffers = x.buffers;
      blases = x.blases;
      declared = x.declared;
      tlases = x.tlases;
      entries = x.entries;
      geometries = geometries;
      packages = x.packages;
      slots = x.slots;
    }

module _ (x : Tables) (v : Version) (geometries : List ℕ) where
  abbrev y : Tables
  y = with_geometries x v geometries

  -- ---- what looks at no geometry

  staging_same : (start p s n : ℕ) → staging_from y start p s n ≡ staging_from x start p s n
  unfolding staging_from
  staging_same start p s zero = refl
  staging_same start p s (suc n) =
      ap (λ (l : List ℕ). start ∷ (start + 64 * present_of x.slots s (slot_count x p)) ∷ l)
      (staging_same (start + 64 * present_of x.slots s (slot_count x p)) (p + 1) (s + slot_count x p) n)

  compactable_same : (i n : ℕ) → compactable_from y i n ≡ compactable_from x i n
  unfolding compactable_from
  compactable_same i zero = refl
  compactable_same i (suc n) = rw (compactable_same (i + 1) n)

  blases_same : (i n : ℕ) → entry_blases y i n ≡ entry_blases x i n
  unfolding entry_blases
  blases_same i zero = refl
  blases_same i (suc n) = rw (blases_same (i + 1) n)

  lists_same : (p s n : ℕ) → package_lists y p s n ≡ package_lists x p s n
  unfolding package_lists
  lists_same p s zero = refl
  lists_same p s (suc n) = rw (lists_same (p + 1) (s + slot_count x p) n)

  cells_same : (r : Bool) (a : List ℕ) (i n : ℕ) → action_cells y r a i n ≡ action_cells x r a i n
  unfolding action_cells
  cells_same r a i zero = refl
  cells_same r a i (suc n) = rw (cells_same r a (i + 1) n)

  -- ---- what does

  module _ (same : (g : ℕ) → geometry_of y g ≡ geometry_of x g) where
    checked-same : (i j g : ℕ) → checked_at y i j g ≡ checked_at x i j g
    checked-same i j g = ap by (same g)
      where
        by : BlasGeometry → checks.Checked
        by q =
            cond (eqb (entry_of x i).kind 0)
            (triangles_rule
            (blas_of_entry x i)
            (declared_of x (entry_of x i).blas.0 j)
            q
            (buffer_of x.buffers q.buffer.0)
            (unless_none (buffer_of x.buffers) q.index_buffer.0)
            (unless_none (buffer_of x.buffers) q.transform_buffer.0))
            (boxes_rule (blas_of_entry x i) (declared_of x (entry_of x i).blas.0 j) q (buffer_of x.buffers q.buffer.0))

    ids-same : (i j g : ℕ) → geometry_ids y i j g ≡ geometry_ids x i j g
    ids-same i j g = ap by (same g)
      where
        by : BlasGeometry → Verdict
        by q =
            at_e i j (buffer_mention x.buffers q.buffer.0)
            or on (eqb (entry_of x i).kind 0) (at_e i j (optional_mention x q.index_buffer.0))
            or on (eqb (entry_of x i).kind 0) (at_e i j (optional_mention x q.transform_buffer.0))

    judge-ids-same : judge_ids y ≡ judge_ids x
    unfolding judge_ids
    judge-ids-same =
        ap (λ (f : ℕ → ℕ → Verdict). first_drawing f (geometry_count x) 0 0 (records_in x 5) or first_drawing (package_ids x) (slot_count x) 0 0 (records_in x 7))
        (λ k i g. first_of (λ (j : ℕ). ids-same i j (g + j) k) 0 (geometry_count x i) or entry-blas i)
      where
        entry-blas : ℕ → Verdict
        entry-blas i = at_e i 0 (blas_mention x.blases (entry_of x i).blas.0)

    entries-same : judge_entries y ≡ judge_entries x
    unfolding judge_entries
    entries-same =
        ap (λ (f : ℕ → ℕ → Verdict). first_drawing f (geometry_count x) 0 0 (records_in x 5))
        (λ k i g. first_of (λ (j : ℕ). checked_e i j (checked-same i j (g + j) k)) 0 (geometry_count x i))

    ranges-of-same : (i j g n : ℕ) → ranges_of_entry y i j g n ≡ ranges_of_entry x i j g n
    unfolding ranges_of_entry
    ranges-of-same i j g zero = refl
    ranges-of-same i j g (suc n) = λ k. asked (checked-same i j g k) ++ ranges-of-same i (j + 1) (g + 1) n k

    ranges-same : (i g n : ℕ) → ranges_from y i g n ≡ ranges_from x i g n
    unfolding ranges_from
    ranges-same i g zero = refl
    ranges-same i g (suc n) =
        λ k. ranges-of-same i 0 g (geometry_count x i) k ++ ranges-same (i + 1) (g + geometry_count x i) n k

    pub plan-same : plan_of y ≡ plan_of x
    unfolding plan_of
    plan-same =
        λ k. record {
          blas_offsets = (plan_of x).blas_offsets;
          tlas_offsets = (plan_of x).tlas_offsets;
          staging_ranges = staging_same 0 0 0 (records_in x 7) k;
          instances = (plan_of x).instances;
          init_ranges = ranges-same 0 0 (records_in x 5) k;
          compactable = compactable_same 0 (records_in x 5) k;
          lists = blases_same 0 (records_in x 5) k ++ lists_same 0 0 (records_in x 7) k;
        }

    -- ---- the answer

    packages-same : judge_packages y ≡ judge_packages x
    unfolding judge_packages
    packages-same = refl

    scratch_same : scratch_size y ≡ scratch_size x
    unfolding scratch_size
    scratch_same = refl

    final-same : judge_final y ≡ judge_final x
    unfolding judge_final judge_scratch
    final-same = refl

    pub build_same : judge_tables y ≡ passed → judge_tables x ≡ passed → (o : Outputs) → build y o ≡ build x o
    unfolding build
    build_same a b o =
        rw (a, b, judge-ids-same, entries-same, packages-same, scratch_same, final-same, plan-same)

    pub after_same : judge_tables y ≡ passed → judge_tables x ≡ passed → (o : Outputs) → outputs_after y o ≡ outputs_after x o
    after_same a b o = λ k. leaves (build_same a b o k) (plan-same k) o

    -- ---- its lines

    submit-same : (counter : ℕ) (r : Bool) (a : List ℕ) → submit_lines counter y r a ≡ submit_lines counter x r a
    unfolding submit_lines
    submit-same counter r a =
        λ k. outcome_lines (positions r a 0 (length a / size 9))
        (submission
        (sheet_start counter x)
        (decode (record { actions = cells_same r a 0 (length a / size 9) k; lists = cond r (plan-same k).lists [] })))

    blas-lines-same : (i n : ℕ) → blas_lines y i n ≡ blas_lines x i n
    unfolding blas_lines
    blas-lines-same i zero = refl
    blas-lines-same i (suc n) =
        λ k. line word-blas ((entry_of x i).blas.0 ∷ get_or (plan-same k).blas_offsets i 0 ∷ []) ++ blas-lines-same (i + 1) n k

    tlas-lines-same : (p n : ℕ) → tlas_lines y p n ≡ tlas_lines x p n
    unfolding tlas_lines
    tlas-lines-same p zero = refl
    tlas-lines-same p (suc n) =
        λ k. line word-tlas
        ((package_of x p).tlas.0
        ∷ get_or (plan-same k).tlas_offsets p 0
        ∷ get_or (plan-same k).staging_ranges (2 * p) 0
        ∷ get_or (plan-same k).staging_ranges (2 * p + 1) 0
        ∷ [])
        ++ tlas-lines-same (p + 1) n k

    pub lines_same : (counter : ℕ) (a : List ℕ) (b : Building) → answer_lines counter y a b ≡ answer_lines counter x a b
    lines_same counter a (not_built e f c) = refl
    lines_same counter a (nothing-recorded n) = λ k. build_line 0 0 (bare 0) ++ submit-same counter false a k
    lines_same counter a (recorded n w) =
        λ k. build_line 0 0 (bare 0)
        ++ (line word_scratch (n ∷ [])
        ++ (blas-lines-same 0 (records_in x 5) k ++ (tlas-lines-same 0 (records_in x 7) k ++ submit-same counter true a k)))
