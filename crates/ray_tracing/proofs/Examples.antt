-- "Eight proved examples": "All eight are one list, shown by one claim about the written rules."
use Prim.Native.Nat.{ℕ, ◌-◌, ◌^◌}
use mathlib.Core.Path.{◌≡◌, refl}
use mathlib.Core.List.{List, [], ◌∷◌, ◌++◌}
use lib.ListN.{length, get_or, replicate}
use Rattle.wire.specs.Wire.{le_at, le_bytes}
use Rattle.ray_tracing.specs.declared.Version.TheVariants as version
use Rattle.ray_tracing.specs.Guard.{refuse}
use Rattle.ray_tracing.specs.Layout.{Field, layout}
use Rattle.ray_tracing.specs.Reading.{judge_fields, judge_records, judge_drawn, sum_of_counts, judge_lent, version_in, past, from, judge_section, judge_sections, judge_sheet, read_sheet}
use Rattle.ray_tracing.specs.Causes.{cause, bare}
use Rattle.ray_tracing.specs.Instances.{present_of, slots_bytes, slot_bytes, instance_bytes, instance_from, words, patterns, words_at}
use Rattle.ray_tracing.specs.Plan.{Tables, tables_of, Building, recorded, not_built, plan_of, build, first_of, first_drawing, declared_from, judge_tables, judge_ids, judge_entries, judge_packages, total_from, offsets_from, scratch_size, judge_scratch, judge_final, staging_from, ranges_of_entry, ranges_from, compactable_from, entry_blases, dependencies_from, package_lists}
use Rattle.ray_tracing.specs.Submission.{Lent, Piece, Outcome, accepted, refused, ◌leaving◌, decode, submission, blas_in, tlas_in, list_in, judge, judge_lists, packages_at, packages_lent, action, decode_cells, before, built_blas, built_blases, built_tlas, build_tlases, act, step, run}
use Rattle.ray_tracing.proofs.DemandExamples.{lent, piece, lists_7, first_7, second_7}
use Rattle.ray_tracing.specs.Canonical.{section_bytes, sheet_bytes}
use Rattle.ray_tracing.specs.Report.{ascii, digits, spaced, line, blas_lines, tlas_lines, action_cells, positions, submit_lines, built_lines, report}

-- a whole input with its whole answer: of a build, the tables with room for what it writes, the answer, and the offsets of the Blases
-- and of the Tlases; of a submission, what is lent, its piece, and the outcome
pub data Case : Type 0 where
  building : Tables → Building → List ℕ → List ℕ → Case
  submitting : Lent → Piece → Outcome → Case

abbrev pub Holds : Case → Type 0
Holds (building x a blases tlases) =
    (build x (plan_of x) ≡ a) × (((plan_of x).blas_offsets ≡ blases) × ((plan_of x).tlas_offsets ≡ tlases))
Holds (submitting l p o) = submission l (decode p) ≡ o

abbrev pub All : List Case → Type 0
All [] = Unit {0}
All (c ∷ cs) = Holds c × All cs

-- each example is one or more cases
abbrev pub AllOf : List (List Case) → Type 0
AllOf [] = Unit {0}
AllOf (e ∷ es) = All e × AllOf es

-- a record of section k, from its fields' values
abbrev pub bytes_of : List Field → List ℕ → List ℕ
bytes_of [] vs = []
bytes_of (f ∷ fs) [] = []
bytes_of (f ∷ fs) (v ∷ vs) = le_bytes f.width v ++ bytes_of fs vs

abbrev pub of : ℕ → List ℕ → List ℕ
of k vs = bytes_of (layout k).fields vs

abbrev pub tables : List ℕ → List ℕ → List ℕ → List ℕ → List ℕ → List ℕ → List ℕ → List ℕ → Tables
tables buffers blases declared tlases entries geometries packages slots =
    tables_of version.One 256 buffers blases declared tlases entries geometries packages slots

-- a Blas of a kind with flags and scratch
abbrev pub blas : ℕ → ℕ → ℕ → List ℕ
blas kind flags scratch = of 2 (kind ∷ flags ∷ 0 ∷ 0 ∷ scratch ∷ 77 ∷ 0 ∷ [])

-- a declared geometry of Blas 0: its count, its index format, whether it has an index count, and that
abbrev pub declared : ℕ → ℕ → ℕ → ℕ → List ℕ
declared count format present indices = of 3 (0 ∷ 0 ∷ count ∷ 1 ∷ 12 ∷ 4 ∷ format ∷ present ∷ indices ∷ [])

abbrev pub entry : ℕ → ℕ → ℕ → List ℕ
entry id kind count = of 5 (id ∷ kind ∷ count ∷ [])

-- example 1: Blas 0, and a Tlas over one instance of it with some custom data
abbrev pub example_1 : ℕ → Tables
example_1 custom =
    tables [] (blas 0 0 300) [] (of 4 (0 ∷ 0 ∷ 1000 ∷ 1 ∷ 0 ∷ [])) [] [] (of 7 (0 ∷ 1 ∷ []))
    (of 8 (1 ∷ 0 ∷ custom ∷ 255 ∷ replicate 12 0))

-- example 2: three vertices of 12 bytes, and a transform at offset 0 in a buffer of some size
abbrev pub example_2 : ℕ → Tables
example_2 room =
    tables (of 1 (36 ∷ 1 ∷ []) ++ of 1 (room ∷ 1 ∷ [])) (blas 0 1 300) (declared 3 0 0 0) [] (entry 0 0 1)
    (of 6 (0 ∷ 3 ∷ 0 ∷ 12 ∷ 0 ∷ 1 ∷ 0 ∷ 65535 ∷ 0 ∷ 0 ∷ 0 ∷ 0 ∷ 1 ∷ 1 ∷ 0 ∷ [])) [] []

-- example 3: three two-byte indices, from some first index on
abbrev pub example_3 : ℕ → Tables
example_3 first =
    tables (of 1 (36 ∷ 1 ∷ []) ++ of 1 (6 ∷ 1 ∷ [])) (blas 0 0 300) (declared 3 1 1 3) [] (entry 0 0 1)
    (of 6 (0 ∷ 3 ∷ 0 ∷ 12 ∷ 0 ∷ 1 ∷ 1 ∷ 1 ∷ 1 ∷ 3 ∷ 1 ∷ first ∷ 65535 ∷ 0 ∷ 0 ∷ [])) [] []

-- example 4: some boxes of stride 24, in a buffer of 2^33 bytes
abbrev pub example_4 : ℕ → Tables
example_4 count =
    tables (of 1 (2 ^ 33 ∷ 1 ∷ [])) (blas 1 0 300) (of 3 (0 ∷ 0 ∷ 178_956_971 ∷ 0 ∷ 0 ∷ 0 ∷ 0 ∷ 0 ∷ 0 ∷ [])) [] (entry 0 1 1)
    (of 6 (0 ∷ count ∷ 0 ∷ 24 ∷ 0 ∷ 0 ∷ 0 ∷ 0 ∷ 0 ∷ 0 ∷ 0 ∷ 0 ∷ 0 ∷ 0 ∷ 0 ∷ [])) [] []

-- example 5: an entry of boxes with no geometry, for a Blas of triangles; with one geometry the kinds differ
abbrev pub example_5 : ℕ → List ℕ → Tables
example_5 count geometry = tables (of 1 (36 ∷ 1 ∷ [])) (blas 0 0 300) (declared 3 0 0 0) [] (entry 0 1 count) geometry [] []

-- example 6: Blas scratch 300 and 10, Tlas 1,000
abbrev pub example_6 : Tables
example_6 =
    tables [] (blas 0 0 300 ++ blas 0 0 10) [] (of 4 (0 ∷ 0 ∷ 1000 ∷ 0 ∷ 0 ∷ [])) (entry 0 0 0 ++ entry 1 0 0) [] (of 7 (0 ∷ 0 ∷ [])) []

-- recorded, with a size and how many offsets, staging cells, instance bytes, range cells, compactable Blases and list cells
abbrev pub plan : ℕ → ℕ → ℕ → ℕ → ℕ → ℕ → ℕ → ℕ → Building
plan size blases tlases staging instances ranges compactable lists =
    recorded size
    (record {
      blas_offsets = blases;
      tlas_offsets = tlases;
      staging_ranges = staging;
      instances = instances;
      init_ranges = ranges;
      compactable = compactable;
      lists = lists;
    })

abbrev pub eight : List (List Case)
eight =
    (building (example_1 16_777_215) (plan 1024 0 1 2 64 0 0 3) [] (0 ∷ [])
    ∷ building (example_1 16_777_216) (not_built 0 0 (bare 34)) [] (0 ∷ [])
    ∷ [])
    ∷ (building (example_2 48) (plan 512 1 0 0 0 6 0 1) (0 ∷ []) []
    ∷ building (example_2 47) (not_built 0 0 (cause 23 0 48 47)) (0 ∷ []) []
    ∷ [])
    ∷ (building (example_3 2_147_483_648) (not_built 0 0 (cause 26 4_294_967_296 2_147_483_648 2)) (0 ∷ []) []
    ∷ building (example_3 0) (plan 512 1 0 0 0 6 0 1) (0 ∷ []) []
    ∷ [])
    ∷ (building (example_4 178_956_971) (not_built 0 0 (cause 26 4_294_967_304 178_956_971 24)) (0 ∷ []) []
    ∷ building (example_4 178_956_970) (plan 512 1 0 0 0 3 0 1) (0 ∷ []) []
    ∷ [])
    ∷ (building (example_5 0 []) (plan 512 1 0 0 0 0 0 1) (0 ∷ []) []
    ∷ building (example_5 1 (of 6 (replicate 15 0))) (not_built 0 0 (bare 10)) (0 ∷ []) []
    ∷ [])
    ∷ (building example_6 (plan 1024 2 1 2 0 0 0 4) (0 ∷ 512 ∷ []) (0 ∷ []) ∷ [])
    ∷ (submitting (lent 5 0 0 0 [] 512) (piece first_7 lists_7) (accepted leaving lent 6 5 0 5 (0 ∷ []) 511)
    ∷ submitting (lent 6 5 0 5 (0 ∷ []) 511) (piece second_7 []) (refused 1 (cause 44 0 0 0) leaving lent 7 6 0 5 (0 ∷ []) 511)
    ∷ [])
    ∷ (submitting
    (lent (2 ^ 64 - 1) 0 0 0 [] 512)
    (piece (1 ∷ 0 ∷ 1 ∷ 1 ∷ []) lists_7)
    (accepted leaving lent 0 (2 ^ 64 - 1) 0 (2 ^ 64 - 1) (0 ∷ []) 511)
    ∷ submitting
    (lent 0 (2 ^ 64 - 1) 0 (2 ^ 64 - 1) (0 ∷ []) 511)
    (piece (1 ∷ 0 ∷ 1 ∷ 1 ∷ []) lists_7)
    (refused 0 (bare 40) leaving lent 0 (2 ^ 64 - 1) 0 (2 ^ 64 - 1) (0 ∷ []) 511)
    ∷ [])
    ∷ []

pub are_eight : length eight ≡ 8
are_eight = refl

pub examples : AllOf eight
unfolding le_at le_bytes refuse judge_fields judge_records judge_drawn sum_of_counts judge_lent present_of slots_bytes slot_bytes instance_bytes instance_from words patterns words_at plan_of build first_of first_drawing declared_from judge_tables judge_ids judge_entries judge_packages total_from offsets_from scratch_size judge_scratch judge_final staging_from ranges_of_entry ranges_from compactable_from entry_blases dependencies_from package_lists blas_in tlas_in list_in judge judge_lists packages_at packages_lent action decode_cells before built_blas built_blases built_tlas build_tlases act step run submission
examples = (
  ((refl, (refl, refl)), ((refl, (refl, refl)), tt)),
  (
    ((refl, (refl, refl)), ((refl, (refl, refl)), tt)),
    (
      ((refl, (refl, refl)), ((refl, (refl, refl)), tt)),
      (
        ((refl, (refl, refl)), ((refl, (refl, refl)), tt)),
        (
          ((refl, (refl, refl)), ((refl, (refl, refl)), tt)),
          (
            ((refl, (refl, refl)), tt),
            (
              (refl, (refl, tt)),
              ((refl, (refl, tt)), tt),
            ),
          ),
        ),
      ),
    ),
  ),
)

-- The sheet program's worked sheet, and its six lines in ASCII

abbrev pub worked_tables : ℕ → List ℕ
worked_tables k =
    get_or
    ([]
    ∷ of 1 (36 ∷ 1 ∷ [])
    ∷ of 2 (0 ∷ 0 ∷ 0 ∷ 0 ∷ 300 ∷ 0 ∷ 0 ∷ [])
    ∷ of 3 (0 ∷ 0 ∷ 3 ∷ 1 ∷ 12 ∷ 4 ∷ 0 ∷ 0 ∷ 0 ∷ [])
    ∷ of 4 (0 ∷ 0 ∷ 100 ∷ 1 ∷ 0 ∷ [])
    ∷ of 5 (0 ∷ 0 ∷ 1 ∷ [])
    ∷ of 6 (0 ∷ 3 ∷ 0 ∷ 12 ∷ 0 ∷ 1 ∷ 0 ∷ 65535 ∷ 0 ∷ 0 ∷ 0 ∷ 0 ∷ 65535 ∷ 0 ∷ 0 ∷ [])
    ∷ of 7 (0 ∷ 1 ∷ [])
    ∷ of 8 (1 ∷ 0 ∷ 0 ∷ 0 ∷ replicate 12 0)
    ∷ (of 9 (1 ∷ 0 ∷ []) ++ of 9 (2 ∷ 0 ∷ []))
    ∷ [])
    k
    []

abbrev pub worked_text : List ℕ
worked_text = ascii "build 0 0 0 0 0 0\nscratch 512\nblas 0 0\ntlas 0 0 0 64\nsubmit 0 0 0 0\nnext 2\n"

pub worked : report (sheet_bytes version.One 256 1 worked_tables) ≡ worked_text
unfolding le_at le_bytes refuse judge_fields judge_records judge_drawn sum_of_counts judge_lent present_of slots_bytes slot_bytes instance_bytes instance_from words patterns words_at plan_of build first_of first_drawing declared_from judge_tables judge_ids judge_entries judge_packages total_from offsets_from scratch_size judge_scratch judge_final staging_from ranges_of_entry ranges_from compactable_from entry_blases dependencies_from package_lists blas_in tlas_in list_in judge judge_lists packages_at packages_lent action decode_cells before built_blas built_blases built_tlas build_tlases act step run submission version_in past from judge_section judge_sections judge_sheet read_sheet section_bytes sheet_bytes digits spaced line blas_lines tlas_lines action_cells positions submit_lines built_lines report
worked = refl
