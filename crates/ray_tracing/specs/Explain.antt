-- A report's refusal in words: the table of "Causes and what they cost", for a reader who has no paper at hand. Assumes nothing.
use Rattle.std.specs.Prelude.{ℕ, ◌*◌, ◌/◌, Bool, true, false, ◌&&◌, ◌||◌, cond, List, [], ◌∷◌, ◌++◌, length, get_or, leb, eqb}
use Prim.Native.String.{String}
use Rattle.ray_tracing.specs.declared.Sheet.{Sheet}
use Rattle.ray_tracing.specs.Layout.{size}
use Rattle.ray_tracing.specs.Reading.{Reading, accepted, rejected, read_sheet, table}
use Rattle.ray_tracing.specs.Records.{field_at}
use Rattle.ray_tracing.specs.Causes.{Cause, cause}
use Rattle.ray_tracing.specs.Plan.{sheet_tables, Tables, Building, recorded, nothing-recorded, not_built, plan_of, build}
use Rattle.ray_tracing.specs.Submission as submission
use Rattle.ray_tracing.specs.Report.{ascii, decimal, positions, sheet_outcome, report}

infix 90 ◌is◌
-- What is refused

-- nothing; a sheet, by its number, at a byte place; a build, at E; or an action of the sheet, by its position and its kind. A report
-- tells at most one: "A refused sheet prints only `sheet`", "a refused build only its line"
pub data Refusal : Type 0 where
  nothing : Refusal
  of_sheet : ℕ → ℕ → Refusal
  of_build : ℕ → ℕ → Cause → Refusal
  of_action : ℕ → ℕ → Cause → Refusal

-- the action's position is the sheet's, as in the line `submit`
abbrev pub action_refusal : List ℕ → ℕ → Cause → Refusal
action_refusal a position c = of_action position (field_at 9 a (position * size 9) 0) c

abbrev pub outcome_refusal : List ℕ → List ℕ → submission.Outcome → Refusal
outcome_refusal a places (submission.◌leaving◌ submission.accepted l) = nothing
outcome_refusal a places (submission.◌leaving◌ (submission.refused i c) l) = action_refusal a (get_or places i 0) c

unfoldable pub submit_refusal : ℕ → Tables → Bool → List ℕ → Refusal
submit_refusal counter x was_recorded a =
    outcome_refusal a (positions was_recorded a 0 (length a / size 9)) (sheet_outcome counter x was_recorded a)

abbrev pub answer_refusal : ℕ → Tables → List ℕ → Building → Refusal
answer_refusal counter x a (not_built e f c) = of_build e f c
answer_refusal counter x a (nothing-recorded n) = submit_refusal counter x false a
answer_refusal counter x a (recorded size w) = submit_refusal counter x true a

unfoldable pub built_refusal : List ℕ → Sheet → Refusal
built_refusal s x =
    answer_refusal x.counter (sheet_tables x.version x.alignment (table s)) (table s 9)
    (build
    (sheet_tables x.version x.alignment (table s))
    (plan_of (sheet_tables x.version x.alignment (table s))))

abbrev pub reading_refusal : List ℕ → Reading → Refusal
reading_refusal s (rejected n p) = of_sheet n p
reading_refusal s (accepted x) = built_refusal s x

unfoldable pub refusal_in : List ℕ → Refusal
refusal_in s = reading_refusal s (read_sheet s)

-- Its words

-- the column "Cause": the words of number n stand at place n
abbrev pub causes : List String
causes =
    "no such cause"
    ∷ "version neither 1 nor 2"
    ∷ "sheet ends early"
    ∷ "bytes after the sheet"
    ∷ "count above its limit"
    ∷ "value outside its field"
    ∷ "id outside its table"
    ∷ "no such cause"
    ∷ "no such cause"
    ∷ "no such cause"
    ∷ "kind mismatch"
    ∷ "more geometries than declared"
    ∷ "flags differ"
    ∷ "vertex count above declared"
    ∷ "vertex format differs"
    ∷ "stride below least"
    ∷ "stride not a multiple"
    ∷ "index count on one side only"
    ∷ "index count above declared"
    ∷ "index format differs"
    ∷ "index count declared, no index buffer"
    ∷ "destroyed"
    ∷ "no BLAS_INPUT"
    ∷ "region overruns buffer"
    ∷ "first index, index count or transform offset absent"
    ∷ "index format none"
    ∷ "product or offset above 2^32 - 1"
    ∷ "index count not in threes"
    ∷ "transform unflagged"
    ∷ "transform offset not in 16s"
    ∷ "transform flagged, absent"
    ∷ "box count above declared"
    ∷ "box offset not in eights"
    ∷ "box stride below 24 or not in eights"
    ∷ "custom data from 2^24 on"
    ∷ "Tlas returns vertices, Blas does not"
    ∷ "too many present slots"
    ∷ "scratch 2^64 - 1"
    ∷ "compacted Blas"
    ∷ "lent output too short"
    ∷ "counter 0"
    ∷ "Blas to build is compacted"
    ∷ "Blas without number"
    ∷ "Tlas without number"
    ∷ "Blas newer than Tlas"
    ∷ "count 0, or a group that is not an earlier one"
    ∷ "more than 512 slots"
    ∷ "first vertex or primitive offset above 2^32 - 1"
    ∷ "length not in 64s"
    ∷ "u32 at byte 52 not 0"
    ∷ "address of no Blas or of several"
    ∷ []

abbrev pub cause_words : ℕ → String
cause_words n = get_or causes n "no such cause"

-- what a number is
pub record Item : Type 0 where
  pub word : String
  pub value : ℕ

abbrev pub ◌is◌ : String → ℕ → Item
w is n = record { word = w; value = n }

-- "sort (1 buffer, 2 Blas, 3 Tlas)"; there is no other
abbrev pub sort_word : ℕ → String
sort_word sort = cond (eqb sort 1) "buffer" (cond (eqb sort 2) "Blas" (cond (eqb sort 3) "Tlas" "resource"))

-- a number of the table's that stands for one of those named
abbrev pub one_of : ℕ → List ℕ → Bool
one_of n [] = false
one_of n (m ∷ ms) = eqb n m || one_of n ms

-- "with the entry or package, 0, and a first figure of 1 for an entry or 2 for a package"; there is no other
abbrev pub reached_word : ℕ → String
reached_word figure = cond (eqb figure 1) "entry" (cond (eqb figure 2) "package" "entry or package")

-- "E is entry and its geometry, or package and its slot, from 0 (second 0 where there is none)"; of 4 and 5 section and record; none
-- of 39
abbrev pub place_items : Cause → ℕ → ℕ → List Item
place_items c e f =
    cond (eqb c.number 39) []
    (cond (one_of c.number (4 ∷ 5 ∷ [])) ("section" is e ∷ "record" is f ∷ [])
    (cond (eqb c.number 37) (reached_word c.first is e ∷ [])
    (cond (eqb c.number 6) ("entry or package" is e ∷ "geometry or slot" is f ∷ [])
    (cond (one_of c.number (34 ∷ 35 ∷ [])) ("package" is e ∷ "slot" is f ∷ [])
    (cond (eqb c.number 36 || (eqb c.number 21 && eqb c.first 3)) ("package" is e ∷ [])
    (cond (eqb c.number 38 || (eqb c.number 21 && eqb c.first 2)) ("entry" is e ∷ [])
    ("entry" is e ∷ "geometry" is f ∷ [])))))))

-- the column "Returned" of a build, E apart
abbrev pub figure_items : Cause → List Item
figure_items c =
    cond (one_of c.number (12 ∷ 13 ∷ 14 ∷ 18 ∷ 19 ∷ 31 ∷ [])) ("declared" is c.first ∷ "given" is c.second ∷ [])
    (cond (one_of c.number (15 ∷ 16 ∷ [])) ("needed" is c.first ∷ "given" is c.second ∷ [])
    (cond (eqb c.number 21) (sort_word c.first is c.second ∷ [])
    (cond (eqb c.number 22) ("buffer" is c.second ∷ [])
    (cond (eqb c.number 23) ("offset" is c.first ∷ "region" is c.second ∷ "size" is c.third ∷ [])
    (cond (eqb c.number 26) ("offset" is c.first ∷ "count" is c.second ∷ "stride" is c.third ∷ [])
    (cond (eqb c.number 27) ("count" is c.first ∷ [])
    (cond (eqb c.number 33) ("stride" is c.first ∷ [])
    (cond (eqb c.number 36) ("count" is c.first ∷ "most" is c.second ∷ []) []))))))))

-- "1 the recorded build, 2 use of a Tlas, 3 mark of one Blas, 4 mark of one Tlas", and "a mark that names each Tlas's Blases: kind 5"; any
-- other is not known
abbrev pub kind_words : ℕ → String
kind_words kind =
    cond (eqb kind 1) "recorded build at action"
    (cond (eqb kind 2) "use of a Tlas at action"
    (cond (eqb kind 3) "mark of a Blas at action"
    (cond (eqb kind 4) "mark of a Tlas at action" (cond (eqb kind 5) "mark as built at action" "action"))))

-- "42 gives Blas, Tlas in a Build and Tlas, Blas in a use"; the mark of kind 5 is taken for a Build
abbrev pub unbuilt_items : ℕ → ℕ → ℕ → List Item
unbuilt_items kind first second =
    cond (eqb kind 1 || eqb kind 5) ("Blas" is first ∷ "Tlas" is second ∷ [])
    (cond (eqb kind 2) ("Tlas" is first ∷ "Blas" is second ∷ []) ("Blas or Tlas" is first ∷ "Tlas or Blas" is second ∷ []))

-- the column "Returned" of a submission, the action apart
abbrev pub action_items : ℕ → Cause → List Item
action_items kind c =
    cond (one_of c.number (21 ∷ 41 ∷ [])) ("Blas" is c.first ∷ [])
    (cond (eqb c.number 42) (unbuilt_items kind c.first c.second)
    (cond (eqb c.number 43) ("Tlas" is c.first ∷ [])
    (cond (eqb c.number 44) ("Blas" is c.first ∷ "Tlas" is c.second ∷ []) [])))

-- each item after a comma
unfoldable pub item_bytes : List Item → List ℕ
item_bytes [] = []
item_bytes (i ∷ l) = (ascii ", " ++ (ascii i.word ++ (32 ∷ decimal i.value))) ++ item_bytes l

-- a line: the number, its words, the items
abbrev pub line_with : ℕ → String → List Item → List ℕ
line_with n words l = (ascii "refused " ++ (decimal n ++ (ascii ": " ++ ascii words))) ++ (item_bytes l ++ (10 ∷ []))

-- with the cause
abbrev pub refused_line : ℕ → List Item → List ℕ
refused_line n l = line_with n (cause_words n) l

unfoldable pub explanation : Refusal → List ℕ
explanation nothing = ascii "nothing is refused\n"
explanation (of_sheet n place) = refused_line n ("byte" is place ∷ [])
explanation (of_build e f c) = refused_line c.number (place_items c e f ++ figure_items c)
explanation (of_action i kind c) = refused_line c.number (kind_words kind is i ∷ action_items kind c)

-- The words of a call's refusal, by the numbers that it answers

-- a number from a to b
abbrev pub between : ℕ → ℕ → ℕ → Bool
between a b n = leb a n && leb n b

-- the numbers that a call can refuse with: 1 reads a sheet, 2 builds, 3 submits, 4 appends an instance, 5 writes a sheet,
-- 6 opens groups, 7 appends many instances, 8 converts a sheet to version 2, 9 to version 1, 10 reads instances back
abbrev pub refuses_with : ℕ → ℕ → Bool
refuses_with call n =
    cond (eqb call 1) (between 1 5 n)
    (cond (eqb call 2) (between 4 6 n || between 10 39 n)
    (cond (eqb call 3) (between 4 6 n || (eqb n 21 || between 39 44 n))
    (cond (eqb call 4) (eqb n 6 || (between 34 35 n || eqb n 39))
    (cond (eqb call 5) (between 1 5 n || eqb n 39)
    (cond (eqb call 6) (between 2 5 n || (eqb n 39 || between 45 46 n))
    (cond (eqb call 7) (between 5 6 n || (between 34 35 n || eqb n 39))
    (cond (eqb call 8) (between 1 5 n || eqb n 39)
    (cond (eqb call 9) (between 1 5 n || (eqb n 39 || eqb n 47))
    (cond (eqb call 10) (eqb n 39 || between 48 50 n) false)))))))))

-- "Errors: the reader's first, then 39", which has no place
abbrev pub write_line : ℕ → ℕ → List ℕ
write_line e n = cond (between 1 5 n) (explanation (of_sheet n e)) (refused_line n [])

-- "both give group and item as written"; the sheet's numbers give their place, and 39 has none
abbrev pub open_line : ℕ → ℕ → ℕ → List ℕ
open_line e f n = cond (between 45 46 n) (refused_line n ("group" is e ∷ "item" is f ∷ [])) (write_line e n)

-- "E being 0 and its position", "6 for the Tlas, with 0, 0", which the first one's own 6 has too; 39 has none
abbrev pub many_items : ℕ → ℕ → List Item
many_items f n = cond (eqb n 39) [] (cond (eqb n 6 && eqb f 0) ("Tlas or instance" is f ∷ []) ("instance" is f ∷ []))

-- "1 also for the other way's version", which alone is taken; "47 at the byte place", and 39 has none
abbrev pub convert_line : String → ℕ → ℕ → List ℕ
convert_line version e n =
    cond (eqb n 1) (line_with n version ("byte" is e ∷ []))
    (cond (eqb n 47) (refused_line n ("byte" is e ∷ [])) (write_line e n))

-- "both with the record", 49 and 50; 48 and 39 have none
abbrev pub record_items : ℕ → ℕ → List Item
record_items e n = cond (between 49 50 n) ("record" is e ∷ []) []

-- the line, by what e and f are in that call: a place; E; the action and its kind, 0 where it is not known; nothing; a place; a place, or
-- a group and its item; 0 and a position; a place; a record
abbrev pub call_line : ℕ → ℕ → ℕ → Cause → List ℕ
call_line call e f c =
    cond (eqb call 1) (explanation (of_sheet c.number e))
    (cond (eqb call 2) (explanation (of_build e f c))
    (cond (eqb call 3) (explanation (of_action e f c))
    (cond (eqb call 4) (refused_line c.number [])
    (cond (eqb call 5) (write_line e c.number)
    (cond (eqb call 6) (open_line e f c.number)
    (cond (eqb call 7) (refused_line c.number (many_items f c.number))
    (cond (eqb call 8) (convert_line "version not 1" e c.number)
    (cond (eqb call 9) (convert_line "version not 2" e c.number) (refused_line c.number (record_items e c.number))))))))))

abbrev pub no_such_cause : ℕ → List ℕ
no_such_cause n = ascii "refused " ++ (decimal n ++ ascii ": no such cause\n")

-- number 0 refuses nothing
unfoldable pub words_of : ℕ → ℕ → ℕ → ℕ → ℕ → ℕ → ℕ → List ℕ
words_of call n e f x y z =
    cond (eqb n 0) (explanation nothing)
    (cond (refuses_with call n) (call_line call e f (cause n x y z)) (no_such_cause n))

-- The text

-- the report's lines, and the explanation below them
unfoldable pub explained : List ℕ → List ℕ
explained s = report s ++ explanation (refusal_in s)
