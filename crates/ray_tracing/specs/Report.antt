-- The lines of the sheet program: "Fields: `build` number, E, three figures; `scratch` size; per entry `blas` id, offset; per package
-- `tlas` id, offset, range start and end; `submit` number, action, two figures; `next` counter." Assumes nothing.
use Rattle.std.specs.Prelude.{ℕ, zero, suc, ◌+◌, ◌*◌, ◌/◌, ◌%◌, ◌≡◌, Bool, true, false, ◌||◌, cond, List, [], ◌∷◌, ◌++◌, length, get_or, replicate, ltb, eqb, Result, Ok, Err}
use Prim.Native.Char.{code}
use Prim.Native.String as string
use Prim.Native.String.{String}
use Rattle.std.proofs.lemmas.List.Edits.{sets}
use Rattle.ray_tracing.specs.declared.Sheet.{Sheet}
use Rattle.ray_tracing.specs.declared.OutputTooShort.{OutputTooShort}
use Rattle.ray_tracing.specs.Layout.{size}
use Rattle.ray_tracing.specs.Reading.{Reading, accepted, rejected, read_sheet, table}
use Rattle.ray_tracing.specs.Records.{field_at}
use Rattle.ray_tracing.specs.Causes.{Cause, bare}
use Rattle.ray_tracing.specs.Plan.{sheet_tables, Tables, Building, recorded, nothing-recorded, not_built, records_in, entry_of, package_of, plan_of, build}
use Rattle.ray_tracing.specs.Submission as submission

-- a number in decimal, with at most so many digits
unfoldable pub digits : ℕ → ℕ → List ℕ
digits zero n = []
digits (suc k) n = cond (ltb n 10) ((48 + n) ∷ []) (digits k (n / 10) ++ ((48 + n % 10) ∷ []))

-- no number here has more than 20
abbrev pub decimal : ℕ → List ℕ
decimal n = digits 20 n

-- one space before each number
unfoldable pub spaced : List ℕ → List ℕ
spaced [] = []
spaced (n ∷ ns) = (32 ∷ decimal n) ++ spaced ns

-- a word, its numbers, a newline
unfoldable pub line : List ℕ → List ℕ → List ℕ
line word ns = word ++ (spaced ns ++ (10 ∷ []))

-- the words in ASCII
abbrev pub ascii : String → List ℕ
ascii string.[] = []
ascii (string.◌∷◌ c s) = code c ∷ ascii s

abbrev pub word-sheet : List ℕ
word-sheet = ascii "sheet"

abbrev pub word-build : List ℕ
word-build = ascii "build"

abbrev pub word_scratch : List ℕ
word_scratch = ascii "scratch"

abbrev pub word-blas : List ℕ
word-blas = ascii "blas"

abbrev pub word-tlas : List ℕ
word-tlas = ascii "tlas"

abbrev pub word_submit : List ℕ
word_submit = ascii "submit"

abbrev pub word_next : List ℕ
word_next = ascii "next"

-- "per entry `blas` id, offset": of n entries from i on
unfoldable pub blas_lines : Tables → ℕ → ℕ → List ℕ
blas_lines x i zero = []
blas_lines x i (suc n) =
    line word-blas ((entry_of x i).blas.0 ∷ get_or (plan_of x).blas_offsets i 0 ∷ []) ++ blas_lines x (i + 1) n

-- "per package `tlas` id, offset, range start and end"
unfoldable pub tlas_lines : Tables → ℕ → ℕ → List ℕ
tlas_lines x p zero = []
tlas_lines x p (suc n) =
    line word-tlas
    ((package_of x p).tlas.0
    ∷ get_or (plan_of x).tlas_offsets p 0
    ∷ get_or (plan_of x).staging_ranges (2 * p) 0
    ∷ get_or (plan_of x).staging_ranges (2 * p + 1) 0
    ∷ [])
    ++ tlas_lines x (p + 1) n

-- The submission of a sheet's actions

-- "Starting plant lists are empty"
abbrev pub sheet_start : ℕ → Tables → submission.Lent
sheet_start counter x =
    record {
      counter = counter;
      blases = x.blases;
      tlases = x.tlases;
      dependency_counts = replicate (records_in x 4) 0;
      dependencies = replicate (records_in x 4 * submission.most_dependencies) 0;
    }

-- "kind 1 actions are passed over" with nothing recorded
abbrev pub kept : Bool → ℕ → Bool
kept was_recorded kind = was_recorded || cond (eqb kind 1) false true

-- the cells of an action: the recorded build stands at the start of its lists, with as many Blases as entries and as many Tlases as
-- packages
abbrev pub cells_of : Tables → ℕ → ℕ → List ℕ
cells_of x kind operand =
    cond (eqb kind 1) (1 ∷ 0 ∷ records_in x 5 ∷ records_in x 7 ∷ []) (kind ∷ operand ∷ 0 ∷ 0 ∷ [])

-- of n actions of section 9, a, from the i-th on, the cells of those that are kept, and their positions
unfoldable pub action_cells : Tables → Bool → List ℕ → ℕ → ℕ → List ℕ
action_cells x was_recorded a i zero = []
action_cells x was_recorded a i (suc n) =
    cond
    (kept was_recorded (field_at 9 a (i * size 9) 0))
    (cells_of x (field_at 9 a (i * size 9) 0) (field_at 9 a (i * size 9) 1))
    []
    ++ action_cells x was_recorded a (i + 1) n

unfoldable pub positions : Bool → List ℕ → ℕ → ℕ → List ℕ
positions was_recorded a i zero = []
positions was_recorded a i (suc n) =
    cond (kept was_recorded (field_at 9 a (i * size 9) 0)) (i ∷ []) [] ++ positions was_recorded a (i + 1) n

abbrev pub sheet_piece : Tables → Bool → List ℕ → submission.Piece
sheet_piece x was_recorded a =
    record { actions = action_cells x was_recorded a 0 (length a / size 9); lists = cond was_recorded (plan_of x).lists [] }

abbrev pub sheet_outcome : ℕ → Tables → Bool → List ℕ → submission.Outcome
sheet_outcome counter x was_recorded a =
    submission.submission (sheet_start counter x) (submission.decode (sheet_piece x was_recorded a))

-- "`submit` number, action, two figures; `next` counter"; a passed-over action keeps its position
abbrev pub submit_numbers : List ℕ → submission.Answer → List ℕ
submit_numbers places submission.accepted = 0 ∷ 0 ∷ 0 ∷ 0 ∷ []
submit_numbers places (submission.refused i c) = c.number ∷ get_or places i 0 ∷ c.first ∷ c.second ∷ []

abbrev pub outcome_lines : List ℕ → submission.Outcome → List ℕ
outcome_lines places (submission.◌leaving◌ a l) = line word_submit (submit_numbers places a) ++ line word_next (l.counter ∷ [])

unfoldable pub submit_lines : ℕ → Tables → Bool → List ℕ → List ℕ
submit_lines counter x was_recorded a =
    outcome_lines (positions was_recorded a 0 (length a / size 9)) (sheet_outcome counter x was_recorded a)

-- The lines of a sheet

abbrev pub build_line : ℕ → ℕ → Cause → List ℕ
build_line e f c = line word-build (c.number ∷ e ∷ f ∷ c.first ∷ c.second ∷ c.third ∷ [])

-- "a refused build only its line. With nothing recorded, only `build`, `submit`, `next` are printed"
abbrev pub answer_lines : ℕ → Tables → List ℕ → Building → List ℕ
answer_lines counter x a (not_built e f c) = build_line e f c
answer_lines counter x a (nothing-recorded n) = build_line 0 0 (bare 0) ++ submit_lines counter x false a
answer_lines counter x a (recorded size w) =
    build_line 0 0 (bare 0)
    ++ (line word_scratch (size ∷ [])
    ++ (blas_lines x 0 (records_in x 5) ++ (tlas_lines x 0 (records_in x 7) ++ submit_lines counter x true a)))

-- built with room for all that it writes
unfoldable pub built_lines : List ℕ → Sheet → List ℕ
built_lines s x =
    answer_lines x.counter (sheet_tables x.version x.alignment (table s)) (table s 9)
    (build
    (sheet_tables x.version x.alignment (table s))
    (plan_of (sheet_tables x.version x.alignment (table s))))

-- "A refused sheet prints only `sheet`, number, place"
abbrev pub reading_lines : List ℕ → Reading → List ℕ
reading_lines s (rejected n p) = line word-sheet (n ∷ p ∷ [])
reading_lines s (accepted x) = built_lines s x

unfoldable pub report : List ℕ → List ℕ
report s = reading_lines s (read_sheet s)

-- The lines written into lent bytes

-- "lent output too short | 39": the number, and how many bytes are written
pub record Reporting : Type 0 where
  pub number : ℕ
  pub written : ℕ

abbrev pub reporting : ℕ → ℕ → Reporting
reporting n w = record { number = n; written = w }

-- what the code's answer says
abbrev pub reported_of : Result ℕ OutputTooShort → Reporting
reported_of (Ok n) = reporting 0 n
reported_of (Err _) = reporting 39 0

-- a text written into so much room, and the bytes after it: a refusal writes nothing; past the text the bytes are kept
unfoldable pub text_rule : List ℕ → ℕ → Reporting
text_rule text room = cond (ltb room (length text)) (reporting 39 0) (reporting 0 (length text))

unfoldable pub text_bytes : List ℕ → List ℕ → List ℕ
text_bytes text out = cond (ltb (length out) (length text)) out (sets out 0 text)

-- a call that is to write a text into the bytes out: it answered a, by what it says of that, and left p
pub record PutsAs {A : Type 0} (says : Reporting → A) (text out : List ℕ) (a : A) (p : List ℕ) : Type 0 where
  pub answer : a ≡ says (text_rule text (length out))
  pub left : p ≡ text_bytes text out

-- it answered a itself
abbrev pub Puts : List ℕ → List ℕ → Reporting → List ℕ → Type 0
Puts text out a p = PutsAs (λ r. r) text out a p
