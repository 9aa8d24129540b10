-- The canonical writer: "Add a writer that turns what the reader accepted into a sheet: unused fields zero, declared geometries by Blas
-- number and, within a Blas, in their old order." Assumes nothing.
use Rattle.std.specs.Prelude.{ℕ, zero, suc, ◌+◌, ◌-◌, ◌/◌, ◌≡◌, cond, length, take, drop, replicate, ltb, eqb, Result, Ok, Err}
use mathlib.Core.List.{List, [], ◌∷◌, ◌++◌, map, flatten}
use Rattle.std.proofs.lemmas.List.Edits.{sets}
use Rattle.wire.specs.Wire.{le_at, le_bytes}
use Rattle.ray_tracing.specs.declared.Version.{Version}
use Rattle.ray_tracing.specs.declared.WriteSheetError.{WriteSheetError}
use Rattle.ray_tracing.specs.declared.WriteSheetError.TheVariants as write-sheet
use Rattle.ray_tracing.specs.Layout.{Seen, Field, version_number, layout_in, size_in}
use Rattle.ray_tracing.specs.Reading.{Reading, accepted, rejected, read_sheet, version_in, table}
use Rattle.ray_tracing.specs.Causes.{sheet_number}
use Rattle.ray_tracing.specs.Meaning.{Held, records_of, declared_lists}

-- A sheet of tables

-- how many records a table has
abbrev pub count_of : Version → (ℕ → List ℕ) → ℕ → ℕ
count_of v tables k = length (tables k) / size_in v k

-- "Then sections in this order, each after a u16 count": the n sections after section k
unfoldable pub section_bytes : Version → (ℕ → List ℕ) → ℕ → ℕ → List ℕ
section_bytes v tables k zero = []
section_bytes v tables k (suc n) =
    le_bytes 2 (count_of v tables (k + 1)) ++ (tables (k + 1) ++ section_bytes v tables (k + 1) n)

-- "Version byte 1, scratch alignment u32, counter u64"
abbrev pub header_bytes : Version → ℕ → ℕ → List ℕ
header_bytes v alignment counter = version_number v ∷ le_bytes 4 alignment ++ le_bytes 8 counter

unfoldable pub sheet_bytes : Version → ℕ → ℕ → (ℕ → List ℕ) → List ℕ
sheet_bytes v alignment counter tables = header_bytes v alignment counter ++ section_bytes v tables 0 9

-- The canonical one

-- "unused fields zero": the other fields' bytes as they are
unfoldable pub canonical_record : List Field → Seen → List ℕ → List ℕ
canonical_record [] c r = []
canonical_record (f ∷ fs) c r =
    cond (f.used c) (take f.width r) (replicate f.width 0)
    ++ canonical_record fs (f.after c (le_at f.width r 0)) (drop f.width r)

-- a record of section k
abbrev pub held_canonical : Version → ℕ → Held → List ℕ
held_canonical v k x = canonical_record (layout_in v k).fields x.seen x.bytes

-- "declared geometries by Blas number and, within a Blas, in their old order", all others in theirs
abbrev pub in_order : Version → ℕ → List ℕ → List ℕ → List Held
in_order v k t s = cond (eqb k 3) (flatten (declared_lists t s)) (records_of v k t s)

-- the table s of section k, after the table t of the section before
unfoldable pub canonical_table : Version → ℕ → List ℕ → List ℕ → List ℕ
canonical_table v k t s = flatten (map (held_canonical v k) (in_order v k t s))

abbrev pub canonical_tables : List ℕ → ℕ → List ℕ
canonical_tables s k = canonical_table (version_in s) k (table s (k - 1)) (table s k)

-- "The writer of slip 1 writes the version that it read"
unfoldable pub canonical : List ℕ → List ℕ
canonical s = sheet_bytes (version_in s) (le_at 4 s 1) (le_at 8 s 5) (canonical_tables s)

-- A call

-- how many bytes it wrote; or a refusal's number and place
pub data Writing : Type 0 where
  wrote : ℕ → Writing
  unwritten : ℕ → ℕ → Writing

-- what the code's answer says
abbrev pub writing_of : Result ℕ WriteSheetError → Writing
writing_of (Ok n) = wrote n
writing_of (Err (write-sheet.Malformed r)) = unwritten (sheet_number r.error) r.place
writing_of (Err write-sheet.OutputTooShort) = unwritten 39 0

-- "Errors: the reader's first, then 39"
abbrev pub after_reading : Reading → Writing → Writing
after_reading (rejected n p) w = unwritten n p
after_reading (accepted x) w = w

unfoldable pub write_rule : List ℕ → ℕ → Writing
write_rule s room =
    after_reading (read_sheet s) (cond (ltb room (length (canonical s))) (unwritten 39 0) (wrote (length (canonical s))))

-- "nothing written"; past what is written the bytes out are kept
abbrev pub writing_leaves : Writing → List ℕ → List ℕ → List ℕ
writing_leaves (wrote n) text out = sets out 0 text
writing_leaves (unwritten n p) text out = out

-- a call that is to write the sheet s into the bytes out: it answered a, by what it says of that, and left p
pub record WritesSheetAs {A : Type 0} (says : Writing → A) (s out : List ℕ) (a : A) (p : List ℕ) : Type 0 where
  pub answer : a ≡ says (write_rule s (length out))
  pub left : p ≡ writing_leaves (write_rule s (length out)) (canonical s) out

-- it answered a itself
abbrev pub WritesSheet : List ℕ → List ℕ → Writing → List ℕ → Type 0
WritesSheet s out a p = WritesSheetAs (λ r. r) s out a p
