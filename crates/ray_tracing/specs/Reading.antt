-- Reading: "Fields are judged from the start on, sums at the drawn section's count after its limit." The first refusal decides, with
-- its number and its place. Assumes nothing.
use Rattle.std.specs.Prelude.{ℕ, zero, suc, ◌+◌, ◌-◌, ◌*◌, ◌/◌, ◌%◌, Bool, true, false, not, ◌||◌, cond, List, [], ◌∷◌, length, take, drop, ltb, eqb}
use Rattle.wire.specs.Wire.{le_at}
use Rattle.ray_tracing.specs.declared.Version.{Version}
use Rattle.ray_tracing.specs.declared.Version.TheVariants as version
use Rattle.ray_tracing.specs.declared.Section.{Section}
use Rattle.ray_tracing.specs.declared.Sheet.{Sheet}
use Rattle.ray_tracing.specs.Layout.{Seen, Field, fits, Layout, layout, layout_in, total, size, size_in}

infixr 20 ◌and_next◌
-- nothing to refuse, or a refusal's number and its place: the first byte of the judged field, or a lent table's record
pub data Judged : Type 0 where
  fine : Judged
  refused : ℕ → ℕ → Judged

abbrev pub judged_when : Bool → Judged → Judged
judged_when true j = j
judged_when false j = fine

-- the first of two
abbrev pub ◌and_next◌ : Judged → Judged → Judged
◌and_next◌ fine j = j
◌and_next◌ (refused n p) j = refused n p

-- "for 2 the field that isn't whole"; 5 for a value outside its field
abbrev pub judge_field : Seen → List ℕ → ℕ → Field → Judged
judge_field c s at f =
    judged_when (ltb (length s) (at + f.width)) (refused 2 at)
    and_next judged_when (not (fits f c (le_at f.width s at))) (refused 5 at)

-- a record's fields, one after the other
unfoldable pub judge_fields : Seen → List ℕ → ℕ → List Field → Judged
judge_fields c s at [] = fine
judge_fields c s at (f ∷ fs) =
    judge_field c s at f and_next judge_fields (f.after c (le_at f.width s at)) s (at + f.width) fs

-- n records, end to end
unfoldable pub judge_records : Seen → List Field → List ℕ → ℕ → ℕ → Judged
judge_records c fs s at zero = fine
judge_records c fs s at (suc n) = judge_fields c s at fs and_next judge_records c fs s (at + total fs) n

-- what is known where a record begins: the records t of the section before, w bytes each, and the record's kind
abbrev pub begin : ℕ → List ℕ → Bool → Seen
begin w t boxes = record { before = t; each = w; boxes = boxes; none = false; tag = 0 }

-- "Entries: Blas u16, kind u8, geometry count u16, drawn in turn from section 6": the kind and the count of the entry at q
abbrev pub of_boxes : List ℕ → ℕ → Bool
of_boxes t q = eqb (le_at 1 t (q + 2)) 1

abbrev pub drawn_count : List ℕ → ℕ → ℕ
drawn_count t q = le_at 2 t (q + 3)

-- the geometries that n entries of t, from the one at q on, draw in turn, each by its entry's kind
unfoldable pub judge_drawn : List Field → List ℕ → ℕ → List ℕ → ℕ → ℕ → Judged
judge_drawn fs t q s at zero = fine
judge_drawn fs t q s at (suc n) =
    judge_records (begin (size 5) t (of_boxes t q)) fs s at (drawn_count t q)
    and_next judge_drawn fs t (q + size 5) s (at + drawn_count t q * total fs) n

-- the n records of section k with the fields fs, after the records t of the section before, w bytes each
abbrev pub judge_table : ℕ → List Field → ℕ → List ℕ → List ℕ → ℕ → ℕ → Judged
judge_table k fs w t s at n =
    cond (eqb k 6) (judge_drawn fs t 0 s at (length t / size 5)) (judge_records (begin w t false) fs s at n)

-- the sum of n u16 counts, w bytes apart, from q on: a whole number
unfoldable pub sum_of_counts : List ℕ → ℕ → ℕ → ℕ → ℕ
sum_of_counts t w q zero = 0
sum_of_counts t w q (suc n) = le_at 2 t q + sum_of_counts t w (q + w) n

-- "drawn counts that don't add up": sections 6 and 8 have as many records as the entries and the packages draw
abbrev pub adds_up : ℕ → List ℕ → ℕ → Bool
adds_up k t n =
    cond (eqb k 6) (eqb (sum_of_counts t (size 5) 3 (length t / size 5)) n)
    (cond (eqb k 8) (eqb (sum_of_counts t (size 7) 2 (length t / size 7)) n) true)

-- The sheet

-- the version of a sheet that is taken, 1 or 2
unfoldable pub version_in : List ℕ → Version
version_in s = cond (eqb (le_at 1 s 0) 2) version.Two version.One

-- where section k ends; section 0, the header, stands after the version byte
unfoldable pub past : List ℕ → ℕ → ℕ
past s zero = 1 + size 0
past s (suc k) = past s k + 2 + le_at 2 s (past s k) * size_in (version_in s) (k + 1)

-- where the records of section k begin: after its u16 count
unfoldable pub from : List ℕ → ℕ → ℕ
from s zero = 1 + size 0
from s (suc k) = past s k + 2

-- the records of section k of a sheet
abbrev pub table : List ℕ → ℕ → List ℕ
table s k = take (past s k - from s k) (drop (from s k) s)

-- the section after section k, whose records stand from a on: its count at p (2, then 4), the sum (5), then its records
unfoldable pub judge_section : List ℕ → ℕ → ℕ → ℕ → Judged
judge_section s k a p =
    judged_when (ltb (length s) (p + 2)) (refused 2 p)
    and_next judged_when (ltb (layout_in (version_in s) (k + 1)).most (le_at 2 s p)) (refused 4 p)
    and_next judged_when (not (adds_up (k + 1) (take (p - a) (drop a s)) (le_at 2 s p))) (refused 5 p)
    and_next judge_table
    (k + 1)
    (layout_in (version_in s) (k + 1)).fields
    (size_in (version_in s) k)
    (take (p - a) (drop a s))
    s
    (p + 2)
    (le_at 2 s p)

-- the n sections after section k
unfoldable pub judge_sections : List ℕ → ℕ → ℕ → Judged
judge_sections s k zero = fine
judge_sections s k (suc n) = judge_section s k (from s k) (past s k) and_next judge_sections s (k + 1) n

-- "For the reader 1 now means neither 1 nor 2."
abbrev pub taken : ℕ → Bool
taken n = eqb n 1 || eqb n 2

-- "sheet ends early; bytes after it": 1 at the version byte, and "for 3 the first byte left over"
unfoldable pub judge_sheet : List ℕ → Judged
judge_sheet s =
    judged_when (ltb (length s) 1) (refused 2 0)
    and_next judged_when (not (taken (le_at 1 s 0))) (refused 1 0)
    and_next judge_records (begin 0 [] false) (layout 0).fields s 1 1
    and_next judge_sections s 0 9
    and_next judged_when (ltb (past s 9) (length s)) (refused 3 (past s 9))

-- what is read where nothing is refused: version, alignment, counter, and of each section where its records begin and how many it has
abbrev pub section_of : List ℕ → ℕ → Section
section_of s k = record { start = past s k + 2; count = le_at 2 s (past s k) }

abbrev pub sheet_of : List ℕ → Sheet
sheet_of s =
    record {
      version = version_in s;
      alignment = le_at 4 s 1;
      counter = le_at 8 s 5;
      buffers = section_of s 0;
      blases = section_of s 1;
      declared = section_of s 2;
      tlases = section_of s 3;
      entries = section_of s 4;
      geometries = section_of s 5;
      packages = section_of s 6;
      slots = section_of s 7;
      actions = section_of s 8;
    }

pub data Reading : Type 0 where
  accepted : Sheet → Reading
  rejected : ℕ → ℕ → Reading

abbrev pub answer : Judged → Sheet → Reading
answer fine sheet = accepted sheet
answer (refused n p) sheet = rejected n p

unfoldable pub read_sheet : List ℕ → Reading
read_sheet s = answer (judge_sheet s) (sheet_of s)

-- A lent table

-- a place as the number of its record
abbrev pub by_record : ℕ → Judged → Judged
by_record w fine = fine
by_record w (refused n p) = refused n (p / w)

-- "A library build judges its tables and lists first, in section order, with section and record (0 for 4 and sums)": a table that
-- stands for section k, after the table t of the section before; bytes of a part record at its end are a value outside its field
unfoldable pub judge_lent : ℕ → Layout → ℕ → List ℕ → List ℕ → Judged
judge_lent k l w t s =
    judged_when (ltb l.most (length s / total l.fields)) (refused 4 0)
    and_next judged_when (not (adds_up k t (length s / total l.fields))) (refused 5 0)
    and_next by_record (total l.fields) (judge_table k l.fields w t s 0 (length s / total l.fields))
    and_next judged_when (not (eqb (length s % total l.fields) 0)) (refused 5 (length s / total l.fields))
