-- The converters: "Add a converter both ways: 1 to 2 always, 2 to 1 only where every box offset and first vertex fits." Assumes nothing.
use Rattle.std.specs.Prelude.{ℕ, zero, suc, ◌+◌, ◌-◌, ◌/◌, ◌^◌, ◌≡◌, not, cond, List, [], ◌∷◌, ◌++◌, length, take, drop, ltb, eqb, Result, Ok, Err}
use Rattle.wire.specs.Wire.{le_at, le_bytes}
use Rattle.ray_tracing.specs.declared.Version.{Version}
use Rattle.ray_tracing.specs.declared.Version.TheVariants as version
use Rattle.ray_tracing.specs.declared.ConvertSheetError.{ConvertSheetError}
use Rattle.ray_tracing.specs.declared.ConvertSheetError.TheVariants as convert-sheet
use Rattle.ray_tracing.specs.Layout.{version_number, offset_width, geometries, size_in, place_of}
use Rattle.ray_tracing.specs.Reading.{Judged, fine, refused, judged_when, ◌and_next◌, past, from, table, read_sheet}
use Rattle.ray_tracing.specs.Causes.{sheet_number}
use Rattle.ray_tracing.specs.Canonical.{Writing, wrote, unwritten, after_reading, writing_leaves}

-- "both ways": a sheet is converted to version w from the other one
abbrev pub other : Version → Version
other version.One = version.Two
other version.Two = version.One

-- The converted sheet

-- where the offset of the geometry at a place stands, in either version
abbrev pub offset_at : ℕ → ℕ
offset_at at = place_of (geometries version.One).fields at 2

-- "version 2 of the sheet has the primitive offset as u64, all else the same": the geometry r of version v, its offset as wide as in w
unfoldable pub converted_record : Version → Version → List ℕ → List ℕ
converted_record v w r =
    take (offset_at 0) r
    ++ (le_bytes (offset_width w) (le_at (offset_width v) r (offset_at 0)) ++ drop (offset_at 0 + offset_width v) r)

-- n geometries end to end
unfoldable pub converted_records : Version → Version → List ℕ → ℕ → List ℕ
converted_records v w s zero = []
converted_records v w s (suc n) =
    converted_record v w (take (size_in v 6) s) ++ converted_records v w (drop (size_in v 6) s) n

-- section 6
abbrev pub converted_table : Version → Version → List ℕ → List ℕ
converted_table v w s = converted_records v w s (length s / size_in v 6)

-- the sheet s as one of version w: the version byte, the bytes up to the geometries, these, and the bytes after them
unfoldable pub converted : Version → List ℕ → List ℕ
converted w s =
    version_number w
    ∷ (take (from s 6 - 1) (drop 1 s) ++ (converted_table (other w) w (table s 6) ++ drop (past s 6) s))

-- A call

-- "the reader's first, 1 also for the other way's version": where the reader judges it
abbrev pub judge_version : Version → List ℕ → Judged
judge_version v s =
    judged_when (ltb (length s) 1) (refused 2 0) and_next judged_when (not (eqb (le_at 1 s 0) (version_number v))) (refused 1 0)

-- "then 47 at the byte place of the first that doesn't fit": of the n geometries of s from a place on, to be those of version w
unfoldable pub judge_offsets : Version → Version → List ℕ → ℕ → ℕ → Judged
judge_offsets v w s at zero = fine
judge_offsets v w s at (suc n) =
    judged_when (not (ltb (le_at (offset_width v) s (offset_at at)) (256 ^ offset_width w))) (refused 47 (offset_at at))
    and_next judge_offsets v w s (at + size_in v 6) n

abbrev pub unless_refused : Judged → Writing → Writing
unless_refused fine a = a
unless_refused (refused n p) a = unwritten n p

-- "then 39"
unfoldable pub convert_rule : Version → List ℕ → ℕ → Writing
convert_rule w s room =
    unless_refused (judge_version (other w) s)
    (after_reading (read_sheet s)
    (unless_refused (judge_offsets (other w) w s (from s 6) (length (table s 6) / size_in (other w) 6))
    (cond (ltb room (length (converted w s))) (unwritten 39 0) (wrote (length (converted w s))))))

-- what the code's answer says
abbrev pub converting_of : Result ℕ ConvertSheetError → Writing
converting_of (Ok n) = wrote n
converting_of (Err (convert-sheet.Malformed r)) = unwritten (sheet_number r.error) r.place
converting_of (Err (convert-sheet.OffsetTooFar p)) = unwritten 47 p
converting_of (Err convert-sheet.OutputTooShort) = unwritten 39 0

-- a call that is to write the sheet s as one of version w into the bytes out: it answered a, by what it says of that, and left p
pub record ConvertsAs {A : Type 0} (says : Writing → A) (w : Version) (s out : List ℕ) (a : A) (p : List ℕ) : Type 0 where
  pub answer : a ≡ says (convert_rule w s (length out))
  pub left : p ≡ writing_leaves (convert_rule w s (length out)) (converted w s) out

-- it answered a itself
abbrev pub Converts : Version → List ℕ → List ℕ → Writing → List ℕ → Type 0
Converts w s out a p = ConvertsAs (λ r. r) w s out a p
