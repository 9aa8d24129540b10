-- What judging the offsets of geometries finds; and what is known of a sheet by the time that its geometries are judged, and
-- written. Assumes nothing.
use Rattle.std.specs.Prelude.{ℕ, ◌+◌, ◌-◌, ◌*◌, ◌≤◌, ◌≡◌, List, length, Result, Ok, Err}
use Rattle.ray_tracing.specs.declared.Version.{Version}
use Rattle.ray_tracing.specs.declared.Sheet.{Sheet}
use Rattle.ray_tracing.specs.declared.ConvertSheetError.{ConvertSheetError}
use Rattle.ray_tracing.specs.declared.ConvertSheetError.TheVariants as convert-sheet
use Rattle.ray_tracing.specs.Causes.{sheet_number}
use Rattle.ray_tracing.specs.Layout.{size_in}
use Rattle.ray_tracing.specs.Reading.{Judged, fine, refused, accepted, read_sheet, version_in, section_of}
use Rattle.ray_tracing.specs.Conversion.{other, judge_offsets}

abbrev pub offsets_of : Result Unit ConvertSheetError → Judged
offsets_of (Ok _) = fine
offsets_of (Err (convert-sheet.Malformed r)) = refused (sheet_number r.error) r.place
offsets_of (Err (convert-sheet.OffsetTooFar p)) = refused 47 p
offsets_of (Err convert-sheet.OutputTooShort) = refused 39 0

-- it is read, of the version v from which a sheet becomes one of version w, and its n geometries stand from a place on
pub record Taken (v w : Version) (s : List ℕ) (at n : ℕ) : Type 0 where
  pub sheet : Sheet
  pub read : read_sheet s ≡ accepted sheet
  pub known : version_in s ≡ v
  pub way : other w ≡ v
  pub there : (at ≡ (section_of s 5).start) × (n ≡ (section_of s 5).count)
  pub starts : 13 ≤ at
  pub inside : at + n * size_in v 6 ≤ length s

-- their offsets fit, and there is room for the converted sheet
pub record Fitting (v w : Version) (s : List ℕ) (at n room : ℕ) : Type 0 where
  pub taken : Taken v w s at n
  pub fits : judge_offsets v w s at n ≡ fine
  pub enough : length s - n * size_in v 6 + n * size_in w 6 ≤ room
