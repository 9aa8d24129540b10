-- A sheet's header judged, and a sheet by the sections that its reader found. Assumes nothing.
use Rattle.std.specs.Prelude.{ℕ, false, not, List, [], ltb, length, get_or}
use Rattle.wire.specs.Wire.{le_at}
use Rattle.ray_tracing.specs.Layout.{layout}
use Rattle.ray_tracing.specs.Reading.{Judged, refused, judged_when, ◌and_next◌, begin, judge_records, version_in, taken}
use Rattle.ray_tracing.specs.declared.Section.{Section}
use Rattle.ray_tracing.specs.declared.Sheet.{Sheet}

abbrev pub judge_header : List ℕ → Judged
judge_header s =
    judged_when (ltb (length s) 1) (refused 2 0)
    and_next judged_when (not (taken (le_at 1 s 0))) (refused 1 0)
    and_next judge_records (begin 0 [] false) (layout 0).fields s 1 1

-- section k of those found
abbrev pub found : List Section → ℕ → Section
found sections k = get_or sections k (record { start = 0; count = 0 })

abbrev pub sheet_from : List ℕ → List Section → Sheet
sheet_from s sections =
    record {
      version = version_in s;
      alignment = le_at 4 s 1;
      counter = le_at 8 s 5;
      buffers = found sections 0;
      blases = found sections 1;
      declared = found sections 2;
      tlases = found sections 3;
      entries = found sections 4;
      geometries = found sections 5;
      packages = found sections 6;
      slots = found sections 7;
      actions = found sections 8;
    }
