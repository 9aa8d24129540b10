-- Internal: what is read of the sheet of nine tables. The laws about reading cite these, no entry point's contract does. Assumes nothing.
use Rattle.std.specs.Prelude.{ℕ, zero, suc, ◌+◌, List, length}
use Rattle.ray_tracing.specs.declared.Version.{Version}
use Rattle.ray_tracing.specs.declared.Section.{Section}
use Rattle.ray_tracing.specs.declared.Sheet.{Sheet}
use Rattle.ray_tracing.specs.Layout.{size}
use Rattle.ray_tracing.specs.Canonical.{count_of}

-- where section k ends
unfoldable pub end_of : (ℕ → List ℕ) → ℕ → ℕ
end_of tables zero = 1 + size 0
end_of tables (suc k) = end_of tables k + 2 + length (tables (k + 1))

-- the section after section k
abbrev pub section_with : Version → (ℕ → List ℕ) → ℕ → Section
section_with v tables k = record { start = end_of tables k + 2; count = count_of v tables (k + 1) }

abbrev pub sheet_with : Version → ℕ → ℕ → (ℕ → List ℕ) → Sheet
sheet_with v alignment counter tables =
    record {
      version = v;
      alignment = alignment;
      counter = counter;
      buffers = section_with v tables 0;
      blases = section_with v tables 1;
      declared = section_with v tables 2;
      tlases = section_with v tables 3;
      entries = section_with v tables 4;
      geometries = section_with v tables 5;
      packages = section_with v tables 6;
      slots = section_with v tables 7;
      actions = section_with v tables 8;
    }
