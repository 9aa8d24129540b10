-- A section of a canonical sheet. Assumes nothing.
use Rattle.std.specs.Prelude.{ℕ, ◌+◌, List, ◌++◌}
use Rattle.wire.specs.Wire.{le_bytes}
use Rattle.ray_tracing.specs.Reading.{version_in}
use Rattle.ray_tracing.specs.Canonical.{count_of, canonical_tables}

-- the section after section k of the sheet s, made canonical: its count and its table
abbrev pub section_written : List ℕ → ℕ → List ℕ
section_written s k = le_bytes 2 (count_of (version_in s) (canonical_tables s) (k + 1)) ++ canonical_tables s (k + 1)
