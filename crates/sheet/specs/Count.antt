-- A section's u16 count at a place of a sheet, or that the sheet ends before it does. Assumes nothing.
use Rattle.std.specs.Prelude.{ℕ, ◌+◌, cond, List, length, ltb, Option, Some, None}
use Rattle.wire.specs.Wire.{le_at}

abbrev pub count_at : List ℕ → ℕ → Option ℕ
count_at s at = cond (ltb (length s) (at + 2)) None (Some (le_at 2 s at))
