-- Whether a whole record's values are in their fields: what judging asks of it, as one truth value. Assumes nothing.
use Rattle.std.specs.Prelude.{ℕ, ◌+◌, Bool, true, not, ◌&&◌, ◌||◌, List, [], ◌∷◌, leb, eqb, drop}
use Rattle.wire.specs.Wire.{le_at}
use Rattle.ray_tracing.specs.declared.Version.{Version}
use Rattle.ray_tracing.specs.Layout.{Seen, Field, fits, layout, layout_in}

-- the fields that stand from k bytes on in the record at a place
abbrev pub fit_from : Seen → List ℕ → ℕ → ℕ → List Field → Bool
fit_from c s at k [] = true
fit_from c s at k (f ∷ fs) =
    fits f c (le_at f.width s (at + k)) && fit_from (f.after c (le_at f.width s (at + k))) s at (k + f.width) fs

-- a record of a section of a version
abbrev pub record_fits : Version → ℕ → Seen → List ℕ → ℕ → Bool
record_fits v section c s at = fit_from c s at 0 (layout_in v section).fields

-- of a declared geometry the fields after its Blas
abbrev pub rest_fits : Seen → List ℕ → ℕ → Bool
rest_fits c s at = fit_from c s at 2 (drop 1 (layout 3).fields)

-- a present byte at one place that goes with a buffer at another
abbrev pub present_fits : List ℕ → ℕ → ℕ → Bool → Bool
present_fits s present buffer boxes = leb (le_at 1 s present) 1 || not (not boxes && not (eqb (le_at 2 s buffer) 65535))
