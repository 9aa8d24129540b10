-- What the code's tables of fields say. Judging looks at a field's width, at the values that fit, and at what is known after it,
-- the tag apart: that is a field's view, and a field of the tables is one. Assumes nothing.
use Rattle.std.specs.Prelude.{ℕ, ◌+◌, Bool, not, ◌&&◌, ◌||◌, List, [], ◌∷◌, length, leb, ltb, eqb}
use Rattle.wire.specs.Wire.{le_at}
use Rattle.ray_tracing.specs.declared.Version.{Version}
use Rattle.ray_tracing.specs.Layout as layout
use Rattle.ray_tracing.specs.Layout.{Seen, offset_width, always, triangles, with_buffer, any, inside, kind_known, none_known}
use Rattle.ray_tracing.specs.Reading.{Judged, fine, refused, judged_when, ◌and_next◌}
use Rattle.sheet_fields.specs.declared.Width.{Width}
use Rattle.sheet_fields.specs.declared.Width.TheVariants.{U8, U16, U32, U64, Offset}
use Rattle.sheet_fields.specs.declared.Values.{Values}
use Rattle.sheet_fields.specs.declared.Values.TheVariants.{UpTo, ZeroOr, OneTo, Positive, NotNone}
use Rattle.sheet_fields.specs.declared.Rule.{Rule}
use Rattle.sheet_fields.specs.declared.Rule.TheVariants.{Any, Always, Triangles, WithBuffer, Blas, OrNone}
use Rattle.sheet_fields.specs.declared.Field.{Field}

-- the tag decides nothing in judging
abbrev pub untagged : Seen → Seen
untagged c = record { before = c.before; each = c.each; boxes = c.boxes; none = c.none; tag = 0 }

abbrev pub seen : List ℕ → ℕ → Bool → Bool → Seen
seen t w boxes none = record { before = t; each = w; boxes = boxes; none = none; tag = 0 }

pub record View : Type 0 where
  pub width : ℕ
  pub fits : Seen → ℕ → Bool
  pub after : Seen → ℕ → Seen

abbrev pub view : layout.Field → View
view f = record { width = f.width; fits = layout.fits f; after = λ c v. untagged (f.after c v) }

unfoldable pub judge_views : Seen → List ℕ → ℕ → List View → Judged
judge_views c s at [] = fine
judge_views c s at (f ∷ fs) =
    judged_when (ltb (length s) (at + f.width)) (refused 2 at)
    and_next judged_when (not (f.fits c (le_at f.width s at))) (refused 5 at)
    and_next judge_views (f.after c (le_at f.width s at)) s (at + f.width) fs

-- a field of the tables

abbrev pub bytes_of : Version → Width → ℕ
bytes_of v U8 = 1
bytes_of v U16 = 2
bytes_of v U32 = 4
bytes_of v U64 = 8
bytes_of v Offset = offset_width v

abbrev pub contain : Values → ℕ → Bool
contain (UpTo n) v = leb v n
contain (ZeroOr n) v = eqb v 0 || eqb v n
contain (OneTo n) v = ltb 0 v && leb v n
contain Positive v = ltb 0 v
contain NotNone v = not (eqb v 65535)

abbrev pub judged : (Seen → Bool) → (Seen → ℕ → Bool) → Seen → ℕ → Bool
judged u a c v = a c v || not (u c)

abbrev pub fits_of : Rule → Seen → ℕ → Bool
fits_of Any = judged always any
fits_of (Always a) = judged always (λ c v. contain a v)
fits_of (Triangles a) = judged triangles (λ c v. contain a v)
fits_of (WithBuffer a) = judged (with_buffer triangles) (λ c v. contain a v)
fits_of Blas = judged always inside
fits_of OrNone = judged always any

abbrev pub after_of : Rule → Seen → ℕ → Seen
after_of Blas c v = untagged (kind_known c v)
after_of OrNone c v = untagged (none_known c v)
after_of _ c v = untagged c

abbrev pub view_of : Version → Field → View
view_of v f = record { width = bytes_of v f.0; fits = fits_of f.1; after = after_of f.1 }
