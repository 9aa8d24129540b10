-- A record made canonical where it stands in a list of bytes. Assumes nothing.
use Rattle.std.specs.Prelude.{ℕ, ◌+◌, ◌*◌, ◌/◌, ◌<◌, Bool, ◌||◌, cond, ◌≡◌, List, length, take, drop, replicate, eqb}
use Rattle.std.proofs.lemmas.List.Edits.{sets}
use Rattle.wire.specs.Wire.{le_at}
use Rattle.ray_tracing.specs.declared.Version.{Version}
use Rattle.ray_tracing.specs.Layout.{Seen, layout_in, size, size_in}
use Rattle.ray_tracing.specs.Canonical.{canonical_record}

-- the sections that have fields which may be unused
abbrev pub has_unused : ℕ → Bool
has_unused k = eqb k 3 || (eqb k 6 || (eqb k 8 || eqb k 9))

-- n bytes, kept if they are used, and made zero if not
abbrev pub kept_if : Bool → ℕ → List ℕ → List ℕ
kept_if used n r = cond used (take n r) (replicate n 0)

-- the n bytes at a place
abbrev pub cleared_unless : Bool → List ℕ → ℕ → ℕ → List ℕ
cleared_unless used s at n = sets s at (kept_if used n (drop at s))

-- a record of a section of a version
abbrev pub record_cleared : Version → ℕ → Seen → List ℕ → ℕ → List ℕ
record_cleared v k c s at = canonical_record (layout_in v k).fields c (take (size_in v k) (drop at s))

-- the Blases of n declared geometries from a place on are inside their table
abbrev pub BlasesInside : ℕ → List ℕ → List ℕ → ℕ → ℕ → Type 0
BlasesInside k t s at n = k ≡ 3 → (i : ℕ) → i < n → le_at 2 s (at + i * size 3) < length t / size 2
