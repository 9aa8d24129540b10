-- Laws of the ranges that geometries ask for: those of one more geometry or entry, and where none is left.
use mathlib.Core.Path.{◌≡◌, sym}
use mathlib.Core.List.{List, []}
use Prim.Native.Nat.{ℕ, ◌+◌, ◌-◌, ◌*◌, ◌≤◌, ◌<◌}
use Rattle.ray_tracing.specs.declared.Version.{Version}
use Rattle.ray_tracing.specs.declared.BlasGeometry.{BlasGeometry}
use Rattle.ray_tracing.specs.declared.BlasBuildEntry.{BlasBuildEntry}
use Rattle.ray_tracing.specs.Layout.{size_in}
use Rattle.ray_tracing.specs.Records.{entry_at, geometry_at}
use Rattle.ray_tracing.proofs.Plan.{left_more, left-none}
use Rattle.ray_tracing.proofs.Inside.{drawn_before, drawn_more}
use Rattle.ray_tracing.specs.Parts.{of_entries}
use Rattle.build_ranges.specs.Ranges.{geometry_ranges, entry_ranges, all_ranges}
use Rattle.build_ranges.proofs.Appending.{Next}

pub entry_more :
    {k : BlasGeometry} (v : Version) (geometries : List ℕ) (kind g e : ℕ)
    → g < e
    → k ≡ geometry_at v geometries (g * size_in v 6)
    → Next (entry_ranges v geometries kind g (e - g)) (geometry_ranges kind k) (entry_ranges v geometries kind (g + 1) (e - (g + 1)))
unfolding entry_ranges
entry_more v geometries kind g e h f = record { cut = rw (left_more g e h, f) }

pub entry-none : (v : Version) (geometries : List ℕ) (kind g e : ℕ) → e ≤ g → entry_ranges v geometries kind g (e - g) ≡ []
unfolding entry_ranges
entry-none v geometries kind g e h = rw (left-none g e h)

pub all_more :
    {k : BlasBuildEntry} {count : ℕ} (v : Version) (entries geometries : List ℕ) (i g n : ℕ)
    → i < n
    → k ≡ entry_at entries (i * 5)
    → count ≡ k.geometry_count
    → Next (all_ranges v entries geometries i g (n - i)) (entry_ranges v geometries k.kind g count) (all_ranges v entries geometries (i + 1) (g + count) (n - (i + 1)))
unfolding all_ranges
all_more v entries geometries i g n h e f = record { cut = rw (left_more i n h, f, e) }

pub all_none : (v : Version) (entries geometries : List ℕ) (i g n : ℕ) → n ≤ i → all_ranges v entries geometries i g (n - i) ≡ []
unfolding all_ranges
all_none v entries geometries i g n h = rw (left-none i n h)

pub entry_next :
    {k : BlasBuildEntry} {g count : ℕ} (entries : List ℕ) (i : ℕ)
    → k ≡ entry_at entries (i * 5)
    → count ≡ k.geometry_count
    → g ≡ drawn_before (of_entries [] entries) i
    → g + count ≡ drawn_before (of_entries [] entries) (i + 1)
entry_next entries i e c f = rw (c, e, f) (sym (drawn_more (of_entries [] entries) i))
