-- A whole record that fits is judged fine.
use Prim.Native.Nat.{ℕ, ◌+◌, ◌≤◌}
use native.Mathlib.Nat.{add-zero, zero-add}
use native.Mathlib.Omega.{arith}
use mathlib.Core.Bool.{Bool, true, false, ◌&&◌}
use mathlib.Core.Path.{◌≡◌, refl}
use mathlib.Core.List.{List, [], ◌∷◌}
use lib.ListN.{length}
use borrow.Author.Tests.{le-ltb}
use Rattle.wire.specs.Wire.{le_at}
use Rattle.ray_tracing.specs.declared.Version.{Version}
use Rattle.ray_tracing.specs.Layout.{Seen, Field, fits, layout_in, total, size_in}
use Rattle.ray_tracing.specs.Reading.{fine, judge_fields}
use Rattle.sheet_fits.specs.Fitting.{fit_from, record_fits}

and_true : (a b : Bool) → (a && b) ≡ true → (a ≡ true) × (b ≡ true)
and_true true b h = (refl, h)
and_true false b h = cc

-- judged from k bytes on
fit-fine :
    (fs : List Field) (c : Seen) (s : List ℕ) (at k : ℕ)
    → at + (k + total fs) ≤ length s
    → fit_from c s at k fs ≡ true
    → judge_fields c s (at + k) fs ≡ fine
unfolding judge_fields
fit-fine [] c s at k h e = refl
fit-fine (f ∷ fs) c s at k h e =
    let x = and_true (fits f c (le_at f.width s (at + k))) _ e in
    let z : at + k + f.width ≡ at + (k + f.width) = omega arith in
    rw (le-ltb (length s) (at + k + f.width) (omega arith), x.0, z)
    (fit-fine fs (f.after c (le_at f.width s (at + k))) s at (k + f.width) (omega arith) x.1)

-- a whole record whose values fit is judged fine
pub fits-fine :
    (v : Version) (section : ℕ) (c : Seen) (s : List ℕ) (at : ℕ)
    → at + size_in v section ≤ length s
    → record_fits v section c s at ≡ true
    → judge_fields c s at (layout_in v section).fields ≡ fine
fits-fine v section c s at h e =
    rw add-zero at (fit-fine (layout_in v section).fields c s at 0 (rw zero-add h) e)
