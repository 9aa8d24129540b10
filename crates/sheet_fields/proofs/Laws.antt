-- Judging by the views of a section's fields is judging by the fields: no field of the layout asks for the tag. Assumes nothing.
use Prim.Native.Nat.{ℕ, zero, suc, ◌+◌, ◌<◌}
use native.Mathlib.Nat.{le_of_suc-le-suc, not-suc-le-zero}
use mathlib.Core.Bool.{not}
use mathlib.Core.Path.{◌≡◌, refl, sym, ap}
use mathlib.Core.List.{List, [], ◌∷◌, map}
use lib.Dec.{ltb}
use lib.ListN.{length}
use Rattle.wire.specs.Wire.{le_at}
use Rattle.ray_tracing.specs.declared.Version.{Version}
use Rattle.ray_tracing.specs.Layout.{Seen, Field, fits, layout_in}
use Rattle.ray_tracing.specs.Reading.{Judged, fine, refused, judged_when, ◌and_next◌, judge_fields}
use Rattle.sheet_fields.specs.Table.{untagged, View, view, judge_views}

-- a fact for each number below n, and at any of them
abbrev Each : (ℕ → Type 0) → ℕ → Type 0
Each P zero = Unit {0}
Each P (suc n) = P 0 × Each (λ (k : ℕ). P (suc k)) n

each : (P : ℕ → Type 0) (n : ℕ) → Each P n → (k : ℕ) → k < n → P k
each P zero e k h = absurd (not-suc-le-zero h)
each P (suc n) e zero h = e.0
each P (suc n) e (suc k) h = each (λ (j : ℕ). P (suc j)) n e.1 k (le_of_suc-le-suc h)

-- a field's view, the tag forgotten before it is asked
abbrev unasked : Field → View
unasked f = record { width = f.width; fits = λ c v. fits f (untagged c) v; after = λ c v. untagged (f.after (untagged c) v) }

untold : (v : Version) (k : ℕ) → k < 10 → map view (layout_in v k).fields ≡ map unasked (layout_in v k).fields
untold v =
    each
    (λ (k : ℕ). map view (layout_in v k).fields ≡ map unasked (layout_in v k).fields)
    10
    (refl, (refl, (refl, (refl, (refl, (refl, (refl, (refl, (refl, (refl, tt))))))))))

abbrev head : View → List View → View
head d [] = d
head d (x ∷ xs) = x

abbrev rest : List View → List View
rest [] = []
rest (x ∷ xs) = xs

or_assoc : (a b c : Judged) → ((a and_next b) and_next c) ≡ (a and_next b and_next c)
or_assoc fine b c = refl
or_assoc (refused n p) b c = refl

by_fields :
    (fs : List Field)
    → map view fs ≡ map unasked fs
    → (c : Seen) (s : List ℕ) (p : ℕ)
    → judge_views (untagged c) s p (map view fs) ≡ judge_fields c s p fs
unfolding judge_views judge_fields
by_fields [] e c s p = refl
by_fields (f ∷ fs) e c s p =
    let v = le_at f.width s p in
    let same : view f ≡ unasked f = ap (head (view f)) e in
    let a : untagged (f.after c v) ≡ untagged (f.after (untagged c) v) = ap (λ (x : View). x.after c v) same in
    let b : fits f c v ≡ fits f (untagged c) v = ap (λ (x : View). x.fits c v) same in
    rw (← a, ← b, by_fields fs (ap rest e) (f.after c v) s (p + f.width))
    (sym (or_assoc (judged_when (ltb (length s) (p + f.width)) (refused 2 p)) (judged_when (not (fits f c v)) (refused 5 p)) _))

-- of a section
pub by_views :
    (v : Version) (k : ℕ) (views : List View) (c : Seen) (s : List ℕ) (p : ℕ)
    → k < 10
    → views ≡ map view (layout_in v k).fields
    → judge_views (untagged c) s p views ≡ judge_fields c s p (layout_in v k).fields
by_views v k views c s p h e = rw e (by_fields (layout_in v k).fields (untold v k h) c s p)
