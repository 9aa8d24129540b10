-- A record made canonical is runs of its bytes, each kept or made zero; and runs made so one after the other where they stand.
use Prim.Native.Nat.{ℕ, ◌+◌, ◌≤◌}
use native.Mathlib.Nat.{add-zero, add_assoc}
use native.Mathlib.Omega.{arith}
use mathlib.Core.Bool.{Bool, true, false}
use mathlib.Core.Path.{◌≡◌, refl, sym, ap, ◌∙◌}
use mathlib.Core.List.{List, [], ◌∷◌, ◌++◌, append_assoc}
use lib.ListN.{length, take, drop, length-drop}
use lib.Seq.{sets, length-sets, take-add, take_at, drop_at, length-take-le, drop-drop}
use Rattle.wire.specs.Wire.{le_at}
use Rattle.wire.proofs.Laws.{le_drop, le_take}
use Rattle.ray_tracing.specs.declared.Version.{Version}
use Rattle.ray_tracing.specs.Layout.{Seen, Field, layout_in, total, size_in}
use Rattle.ray_tracing.specs.Canonical.{canonical_record}
use Rattle.sheet_clear.specs.Cleared.{kept_if, cleared_unless, record_cleared}
use Rattle.sheet_clear.proofs.Writes.{write_same, write_next, length-kept, kept_join}

-- runs of bytes that stand one after the other, each with whether it is used
pub data Runs : Type 0 where
  end : Runs
  run : Bool → ℕ → Runs → Runs

unfoldable pub kept : Runs → List ℕ → List ℕ
kept end r = []
kept (run u n x) r = kept_if u n r ++ kept x (drop n r)

-- the runs of fields that stand from k bytes on in the record at a place
abbrev pub runs_from : List Field → Seen → List ℕ → ℕ → ℕ → Runs
runs_from [] c s at k = end
runs_from (f ∷ fs) c s at k = run (f.used c) f.width (runs_from fs (f.after c (le_at f.width s (at + k))) s at (k + f.width))

pub canonical_runs :
    (fs : List Field) (c : Seen) (s : List ℕ) (at k : ℕ)
    → at + (k + total fs) ≤ length s
    → canonical_record fs c (take (total fs) (drop (at + k) s)) ≡ kept (runs_from fs c s at k) (drop (at + k) s)
unfolding canonical_record kept
canonical_runs [] c s at k h = refl
canonical_runs (f ∷ fs) c s at k h =
    let r = drop (at + k) s in
    let l : length (take f.width r) ≡ f.width = length-take-le f.width r (simp length-drop (omega arith)) in
    let v : le_at f.width (take (f.width + total fs) r) 0 ≡ le_at f.width s (at + k) = le_take f.width (f.width + total fs) r 0 (omega arith) ∙ rw (le_drop, add-zero) in
    let d : drop f.width r ≡ drop (at + (k + f.width)) s = drop-drop f.width (at + k) s ∙ rw add_assoc in
    rw (v, take-add f.width (total fs) r, take_at (take f.width r) (take (total fs) (drop f.width r)) f.width l, drop_at (take f.width r) (take (total fs) (drop f.width r)) f.width l, d)
    (ap (λ (x : List ℕ). kept_if (f.used c) f.width r ++ x) (canonical_runs fs (f.after c (le_at f.width s (at + k))) s at (k + f.width) (omega arith)))

-- runs that are used alike, by their widths, and the others
pub data Groups : Type 0 where
  end : Groups
  group : Bool → List ℕ → Groups → Groups

abbrev pub sum : List ℕ → ℕ
sum [] = 0
sum (n ∷ ns) = n + sum ns

abbrev pub runs_of : Bool → List ℕ → Runs → Runs
runs_of u [] x = x
runs_of u (n ∷ ns) x = run u n (runs_of u ns x)

abbrev pub spread : Groups → Runs
spread end = end
spread (group u ns g) = runs_of u ns (spread g)

abbrev pub joined : Groups → Runs
joined end = end
joined (group u ns g) = run u (sum ns) (joined g)

-- runs that are used alike are one
runs_join : (u : Bool) (ns : List ℕ) (x : Runs) (r : List ℕ) → kept (runs_of u ns x) r ≡ kept (run u (sum ns) x) r
unfolding kept
runs_join true [] x r = refl
runs_join false [] x r = refl
runs_join u (n ∷ ns) x r =
    rw (runs_join u ns x (drop n r), ← append_assoc, kept_join u n (sum ns) r, drop-drop (sum ns) n r)

pub groups_join : (g : Groups) (r : List ℕ) → kept (spread g) r ≡ kept (joined g) r
unfolding kept
groups_join end r = refl
groups_join (group u ns g) r = runs_join u ns (spread g) r ∙ rw (groups_join g (drop (sum ns) r))

-- s with its runs cleared one after the other where they stand, from k bytes past a place on
abbrev pub Steps : Runs → ℕ → ℕ → List ℕ → List ℕ → Type 0
Steps end at k s t = t ≡ s
Steps (run u n x) at k s t = (m : List ℕ) × ((m ≡ cleared_unless u s (at + k) n) × Steps x at (k + n) m t)

abbrev pub bytes : Runs → ℕ
bytes end = 0
bytes (run u n x) = n + bytes x

pub steps_kept :
    (x : Runs) (at k : ℕ) (s : List ℕ) {t : List ℕ}
    → at + (k + bytes x) ≤ length s
    → Steps x at k s t
    → t ≡ sets s (at + k) (kept x (drop (at + k) s))
unfolding kept
steps_kept end at k s h e = e
steps_kept (run u n x) at k s h (m, (e, r)) =
    let v = kept_if u n (drop (at + k) s) in
    let l : length v ≡ n = length-kept u n (drop (at + k) s) (simp length-drop (omega arith)) in
    let p : at + k + n ≡ at + (k + n) = add_assoc at k n in
    steps_kept x at (k + n) m (omega (arith, ap length e ∙ length-sets s (at + k) v)) r
    ∙ write_next (kept x) v s (at + k) (at + (k + n)) (rw l p) e
    ∙ rw (← p, ← drop-drop n (at + k) s)

-- a record of section k that begins with fields of the widths ns, which are always used, and whose other groups, from j bytes past p on, were
-- cleared in turn
pub record-cleared :
    (v : Version) (k : ℕ) (c : Seen) (ns : List ℕ) (g : Groups) (s : List ℕ) (at p j : ℕ) {t : List ℕ}
    → at + size_in v k ≤ length s
    → size_in v k ≡ sum ns + bytes (joined g)
    → at + sum ns ≡ p + j
    → runs_from (layout_in v k).fields c s at 0 ≡ spread (group true ns g)
    → Steps (joined g) p j s t
    → t ≡ sets s at (record_cleared v k c s at)
unfolding kept
record-cleared v k c ns g s at p j h w q e r =
    let f = take (sum ns) (drop at s) in
    let l : length f ≡ sum ns = length-kept true (sum ns) (drop at s) (simp length-drop (omega arith)) in
    let z : at + (0 + size_in v k) ≤ length s = omega arith in
    let x : record_cleared v k c s at ≡ kept (joined (group true ns g)) (drop at s) = rw (add-zero, e) at (canonical_runs (layout_in v k).fields c s at 0 z) ∙ groups_join (group true ns g) (drop at s) in
    steps_kept (joined g) p j s (omega arith) r
    ∙ write_next (kept (joined g)) f s at (p + j) (rw l q) (sym (write_same s at (sum ns) (omega arith)))
    ∙ rw (x, ← q, ← drop-drop (sum ns) at s)
