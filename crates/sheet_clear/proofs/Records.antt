-- Records made canonical in turn, and those that entries draw: the first where it stands, and then the others, whose bytes are as they were.
use Prim.Native.Nat.{ℕ, zero, suc, ◌+◌, ◌-◌, ◌*◌, ◌≤◌, ◌<◌}
use native.Mathlib.Nat.{suc-mul, zero-mul, add-mul}
use native.Mathlib.Numerals.{sub-one}
use native.Mathlib.Omega.{arith}
use mathlib.Core.Path.{◌≡◌, refl, sym, ap, ◌∙◌}
use mathlib.Core.List.{List, map, flatten}
use lib.ListN.{length, take, drop, length-append, length-drop}
use lib.Seq.{sets, length-take-le, drop-drop}
use Rattle.wire.proofs.Laws.{le_past}
use Rattle.ray_tracing.specs.declared.Version.{Version}
use Rattle.ray_tracing.specs.Layout.{Seen, layout_in, size, size_in}
use Rattle.ray_tracing.specs.Reading.{begin, of_boxes, drawn_count, sum_of_counts}
use Rattle.ray_tracing.proofs.Reading.{sum_more}
use Rattle.ray_tracing.proofs.Zeroed.{canonical-length}
use Rattle.ray_tracing.proofs.Held.{flatten_map}
use Rattle.ray_tracing.specs.Meaning.{records_from, drawn_from}
use Rattle.ray_tracing.specs.Canonical.{held_canonical}
use Rattle.sheet_clear.specs.Cleared.{record_cleared, BlasesInside}
use Rattle.sheet_clear.proofs.Writes.{write_next}

pub length_cleared : (v : Version) (k : ℕ) (c : Seen) (s : List ℕ) (at : ℕ) → at + size_in v k ≤ length s → length (record_cleared v k c s at) ≡ size_in v k
length_cleared v k c s at h =
    let l : length (take (size_in v k) (drop at s)) ≡ size_in v k = length-take-le (size_in v k) (drop at s) (simp length-drop (omega arith)) in
    canonical-length (layout_in v k).fields c (take (size_in v k) (drop at s)) (omega arith)

-- n records from a place on
abbrev pub records_cleared : Version → ℕ → Seen → List ℕ → ℕ → ℕ → List ℕ
records_cleared v k c s at n = flatten (map (held_canonical v k) (records_from c (size_in v k) (drop at s) n))

pub records_next :
    (v : Version) (k : ℕ) (c : Seen) (s : List ℕ) (at n : ℕ) {t : List ℕ}
    → at + size_in v k ≤ length s
    → 0 < n
    → t ≡ sets s at (record_cleared v k c s at)
    → sets t (at + size_in v k) (records_cleared v k c t (at + size_in v k) (n - 1)) ≡ sets s at (records_cleared v k c s at n)
unfolding records_from flatten
records_next v k c s at zero h p e = absurd (omega arith)
records_next v k c s at (suc n) h p e =
    rw (sub-one (suc n))
    (write_next (λ r. flatten (map (held_canonical v k) (records_from c (size_in v k) r n))) (record_cleared v k c s at) s at (at + size_in v k) (rw (length_cleared v k c s at h) refl) e
    ∙ rw (← drop-drop (size_in v k) at s))

-- the Blases of the records that are left
pub blases-next :
    (v : Version) (k : ℕ) (c : Seen) (u s : List ℕ) (at n : ℕ) {t : List ℕ}
    → at + size_in v k ≤ length s
    → t ≡ sets s at (record_cleared v k c s at)
    → BlasesInside k u s at n
    → BlasesInside k u t (at + size_in v k) (n - 1)
blases-next v k c u s at n h e b q i l =
    let w : size_in v k ≡ 18 = ap (size_in v) q in
    let p : at + size_in v k + i * 18 ≡ at + (i + 1) * 18 = omega arith in
    rw (e, le_past 2 (record_cleared v k c s at) s at (at + size_in v k + i * 18) (omega (arith, length_cleared v k c s at h)), p) (b q (i + 1) (omega arith))

-- n canonical records have n times a record's bytes
pub length_records :
    (v : Version) (k : ℕ) (c : Seen) (n : ℕ) (r : List ℕ)
    → n * size_in v k ≤ length r
    → length (flatten (map (held_canonical v k) (records_from c (size_in v k) r n))) ≡ n * size_in v k
unfolding records_from flatten
length_records v k c zero r h = sym (zero-mul (size_in v k))
length_records v k c (suc n) r h =
    let m = suc-mul n (size_in v k) in
    let l : length (take (size_in v k) r) ≡ size_in v k = length-take-le (size_in v k) r (omega arith) in
    rw (length-append, canonical-length (layout_in v k).fields c (take (size_in v k) r) (omega arith), length_records v k c n (drop (size_in v k) r) (simp length-drop (omega arith)))
    (omega arith)

-- the records that n entries draw, from a place on
abbrev pub drawn_cleared : Version → List ℕ → ℕ → List ℕ → ℕ → ℕ → List ℕ
drawn_cleared v t q s at n = flatten (map (held_canonical v 6) (drawn_from v t q (drop at s) n))

pub drawn-next :
    (v : Version) (t : List ℕ) (q : ℕ) (s : List ℕ) (at n : ℕ) {o : List ℕ}
    → at + drawn_count t q * size_in v 6 ≤ length s
    → 0 < n
    → o ≡ sets s at (records_cleared v 6 (begin (size 5) t (of_boxes t q)) s at (drawn_count t q))
    → sets o (at + drawn_count t q * size_in v 6) (drawn_cleared v t (q + size 5) o (at + drawn_count t q * size_in v 6) (n - 1))
    ≡ sets s at (drawn_cleared v t q s at n)
unfolding drawn_from
drawn-next v t q s at zero h p e = absurd (omega arith)
drawn-next v t q s at (suc n) h p e =
    let seen = begin (size 5) t (of_boxes t q) in
    let m = drawn_count t q in
    let l : length (records_cleared v 6 seen s at m) ≡ m * size_in v 6 = length_records v 6 seen m (drop at s) (simp length-drop (omega arith)) in
    rw (sub-one (suc n), flatten_map (held_canonical v 6) (records_from seen (size_in v 6) (drop at s) m) (drawn_from v t (q + size 5) (drop (m * size_in v 6) (drop at s)) n))
    (write_next (λ r. flatten (map (held_canonical v 6) (drawn_from v t (q + size 5) r n))) (records_cleared v 6 seen s at m) s at (at + m * size_in v 6) (rw l refl) e
    ∙ rw (← drop-drop (m * size_in v 6) at s))

pub drawn-sum : (t : List ℕ) (q n : ℕ) → 0 < n → sum_of_counts t (size 5) (q + 3) n ≡ drawn_count t q + sum_of_counts t (size 5) (q + size 5 + 3) (n - 1)
drawn-sum t q n h =
    let e : q + 3 + 5 ≡ q + 5 + 3 = omega arith in
    rw e at (sum_more t (size 5) (q + 3) n h)

-- where what n entries draw is there, the first's records are, and those of the others after them
pub drawn-there :
    (t : List ℕ) (q n w p l : ℕ)
    → 0 < n
    → p + sum_of_counts t (size 5) (q + 3) n * w ≤ l
    → (p + drawn_count t q * w ≤ l) × (p + drawn_count t q * w + sum_of_counts t (size 5) (q + size 5 + 3) (n - 1) * w ≤ l)
drawn-there t q n w p l h i =
    let e = rw (drawn-sum t q n h, add-mul) at i in
    (omega (arith, e), omega (arith, e))
