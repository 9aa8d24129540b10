-- Laws of writes and of bytes that are kept or made zero: what is written back changes nothing, and a write leaves what stands past it.
use Prim.Native.Nat.{ℕ, suc, ◌+◌, ◌≤◌}
use native.Mathlib.Nat.{add-suc, suc-add}
use native.Mathlib.Omega.{arith}
use mathlib.Core.Bool.{Bool, true, false}
use mathlib.Core.Path.{◌≡◌, refl, sym, ◌∙◌}
use mathlib.Core.List.{List, [], ◌∷◌, ◌++◌, append_assoc}
use lib.ListN.{length, take, drop, set, replicate, length-drop, length-replicate, replicate-append-replicate, take-append-drop}
use borrow.Rule.Slice.PartMut.{put_mid}
use lib.Seq.{sets, take-add, drop-set-lt, length-take-le, sets-eq, drop-drop}
use Rattle.wire.proofs.Laws.{sets-append}
use Rattle.sheet_clear.specs.Cleared.{kept_if}

-- what stands there, written there again
pub write_same : (s : List ℕ) (at n : ℕ) → at + n ≤ length s → sets s at (take n (drop at s)) ≡ s
write_same s at n h =
    let l : length (take n (drop at s)) ≡ n = length-take-le n (drop at s) (simp length-drop (omega arith)) in
    sets-eq (take n (drop at s)) s at (omega arith)
    ∙ rw (l, ← drop-drop n at s, append_assoc, take-append-drop, take-append-drop)

pub drop-sets : (vs s : List ℕ) (at : ℕ) → drop (at + length vs) (sets s at vs) ≡ drop (at + length vs) s
drop-sets [] s at = refl
drop-sets (v ∷ vs) s at = rw (add-suc, ← suc-add) (drop-sets vs (set s at v) (suc at) ∙ drop-set-lt (suc at + length vs) s at v (omega arith))

-- v is written, and then what a function makes of the bytes past v: they are as they were
pub write_next :
    (f : List ℕ → List ℕ) (v s : List ℕ) (at p : ℕ) {t : List ℕ}
    → at + length v ≡ p
    → t ≡ sets s at v
    → sets t p (f (drop p t)) ≡ sets s at (v ++ f (drop p s))
write_next f v s at p h e = rw (e, ← h, drop-sets v s at) (sets-append v (f (drop (at + length v) s)) s at)

-- a part of a slice that is filled with zeros
pub zeros_put : (s : List ℕ) (at n : ℕ) → at + n ≤ length s → put_mid at n s (replicate n 0) ≡ sets s at (replicate n 0)
zeros_put s at n h =
    sym (sets-eq (replicate n 0) s at (rw length-replicate h) ∙ rw (length-replicate, append_assoc, ← drop-drop n at s))

-- n bytes that are kept if they are used, and made zero if not

pub length-kept : (u : Bool) (n : ℕ) (r : List ℕ) → n ≤ length r → length (kept_if u n r) ≡ n
length-kept true n r h = length-take-le n r h
length-kept false n r h = length-replicate n 0

pub kept_join : (u : Bool) (n m : ℕ) (r : List ℕ) → kept_if u n r ++ kept_if u m (drop n r) ≡ kept_if u (n + m) r
kept_join true n m r = sym (take-add n m r)
kept_join false n m r = replicate-append-replicate n m 0
