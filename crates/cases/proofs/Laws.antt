-- A hash from the left goes on by one number at a time, and ends with the list. Assumes nothing.
use Prim.Native.Nat.{ℕ, ◌+◌, ◌≤◌, ◌<◌}
use native.Mathlib.Numerals.{add-one}
use mathlib.Core.Path.{◌≡◌}
use mathlib.Core.List.{List, map}
use lib.ListN.{length, get_or, drop}
use lib.Seq.{drop-cons, drop-length}
use Rattle.cases.specs.Hash.{hash, hash_step, hash_from}

module _ {A : Type 0} (f : A → ℕ) (s : List A) (h i : ℕ) (so_far : hash_from h (map f (drop i s)) ≡ hash (map f s)) where
  pub goes_on : (d : A) (r : ℕ) → i < length s → r ≡ hash_step h (f (get_or s i d)) → hash_from r (map f (drop (i + 1) s)) ≡ hash (map f s)
  unfolding hash_from
  goes_on d r below e = rw (e, add-one) (rw (drop-cons s i d) at so_far)

  pub ends : i ≡ length s → h ≡ hash (map f s)
  unfolding hash_from
  ends e = rw (e, drop-length) at so_far
