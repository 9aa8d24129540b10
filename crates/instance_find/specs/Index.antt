-- An index of Blases by their addresses: in each bucket one leads to the last before it. Assumes nothing.
use Rattle.std.specs.Prelude.{ℕ, zero, suc, ◌/◌, ◌%◌, ◌^◌, ◌≤◌, ◌<◌, ◌≡◌, cond, List, length, get_or, ltb, eqb, Some, None}
use Rattle.std.specs.Prelude as rust
use Rattle.std.proofs.Math.Option.{Option, none, some}
use Rattle.ray_tracing.specs.Layout.{size}
use Rattle.ray_tracing.specs.Mentions.{blas_of}
use Rattle.ray_tracing.specs.declared.BlasId.{BlasId}

abbrev pub blases_lent : List ℕ → ℕ
blases_lent blases = length blases / size 2

-- where an address is indexed
abbrev pub bucket : ℕ → ℕ
bucket address = address % 257

-- that of Blas k's
abbrev pub bucket_of : List ℕ → ℕ → ℕ
bucket_of blases k = bucket (blas_of blases k).handle

-- of the first n Blases how many there are up to the last of a bucket; 0 if it has none
unfoldable pub last_in : List ℕ → ℕ → ℕ → ℕ
last_in blases b zero = 0
last_in blases b (suc n) = cond (eqb (bucket_of blases n) b) (suc n) (last_in blases b n)

-- that for each bucket, and for each Blas among those before it
pub record IndexedUpTo (blases last before : List ℕ) (n : ℕ) : Type 0 where
  pub lasts : (b : ℕ) → b < 257 → get_or last b 0 ≡ last_in blases b n
  pub befores : (k : ℕ) → k < n → get_or before k 0 ≡ last_in blases (bucket_of blases k) k

-- the index of a table of at most 128; of a longer one nothing is said
abbrev pub Indexed : List ℕ → List ℕ → List ℕ → Type 0
Indexed blases last before = blases_lent blases ≤ 128 → IndexedUpTo blases last before (blases_lent blases)

-- of the first n Blases how many there are up to the last that may be in a bucket: of a longer table each may be
abbrev pub candidate : List ℕ → ℕ → ℕ → ℕ
candidate blases b n = cond (ltb 128 (blases_lent blases)) n (last_in blases b n)

-- what is found

abbrev pub found_of : rust.Option BlasId → Option ℕ
found_of None = none
found_of (Some b) = some b.0
