-- Where the declared geometries of a Blas stand in section 3, and an index by which each is found from the one before it. Assumes
-- nothing.
use Rattle.std.specs.Prelude.{ℕ, zero, suc, ◌+◌, ◌-◌, ◌*◌, ◌/◌, ◌≤◌, ◌<◌, ◌≡◌, cond, List, length, get_or, ltb, eqb}
use Rattle.std.proofs.Math.Option.{Option, none, some}
use Rattle.ray_tracing.specs.declared.BlasGeometrySizeDescriptor.{BlasGeometrySizeDescriptor}
use Rattle.ray_tracing.specs.Layout.{layout, size}
use Rattle.ray_tracing.specs.Records.{field_at, declared_at}

-- how many declared geometries there are, and the Blas of one
abbrev pub declared_in : List ℕ → ℕ
declared_in t = length t / size 3

abbrev pub blas_of_declared : List ℕ → ℕ → ℕ
blas_of_declared t k = field_at 3 t (k * size 3) 0

-- of the m declared geometries from i on, where the j-th of the Blas stands; the end, i + m, if there are not so many
unfoldable pub nth_from : List ℕ → ℕ → ℕ → ℕ → ℕ → ℕ
nth_from t blas i zero j = i
nth_from t blas i (suc m) zero = cond (eqb (blas_of_declared t i) blas) i (nth_from t blas (i + 1) m zero)
nth_from t blas i (suc m) (suc j) =
    cond (eqb (blas_of_declared t i) blas) (nth_from t blas (i + 1) m j) (nth_from t blas (i + 1) m (suc j))

-- of all
abbrev pub nth_of : List ℕ → ℕ → ℕ → ℕ
nth_of t blas j = nth_from t blas 0 (declared_in t) j

-- the declared geometry that stands there, if one does
abbrev pub standing : List ℕ → ℕ → Option BlasGeometrySizeDescriptor
standing t k = cond (ltb k (declared_in t)) (some (declared_at t (k * size 3))) none

-- the index: the first of each Blas, and after each the next of the same Blas
abbrev pub Heads : List ℕ → List ℕ → Type 0
Heads t head = (blas : ℕ) → blas < (layout 2).most → get_or head blas 0 ≡ nth_of t blas 0

abbrev pub Nexts : List ℕ → List ℕ → Type 0
Nexts t next =
    (k : ℕ) → k < declared_in t → get_or next k 0 ≡ nth_from t (blas_of_declared t k) (k + 1) (declared_in t - (k + 1)) 0

-- the one after k
abbrev pub following : List ℕ → List ℕ → ℕ → ℕ
following t next k = cond (ltb k (declared_in t)) (get_or next k 0) k

-- what can be indexed
pub record Indexable (t : List ℕ) : Type 0 where
  pub few : declared_in t ≤ (layout 3).most
  pub small : (k : ℕ) → k < declared_in t → blas_of_declared t k < (layout 2).most
