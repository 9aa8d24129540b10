-- What judging has shown where an action acts. Assumes nothing.
use Rattle.std.specs.Prelude.{ℕ, ◌*◌, ◌/◌, ◌≤◌, ◌<◌, List, [], ◌∷◌, length, get_or}
use Rattle.ray_tracing.specs.Submission.{Package, Buffers, blas_size, tlas_size, most_dependencies}

-- the records of a table
abbrev pub blases_in : List ℕ → ℕ
blases_in t = length t / blas_size

abbrev pub tlases_in : List ℕ → ℕ
tlases_in t = length t / tlas_size

-- each of the ids is below n
abbrev pub Inside : List ℕ → ℕ → Type 0
Inside ids n = (k : ℕ) → k < length ids → get_or ids k 0 < n

-- n Tlases have their counts and the room for their lists
abbrev pub ListRoom : ℕ → List ℕ → List ℕ → Type 0
ListRoom n c d = (n ≤ length c) × (n * most_dependencies ≤ length d)

-- all of a submission's Tlases have
abbrev pub HasRoom : Buffers → Type 0
HasRoom x = ListRoom (tlases_in x.tlases) x.dependency_counts x.dependencies

-- a Tlas of a Build and what it lists, in tables of nb Blases and nt Tlases
pub record Listed (nb nt : ℕ) (p : Package) : Type 0 where
  pub tlas : p.tlas < nt
  pub few : length p.dependencies ≤ most_dependencies
  pub inside : Inside p.dependencies nb

unfoldable pub AllListed : ℕ → ℕ → List Package → Type 0
AllListed nb nt [] = Unit {0}
AllListed nb nt (p ∷ ps) = Listed nb nt p × AllListed nb nt ps
