-- "a mark that names each Tlas's Blases: kind 5": what "Every rule takes it for a Build of those lists" says of whole submissions. Assumes
-- nothing.
use Rattle.std.specs.Prelude.{ℕ, cond, List, [], ◌∷◌, eqb}
use Rattle.ray_tracing.specs.Submission.{Piece}

-- four cells after four, with a Build's kind in place of that mark's; a part of an action at the end stays
abbrev pub as_builds : List ℕ → List ℕ
as_builds [] = []
as_builds (k ∷ []) = k ∷ []
as_builds (k ∷ o ∷ []) = k ∷ o ∷ []
as_builds (k ∷ o ∷ b ∷ []) = k ∷ o ∷ b ∷ []
as_builds (k ∷ o ∷ b ∷ t ∷ more) = cond (eqb k 5) 1 k ∷ o ∷ b ∷ t ∷ as_builds more

-- a submission's actions so, over the same lists
abbrev pub with_builds : Piece → Piece
with_builds p = record { actions = as_builds p.actions; lists = p.lists }
