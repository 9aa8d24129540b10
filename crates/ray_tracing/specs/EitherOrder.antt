-- "Does it matter which desk submits first?", as callers see it: of any routine by its contract. A desk is a sender, a plant a Blas, a house a
-- Tlas. Assumes nothing.
use Rattle.std.specs.Prelude.{ℕ, ◌<◌, ◌≡◌, Bool, true, false, ◌&&◌, take, ltb}
use Rattle.ray_tracing.specs.Submission.{Lent, Piece, Package, Action, build, use_tlas, malformed, left, submission, decode, tlas_count, blas, tlas, dependencies_of, Buffers, lent_with, Shown}
use Rattle.ray_tracing.specs.History.{every}
use Rattle.ray_tracing.specs.Claim.{Routine, NumbersBelow}

-- ---- "Two desks send lists that share no Blas and no Tlas"

-- a sender has Blases and Tlases, by id; its list need not mention each
pub record Sender : Type 0 where
  pub blas : ℕ → Bool
  pub tlas : ℕ → Bool

-- "share no Blas and no Tlas"
pub record ShareNone (d e : Sender) : Type 0 where
  pub blases : (b : ℕ) → (d.blas b && e.blas b) ≡ false
  pub tlases : (t : ℕ) → (d.tlas t && e.tlas t) ≡ false

-- an action that mentions the sender's own alone: the Blases and Tlases that it builds or marks, the Blases that it lists, the Tlas that it
-- uses
abbrev pub own_package : Sender → Package → Bool
own_package d p = d.tlas p.tlas && every d.blas p.dependencies

abbrev pub own_action : Sender → Action → Bool
own_action d (build bs ps) = every d.blas bs && every (own_package d) ps
own_action d (use_tlas t) = d.tlas t
own_action d malformed = true

-- a sender and its list p, before a start l
pub record Sends (d : Sender) (p : Piece) (l : Lent) : Type 0 where
  pub own : every (own_action d) (decode p) ≡ true
  -- "every Tlas's starting list stays within its desk's plants"
  pub lists : (t : ℕ) → t < tlas_count l → d.tlas t ≡ true → every d.blas (dependencies_of l t) ≡ true

-- "every starting number is below the counter". That "the starting tables and lists draw no 4, 5 or 6" is not asked: a start that draws one
-- refuses every submission by it
pub record TwoSenders (l : Lent) (d e : Sender) (p q : Piece) : Type 0 where
  pub apart : ShareNone d e
  pub one : Sends d p l
  pub other : Sends e q l
  pub below : NumbersBelow l

-- ---- "each as one submission ... either order"

-- a call for p, then one for q on the tables, lists and counter that it left
pub record InOrder (R : Routine) (n : ℕ) (x : Buffers) (p q : Piece) : Type 0 where
  pub first : Shown
  pub second : Shown
  pub call_first : R n x p first
  pub call_second : R first.counter first.left q second

-- ---- "newer"

-- "plants and houses", by id
pub data Structure : Type 0 where
  a_blas : ℕ → Structure
  a_tlas : ℕ → Structure

abbrev pub own_structure : Sender → Structure → Bool
own_structure d (a_blas b) = d.blas b
own_structure d (a_tlas t) = d.tlas t

abbrev pub number_of : Lent → Structure → ℕ
number_of l (a_blas b) = (blas l b).built_index
number_of l (a_tlas t) = (tlas l t).built_index

-- x is newer than y, as 44 has it of a Blas and a Tlas that lists it; without a number one is newer than none
abbrev pub newer : Lent → Structure → Structure → Bool
newer l x y = ltb (number_of l y) (number_of l x)

-- "the same outcome of every 'newer' comparison among its own plants and houses"
abbrev pub SameNewer : Sender → Lent → Lent → Type 0
SameNewer d l r = (x y : Structure) → own_structure d x ≡ true → own_structure d y ≡ true → newer l x y ≡ newer r x y

-- what action i of a list meets, submitted on l: what the actions before it left, up to a refused one
abbrev pub met_by : ℕ → Piece → Lent → Lent
met_by i p l = left (submission l (take i (decode p)))

-- what a call left
abbrev pub left_by : Shown → Lent
left_by s = lent_with s.counter s.left

-- ---- the claim

-- of the sender d and its list p, which is first in o and second in o'
pub record SameInEither
    {R : Routine}
    {n : ℕ}
    {x : Buffers}
    {p q : Piece}
    (d : Sender)
    (o : InOrder R n x p q)
    (o' : InOrder R n x q p) : Type 0
  where
    -- "the same answer, figures included": number, action, two figures. "A list refused midway is covered"
    pub answer : o.first.numbers ≡ o'.second.numbers
    -- "newer" at each of its actions, which the uses among them go by, and after its last
    pub during : (i : ℕ) → SameNewer d (met_by i p (lent_with n x)) (met_by i p (left_by o'.first))
    -- and after both submissions
    pub after : SameNewer d (left_by o.second) (left_by o'.second)

-- "either order gives each list the same", where "neither order meets 40": asked of a list where it comes second alone
pub record EitherOrder (R : Routine) (n : ℕ) (x : Buffers) (d e : Sender) (p q : Piece) : Type 0 where
  pub one : (o : InOrder R n x p q) (o' : InOrder R n x q p) → ¬ (o'.second.numbers.number ≡ 40) → SameInEither d o o'
  pub other : (o : InOrder R n x p q) (o' : InOrder R n x q p) → ¬ (o.second.numbers.number ≡ 40) → SameInEither e o' o
