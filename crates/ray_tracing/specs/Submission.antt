-- "Submission", in the paper's order and words, over what is lent, as bytes and cells: an outcome tells each of them. Assumes nothing.
use Rattle.std.specs.Prelude.{ℕ, zero, suc, ◌+◌, ◌*◌, ◌/◌, ◌%◌, ◌^◌, ◌≡◌, Bool, true, false, ◌&&◌, cond, List, [], ◌∷◌, length, take, drop, get_or, set, ltb, leb, eqb, Result, Ok, Err}
use Rattle.std.proofs.Math.Option.{Option, none, some}
use Rattle.std.proofs.lemmas.List.Edits.{sets}
use Rattle.wire.specs.Wire.{le_bytes}
use Rattle.ray_tracing.specs.declared.Blas.{Blas}
use Rattle.ray_tracing.specs.declared.Tlas.{Tlas}
use Rattle.ray_tracing.specs.declared.SubmissionRefusal.{SubmissionRefusal}
use Rattle.ray_tracing.specs.declared.SubmissionBuffers.{SubmissionBuffers}
use Rattle.ray_tracing.specs.declared.CommandIndices.{CommandIndices}
use Rattle.ray_tracing.specs.declared.Validated.{Validated}
use Rattle.ray_tracing.specs.Layout.{layout, size, place_of, width_of}
use Rattle.ray_tracing.specs.Mentions.{blas_mention, tlas_mention, blas_of, tlas_of}
use Rattle.ray_tracing.specs.Reading as reading
use Rattle.ray_tracing.specs.Causes.{Cause, cause, unbuilt_in_use, bare, submission_cause}

infixr 30 ◌or_else◌
infix 20 ◌leaving◌
infixl 10 ◌followed_by◌
-- ---- what is lent

-- the counter, the Blases and Tlases as bytes, and for each Tlas the length of its list and the cells with room for it
pub record Lent : Type 0 where
  pub counter : ℕ
  pub blases : List ℕ
  pub tlases : List ℕ
  pub dependency_counts : List ℕ
  pub dependencies : List ℕ

-- a submission's actions, four cells each, and the cells that have their lists
pub record Piece : Type 0 where
  pub actions : List ℕ
  pub lists : List ℕ

-- as a call is lent them
abbrev pub lent_of : ℕ → List ℕ → List ℕ → List ℕ → List ℕ → Lent
lent_of n b t c d = record { counter = n; blases = b; tlases = t; dependency_counts = c; dependencies = d }

abbrev pub piece_of : List ℕ → List ℕ → Piece
piece_of actions lists = record { actions = actions; lists = lists }

-- "a Build lists at most 64 Blases and 32 Tlases, and a Tlas at most 512 Blases"
abbrev pub most_blases : ℕ
most_blases = 64

abbrev pub most_tlases : ℕ
most_tlases = 32

abbrev pub most_dependencies : ℕ
most_dependencies = 512

-- records by id
abbrev pub blas_size : ℕ
blas_size = size 2

abbrev pub tlas_size : ℕ
tlas_size = size 4

abbrev pub blas_count : Lent → ℕ
blas_count l = length l.blases / blas_size

abbrev pub tlas_count : Lent → ℕ
tlas_count l = length l.tlases / tlas_size

unfoldable pub blas_in : List ℕ → ℕ → Blas
blas_in t b = blas_of t b

unfoldable pub tlas_in : List ℕ → ℕ → Tlas
tlas_in t i = tlas_of t i

-- the first cells of the Tlas's room, as many as its count says
unfoldable pub list_in : List ℕ → List ℕ → ℕ → List ℕ
list_in counts cells t = take (get_or counts t 0) (drop (t * most_dependencies) cells)

abbrev pub blas : Lent → ℕ → Blas
blas l b = blas_in l.blases b

abbrev pub tlas : Lent → ℕ → Tlas
tlas l t = tlas_in l.tlases t

abbrev pub dependencies_of : Lent → ℕ → List ℕ
dependencies_of l t = list_in l.dependency_counts l.dependencies t

-- ---- the first cause

abbrev pub cause_when : Bool → Cause → Option Cause
cause_when true c = some c
cause_when false c = none

-- the first of two
abbrev pub ◌or_else◌ : Option Cause → Option Cause → Option Cause
◌or_else◌ none d = d
◌or_else◌ (some c) d = some c

-- the first over a list, in its order
abbrev pub first : {A : Type 0} → (A → Option Cause) → List A → Option Cause
first f [] = none
first f (x ∷ xs) = f x or_else first f xs

-- "id outside its table": each mention of a Blas and of a Tlas, wherever it stands, is judged by its sort's one rule; 0 is nothing
abbrev pub mentioned : ℕ → Option Cause
mentioned zero = none
mentioned (suc n) = some (bare (suc n))

abbrev pub mention_blas : Lent → ℕ → Option Cause
mention_blas l b = mentioned (blas_mention l.blases b)

abbrev pub mention_tlas : Lent → ℕ → Option Cause
mention_tlas l t = mentioned (tlas_mention l.tlases t)

-- ---- "The start is judged before all actions, at action 0"

-- "sections 2 and 4 as in a build"
abbrev pub table_cause : reading.Judged → Option Cause
table_cause reading.fine = none
table_cause (reading.refused n p) = some (bare n)

abbrev pub judge_blases : Lent → Option Cause
judge_blases l = table_cause (reading.judge_lent 2 (layout 2) (size 1) [] l.blases)

abbrev pub judge_tlases : Lent → Option Cause
judge_tlases l = table_cause (reading.judge_lent 4 (layout 4) (size 3) [] l.tlases)

-- "39 unless each Tlas's plant list has room for 512"
abbrev pub judge_room : Lent → Option Cause
judge_room l =
    cause_when (ltb (length l.dependency_counts) (tlas_count l)) (bare 39)
    or_else cause_when (ltb (length l.dependencies) (tlas_count l * most_dependencies)) (bare 39)

-- "then starting plant lists by Tlas, 4 above 512 Blases, 6 outside the table": 4 goes by the count itself
abbrev pub judge_list : Lent → ℕ → Option Cause
judge_list l t =
    cause_when (ltb most_dependencies (get_or l.dependency_counts t 0)) (bare 4)
    or_else first (mention_blas l) (dependencies_of l t)

-- the lists of n Tlases from t on
unfoldable pub judge_lists : Lent → ℕ → ℕ → Option Cause
judge_lists l t zero = none
judge_lists l t (suc n) = judge_list l t or_else judge_lists l (t + 1) n

unfoldable pub judge : Lent → Option Cause
judge l = judge_blases l or_else judge_tlases l or_else judge_room l or_else judge_lists l 0 (tlas_count l)

-- ---- actions

-- a Tlas that a Build lists, with the Blases that it lists for it
pub record Package : Type 0 where
  pub tlas : ℕ
  pub dependencies : List ℕ

pub data Action : Type 0 where
  build : List ℕ → List Package → Action
  use_tlas : ℕ → Action
  malformed : Action

-- "A mark is a Build whose Tlases list nothing"
abbrev pub mark_blas : ℕ → Action
mark_blas b = build (b ∷ []) []

abbrev pub mark_tlas : ℕ → Action
mark_tlas t = build [] (record { tlas = t; dependencies = [] } ∷ [])

-- the list of one Tlas, from a cell on: its id, its dependency count, its dependencies
abbrev pub package_from : List ℕ → ℕ → Package
package_from lists at =
    record { tlas = get_or lists at 0; dependencies = take (get_or lists (at + 1) 0) (drop (at + 2) lists) }

abbrev pub past_package : List ℕ → ℕ → ℕ
past_package lists at = at + 2 + get_or lists (at + 1) 0

-- the lists of n Tlases
unfoldable pub packages_at : List ℕ → ℕ → ℕ → List Package
packages_at lists at zero = []
packages_at lists at (suc n) = package_from lists at ∷ packages_at lists (past_package lists at) n

-- none of them runs past what is lent
unfoldable pub packages_lent : List ℕ → ℕ → ℕ → Bool
packages_lent lists at zero = true
packages_lent lists at (suc n) =
    elim (leb (past_package lists at) (length lists)) [ true ↦ packages_lent lists (past_package lists at) n | false ↦ false ]

-- a Build's lists, from a cell on: its Blases, then its Tlases' lists
abbrev pub build_at : List ℕ → ℕ → ℕ → ℕ → Action
build_at lists at blases tlases =
    elim (leb (at + blases) (length lists) && packages_lent lists (at + blases) tlases) [
      | true ↦ build (take blases (drop at lists)) (packages_at lists (at + blases) tlases)
      | false ↦ malformed
    ]

-- "Add, beside the old mark, a mark that names each Tlas's Blases: kind 5 ... Every rule takes it for a Build of those lists"
abbrev pub taken_for : ℕ → ℕ
taken_for kind = cond (eqb kind 5) 1 kind

-- "Actions: kind, operand: 1 the recorded build, 2 use of a Tlas, 3 mark of one Blas, 4 mark of one Tlas", and a Build's two counts
abbrev pub action_of : List ℕ → ℕ → ℕ → ℕ → ℕ → Action
action_of lists kind operand blases tlases =
    elim (eqb kind 1) [
      | true ↦ build_at lists operand blases tlases
      | false ↦ cond (eqb kind 2) (use_tlas operand)
          (cond (eqb kind 3) (mark_blas operand) (cond (eqb kind 4) (mark_tlas operand) malformed))
    ]

-- an action by its cells
unfoldable pub action : List ℕ → ℕ → ℕ → ℕ → ℕ → Action
action lists kind operand blases tlases = action_of lists (taken_for kind) operand blases tlases

-- four cells after four; a part of an action at the end is none
unfoldable pub decode_cells : List ℕ → List ℕ → List Action
decode_cells lists [] = []
decode_cells lists (k ∷ o ∷ b ∷ t ∷ more) = action lists k o b t ∷ decode_cells lists more
decode_cells lists (k ∷ []) = malformed ∷ []
decode_cells lists (k ∷ o ∷ []) = malformed ∷ []
decode_cells lists (k ∷ o ∷ b ∷ []) = malformed ∷ []

abbrev pub decode : Piece → List Action
decode p = decode_cells p.lists p.actions

-- ---- what is answered, and what is left

-- accepted, or the first refused action with its cause
pub data Answer : Type 0 where
  accepted : Answer
  refused : ℕ → Cause → Answer

pub data Outcome : Type 0 where
  ◌leaving◌ : Answer → Lent → Outcome

abbrev pub left : Outcome → Lent
left (a leaving l) = l

-- "number, action, two figures"
pub record Numbers : Type 0 where
  pub number : ℕ
  pub action : ℕ
  pub first : ℕ
  pub second : ℕ

abbrev pub answer_numbers : Answer → Numbers
answer_numbers accepted = record { number = 0; action = 0; first = 0; second = 0 }
answer_numbers (refused i c) = record { number = c.number; action = i; first = c.first; second = c.second }

-- an outcome, and if it is accepted, what follows on what it left
abbrev pub ◌followed_by◌ : Outcome → (Lent → Outcome) → Outcome
◌followed_by◌ (accepted leaving l) f = f l
◌followed_by◌ (refused i c leaving l) f = refused i c leaving l

-- actions counted through, after n others
abbrev pub later : ℕ → Outcome → Outcome
later n (accepted leaving l) = accepted leaving l
later n (refused i c leaving l) = refused (n + i) c leaving l

-- "A refusal leaves all as it was"
abbrev pub unless_cause : Option Cause → Lent → Outcome → Outcome
unless_cause none l o = o
unless_cause (some c) l o = refused 0 c leaving l

-- ---- "Before an action acts"

-- 4, over the whole action
abbrev pub too_many : List ℕ → List Package → Option Cause
too_many bs ps =
    cause_when (ltb most_blases (length bs)) (bare 4)
    or_else cause_when (ltb most_tlases (length ps)) (bare 4)
    or_else first (λ p. cause_when (ltb most_dependencies (length p.dependencies)) (bare 4)) ps

-- "each Tlas and its plants"
abbrev pub mention_package : Lent → Package → Option Cause
mention_package l p = mention_tlas l p.tlas or_else first (mention_blas l) p.dependencies

-- 41, "Blas to build is compacted": action, Blas
abbrev pub compacted : Lent → ℕ → Option Cause
compacted l b = cause_when (eqb (blas l b).compacted_state 3) (cause 41 b 0 0)

-- "5 (no such kind, or a list of its own past what is lent), 4, 6 (Blases, then each Tlas and its plants), and for a Build 40, then 41"
unfoldable pub before : Lent → Action → Option Cause
before l malformed = some (bare 5)
before l (use_tlas t) = mention_tlas l t
before l (build bs ps) =
    too_many bs ps
    or_else first (mention_blas l) bs
    or_else first (mention_package l) ps
    or_else cause_when (eqb l.counter 0) (bare 40)
    or_else first (compacted l) bs

-- ---- "A Build"

-- field j of the record of section k at a place, written
abbrev pub put_field : ℕ → List ℕ → ℕ → ℕ → ℕ → List ℕ
put_field k t at j v = sets t (place_of (layout k).fields at j) (le_bytes (width_of (layout k).fields j) v)

-- a Blas gets the number (field 6) and turns Idle (field 2)
unfoldable pub built_blas : ℕ → ℕ → List ℕ → List ℕ
built_blas n b t = put_field 2 (put_field 2 t (b * blas_size) 2 0) (b * blas_size) 6 n

unfoldable pub built_blases : ℕ → List ℕ → List ℕ → List ℕ
built_blases n [] t = t
built_blases n (b ∷ bs) t = built_blases n bs (built_blas n b t)

-- "A Build takes the counter as its number, and the counter steps from 2^64 - 1 round to 0 ... All its Blases get the number and turn Idle"
abbrev pub build_blases : List ℕ → Lent → Lent
build_blases bs l =
    record {
      counter = (l.counter + 1) % 2 ^ 64;
      blases = built_blases l.counter bs l.blases;
      tlases = l.tlases;
      dependency_counts = l.dependency_counts;
      dependencies = l.dependencies;
    }

-- a Tlas gets "number and plant list": the number (field 4), the list's length, and its cells
unfoldable pub built_tlas : ℕ → ℕ → List ℕ → List ℕ
built_tlas n t table = put_field 4 table (t * tlas_size) 4 n

abbrev pub build_tlas : ℕ → Package → Lent → Lent
build_tlas n p l =
    record {
      counter = l.counter;
      blases = l.blases;
      tlases = built_tlas n p.tlas l.tlases;
      dependency_counts = set l.dependency_counts p.tlas (length p.dependencies);
      dependencies = sets l.dependencies (p.tlas * most_dependencies) p.dependencies;
    }

-- "42 on the first listed Blas without number", which gives Blas, Tlas
abbrev pub unnumbered : Lent → ℕ → ℕ → Option Cause
unnumbered l t b = cause_when (eqb (blas l b).built_index 0) (cause 42 b t 0)

-- "then each Tlas in turn: 42 on the first listed Blas without number, else number and plant list"
unfoldable pub build_tlases : ℕ → List Package → Lent → Outcome
build_tlases n [] l = accepted leaving l
build_tlases n (p ∷ ps) l =
    unless_cause (first (unnumbered l p.tlas) p.dependencies) l (build_tlases n ps (build_tlas n p l))

-- ---- "A use: 43, then per listed Blas 42, 44, 21"

-- 42 gives Tlas, Blas; 44 Blas, Tlas; 21 Blas
abbrev pub unusable_blas : Lent → ℕ → ℕ → Option Cause
unusable_blas l t b =
    cause_when (eqb (blas l b).built_index 0) (unbuilt_in_use t b)
    or_else cause_when (ltb (tlas l t).built_index (blas l b).built_index) (cause 44 b t 0)
    or_else cause_when (eqb (blas l b).destroyed 1) (cause 21 b 0 0)

abbrev pub unusable : Lent → ℕ → Option Cause
unusable l t = cause_when (eqb (tlas l t).built_index 0) (cause 43 t 0 0) or_else first (unusable_blas l t) (dependencies_of l t)

-- ---- a submission

unfoldable pub act : Lent → Action → Outcome
act l (build bs ps) = build_tlases l.counter ps (build_blases bs l)
act l (use_tlas t) = unless_cause (unusable l t) l (accepted leaving l)
act l malformed = accepted leaving l

unfoldable pub step : Lent → Action → Outcome
step l a = unless_cause (before l a) l (act l a)

unfoldable pub run : Lent → List Action → Outcome
run l [] = accepted leaving l
run l (a ∷ more) = step l a followed_by λ r. later 1 (run r more)

unfoldable pub submission : Lent → List Action → Outcome
submission l actions = unless_cause (judge l) l (run l actions)

-- ---- a call

-- the four lent buffers that it may change
pub record Buffers : Type 0 where
  pub blases : List ℕ
  pub tlases : List ℕ
  pub dependency_counts : List ℕ
  pub dependencies : List ℕ

abbrev pub buffers_of : List ℕ → List ℕ → List ℕ → List ℕ → Buffers
buffers_of b t c d = record { blases = b; tlases = t; dependency_counts = c; dependencies = d }

-- as a call of the code is lent them
abbrev pub lent_buffers : SubmissionBuffers → Buffers
lent_buffers s = buffers_of s.blases.now s.tlases.now s.dependency_counts.now s.dependencies.now

-- they are still the slices that the caller lent
abbrev pub SameBuffers : SubmissionBuffers → SubmissionBuffers → Type 0
SameBuffers s t =
    (t.blases.ghost_name ≡ s.blases.ghost_name)
    × (t.tlases.ghost_name ≡ s.tlases.ghost_name)
    × (t.dependency_counts.ghost_name ≡ s.dependency_counts.ghost_name)
    × (t.dependencies.ghost_name ≡ s.dependencies.ghost_name)

abbrev pub lent_with : ℕ → Buffers → Lent
lent_with n x = lent_of n x.blases x.tlases x.dependency_counts x.dependencies

-- what the answer of `submit` says, and the counter in it
abbrev pub answer_of : Result ℕ SubmissionRefusal → Answer
answer_of (Ok n) = accepted
answer_of (Err r) = refused r.action (submission_cause r.error)

abbrev pub counter_of : Result ℕ SubmissionRefusal → ℕ
counter_of (Ok n) = n
counter_of (Err r) = r.counter

-- with what is left
abbrev pub outcome_of : Result ℕ SubmissionRefusal → List ℕ → List ℕ → List ℕ → List ℕ → Outcome
outcome_of s b t c d = answer_of s leaving lent_of (counter_of s) b t c d

-- a call of `submit`: lent the counter n, the buffers x and the piece p, it answered r and left y
abbrev pub Submits : ℕ → Buffers → Piece → Result ℕ SubmissionRefusal → Buffers → Type 0
Submits n x p r y =
    outcome_of r y.blases y.tlases y.dependency_counts y.dependencies ≡ submission (lent_with n x) (decode p)

-- what a caller sees who is told numbers: these, the counter, and the buffers
pub record Shown : Type 0 where
  pub numbers : Numbers
  pub counter : ℕ
  pub left : Buffers

abbrev pub shown : Outcome → Shown
shown (a leaving l) =
    record {
      numbers = answer_numbers a;
      counter = l.counter;
      left = buffers_of l.blases l.tlases l.dependency_counts l.dependencies;
    }

-- the numbers that `validate_acceleration_structure_actions` answers
abbrev pub numbers_of : Validated → Numbers
numbers_of v = record { number = v.number; action = v.action; first = v.first; second = v.second }

-- "`CommandIndices` is lent by `&mut` and its counter stepped there; `active_submission_index` never moves": a call with the indices i before
-- it and j after it
pub record Validates (i : CommandIndices) (x : Buffers) (p : Piece) (v : Validated) (j : CommandIndices) (y : Buffers) : Type 0
  where
    pub shows :
        record { numbers = numbers_of v; counter = j.next_acceleration_structure_build_command_index; left = y }
        ≡ shown (submission (lent_with i.next_acceleration_structure_build_command_index x) (decode p))
    pub unmoved : j.active_submission_index ≡ i.active_submission_index
