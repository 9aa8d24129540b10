-- The paper's history: a log of the Builds that acted, the newest first, "made of the start, the actions and their lent lists, not of
-- answers or tables between". Each definition takes the start l and the log h. Assumes nothing.
use Rattle.std.specs.Prelude.{ℕ, ◌+◌, ◌*◌, ◌%◌, ◌^◌, Bool, true, false, ◌&&◌, ◌||◌, not, List, [], ◌∷◌, length, get_or, eqb, leb, ltb}
use Rattle.std.proofs.Math.Option
use Rattle.std.proofs.Math.Option.{Option, none, some}
use Rattle.ray_tracing.specs.declared.Blas.{Blas}
use Rattle.ray_tracing.specs.declared.Tlas.{Tlas}
use Rattle.ray_tracing.specs.Submission.{Lent, Package, Action, build, use_tlas, malformed, blas_count, tlas_count, blas, tlas, dependencies_of}

-- ---- tests on lists

abbrev pub every : {A : Type 0} → (A → Bool) → List A → Bool
every f [] = true
every f (x ∷ xs) = f x && every f xs

-- the elements before the first that fails the test
abbrev pub while_holds : {A : Type 0} → (A → Bool) → List A → List A
while_holds f [] = []
while_holds f (x ∷ xs) = elim (f x) [ true ↦ x ∷ while_holds f xs | false ↦ [] ]

abbrev pub among : ℕ → List ℕ → Bool
among a [] = false
among a (x ∷ xs) = eqb a x || among a xs

-- ---- the log

-- a Build that acted: its number, and the Blases and Tlases that it built
pub record Built : Type 0 where
  pub number : ℕ
  pub blases : List ℕ
  pub tlases : List Package

-- "acting ones are numbered from the starting counter on"
abbrev pub next : Lent → List Built → ℕ
next l h = (l.counter + length h) % 2 ^ 64

-- ---- Blases

-- "A record's number is that of the last Build that built it ... else the starting ones"
abbrev pub blas_number : Lent → List Built → ℕ → ℕ
blas_number l [] b = (blas l b).built_index
blas_number l (e ∷ h) b = elim (among b e.blases) [ true ↦ e.number | false ↦ blas_number l h b ]

-- a Blas that a Build built is Idle
abbrev pub blas_state : Lent → List Built → ℕ → ℕ
blas_state l [] b = (blas l b).compacted_state
blas_state l (e ∷ h) b = elim (among b e.blases) [ true ↦ 0 | false ↦ blas_state l h b ]

-- "built so far" or "numbered at the start"
abbrev pub known : Lent → List Built → ℕ → Bool
known l [] b = not (eqb (blas l b).built_index 0)
known l (e ∷ h) b = among b e.blases || known l h b

-- ---- Tlases

-- a Tlas's number and the Blases that it lists
pub record Latest : Type 0 where
  pub number : ℕ
  pub dependencies : List ℕ

-- the first of two
abbrev pub first_given : {A : Type 0} → Option A → Option A → Option A
first_given (some x) y = some x
first_given none y = y

-- the list that a Build lists last for t
abbrev pub listed : ℕ → List Package → Option (List ℕ)
listed t [] = none
listed t (p ∷ ps) = first_given (listed t ps) (elim (eqb t p.tlas) [ true ↦ some p.dependencies | false ↦ none ])

abbrev pub built_with : ℕ → Option (List ℕ) → Latest → Latest
built_with n none x = x
built_with n (some d) x = record { number = n; dependencies = d }

-- "A record's number is that of the last Build that built it, a Tlas's plants the list it was last built with, else the starting ones"
abbrev pub latest : Lent → List Built → ℕ → Latest
latest l [] t = record { number = (tlas l t).built_index; dependencies = dependencies_of l t }
latest l (e ∷ h) t = built_with e.number (listed t e.tlases) (latest l h t)

-- the Builds after the last that built t
abbrev pub since : List Built → ℕ → List Built
since [] t = []
since (e ∷ h) t = elim (listed t e.tlases) [ some d ↦ [] | none ↦ e ∷ since h t ]

-- cell i of t's room: of the last list that reaches it
abbrev pub cell_listed : ℕ → ℕ → List Package → Option ℕ
cell_listed t i [] = none
cell_listed t i (p ∷ ps) =
    first_given (cell_listed t i ps)
    (elim (eqb t p.tlas && ltb i (length p.dependencies)) [ true ↦ some (get_or p.dependencies i 0) | false ↦ none ])

abbrev pub cell : Lent → List Built → ℕ → ℕ → ℕ
cell l [] t i = get_or l.dependencies (t * 512 + i) 0
cell l (e ∷ h) t i = Option.get_or (cell_listed t i e.tlases) (cell l h t i)

-- ---- "a use of a Tlas in the table by demand 3's rule"

-- a Blas that t lists "has one not above it and isn't destroyed"
abbrev pub usable_blas : Lent → List Built → ℕ → ℕ → Bool
usable_blas l h t b =
    not (eqb (blas_number l h b) 0) && (leb (blas_number l h b) (latest l h t).number && not (eqb (blas l b).destroyed 1))

-- "the Tlas has a number and each plant of its latest Build (or starting list) has one not above it and isn't destroyed"
abbrev pub usable : Lent → List Built → ℕ → Bool
usable l h t = not (eqb (latest l h t).number 0) && every (usable_blas l h t) (latest l h t).dependencies

-- ---- "A reached Build acts unless refused beforehand"

-- a list within its limit, of ids inside the table
abbrev pub list_allowed : ℕ → ℕ → List ℕ → Bool
list_allowed most count ids = leb (length ids) most && every (λ i. ltb i count) ids

abbrev pub package_allowed : Lent → Package → Bool
package_allowed l p = ltb p.tlas (tlas_count l) && list_allowed 512 (blas_count l) p.dependencies

-- "40 goes by its own numbering, 41 by the start"
unfoldable pub allowed : Lent → List Built → Action → Bool
allowed l h malformed = false
allowed l h (use_tlas t) = ltb t (tlas_count l)
allowed l h (build bs ps) =
    list_allowed 64 (blas_count l) bs
    && (leb (length ps) 32 && every (package_allowed l) ps)
    && not (eqb (next l h) 0)
    && every (λ b. not (eqb (blas l b).compacted_state 3)) bs

-- ---- what is told of actions

-- the log after an action, and whether the action passed
pub data Told : Type 0 where
  passed : List Built → Told
  stopped : List Built → Told

abbrev pub log : Told → List Built
log (passed h) = h
log (stopped h) = h

abbrev pub going : Told → Bool
going (passed h) = true
going (stopped h) = false

abbrev pub told : Bool → List Built → Told
told true h = passed h
told false h = stopped h

abbrev pub and_then : Told → (List Built → Told) → Told
and_then (passed h) f = f h
and_then (stopped h) f = stopped h

-- each Blas that the Tlas lists is among the Build's own, bs, or known
abbrev pub lists_known : Lent → List Built → List ℕ → Package → Bool
lists_known l h bs p = every (λ b. among b bs || known l h b) p.dependencies

-- "One builds its Blases, then its Tlases in turn, short of the first that lists a Blas neither built so far nor numbered at the start"
unfoldable pub acts : Lent → List Built → Action → Told
acts l h (build bs ps) =
    told (every (lists_known l h bs) ps)
    (record { number = next l h; blases = bs; tlases = while_holds (lists_known l h bs) ps } ∷ h)
acts l h (use_tlas t) = told (usable l h t) h
acts l h malformed = stopped h

unfoldable pub tell_action : Lent → List Built → Action → Told
tell_action l h a = elim (allowed l h a) [ true ↦ acts l h a | false ↦ stopped h ]

-- "Reached are a submission's actions through its first refused one"
unfoldable pub tell_actions : Lent → List Built → List Action → Told
tell_actions l h [] = passed h
tell_actions l h (a ∷ more) = and_then (tell_action l h a) (λ g. tell_actions l g more)

-- the log after a list of submissions, refused ones included
unfoldable pub history : Lent → List Built → List (List Action) → List Built
history l h [] = h
history l h (p ∷ ps) = history l (log (tell_actions l h p)) ps

-- ---- the records by the history

abbrev pub blas_by : Lent → List Built → ℕ → Blas
blas_by l h b =
    record {
      kind = (blas l b).kind;
      flags = (blas l b).flags;
      compacted_state = blas_state l h b;
      destroyed = (blas l b).destroyed;
      build_scratch_size = (blas l b).build_scratch_size;
      handle = (blas l b).handle;
      built_index = blas_number l h b;
    }

abbrev pub tlas_by : Lent → List Built → ℕ → Tlas
tlas_by l h t =
    record {
      flags = (tlas l t).flags;
      destroyed = (tlas l t).destroyed;
      build_scratch_size = (tlas l t).build_scratch_size;
      max_instance_count = (tlas l t).max_instance_count;
      built_index = (latest l h t).number;
    }
