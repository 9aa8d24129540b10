-- Submissions over lent bytes, computed, as one list with one claim: examples 7 and 8, and lists, cuts and starts that demand 3 speaks of.
use Prim.Native.Nat.{ℕ, ◌-◌, ◌^◌}
use mathlib.Core.Path.{◌≡◌, refl}
use mathlib.Core.Option.{Option, none, some}
use mathlib.Core.List.{List, [], ◌∷◌, ◌++◌, flatten}
use lib.ListN.{length, replicate}
use Rattle.wire.specs.Wire.{le_at, le_bytes}
use Rattle.ray_tracing.specs.Guard.{refuse}
use Rattle.ray_tracing.specs.Reading.{judge_fields, judge_records, judge_lent}
use Rattle.ray_tracing.specs.Causes.{Cause, cause, unbuilt_in_use, bare}
use Rattle.ray_tracing.specs.Submission.{Lent, Piece, Action, build, malformed, accepted, refused, Outcome, ◌leaving◌, blas_in, tlas_in, list_in, judge, judge_lists, packages_at, packages_lent, action, decode_cells, decode, before, built_blas, built_blases, built_tlas, build_tlases, act, step, run, submission}
use Rattle.ray_tracing.specs.History.{Built, Latest, latest, log, allowed, acts, tell_action, tell_actions}
use Rattle.ray_tracing.specs.Claim.{Cut}

-- ---- bytes

-- a Blas by its state, destroyed byte and number, of 300 bytes of scratch and some address
abbrev pub blas_with : ℕ → ℕ → ℕ → List ℕ
blas_with state destroyed n = 0 ∷ 7 ∷ state ∷ destroyed ∷ (le_bytes 8 300 ++ (le_bytes 8 77 ++ le_bytes 8 n))

abbrev pub blas_bytes : ℕ → List ℕ
blas_bytes n = blas_with 0 0 n

abbrev pub tlas_bytes : ℕ → List ℕ
tlas_bytes n = 2 ∷ 0 ∷ (le_bytes 8 1000 ++ (le_bytes 4 5 ++ le_bytes 8 n))

-- two Blases and a Tlas with their numbers, its list, and cells of 9 behind it
abbrev pub lent : ℕ → ℕ → ℕ → ℕ → List ℕ → ℕ → Lent
lent c b₀ b₁ t list rest =
    record {
      counter = c;
      blases = blas_bytes b₀ ++ blas_bytes b₁;
      tlases = tlas_bytes t;
      dependency_counts = length list ∷ [];
      dependencies = list ++ replicate rest 9;
    }

abbrev pub piece : List ℕ → List ℕ → Piece
piece actions lists = record { actions = actions; lists = lists }

-- Build of B0 and T0 over B0, use T0; then mark B0, use T0
abbrev pub lists_7 : List ℕ
lists_7 = 0 ∷ 0 ∷ 1 ∷ 0 ∷ []

abbrev pub first_7 : List ℕ
first_7 = 1 ∷ 0 ∷ 1 ∷ 1 ∷ 2 ∷ 0 ∷ 0 ∷ 0 ∷ []

abbrev pub second_7 : List ℕ
second_7 = 3 ∷ 0 ∷ 0 ∷ 0 ∷ 2 ∷ 0 ∷ 0 ∷ 0 ∷ []

-- one Blas and a Tlas that lists it
abbrev pub single : ℕ → List ℕ → ℕ → Lent
single c b t =
    record { counter = c; blases = b; tlases = tlas_bytes t; dependency_counts = 1 ∷ []; dependencies = 0 ∷ replicate 511 9 }

-- ---- cases

-- what is lent, its piece and the outcome; a start and why it is refused; a piece cut; actions and the log that the history makes of them;
-- and what it then knows of a Tlas
pub data Example : Type 0 where
  submitting : Lent → Piece → Outcome → Example
  judging : Lent → Option Cause → Example
  cutting : Piece → List Piece → Example
  telling : Lent → List Action → List Built → Example
  knowing : Lent → List Action → ℕ → Latest → Example

abbrev pub Shows : Example → Type 0
Shows (submitting l p o) = submission l (decode p) ≡ o
Shows (judging l c) = judge l ≡ c
Shows (cutting p ps) = Cut p ps
Shows (telling l acts' h) = log (tell_actions l [] acts') ≡ h
Shows (knowing l acts' t x) = latest l (log (tell_actions l [] acts')) t ≡ x

abbrev pub AllShow : List Example → Type 0
AllShow [] = Unit {0}
AllShow (e ∷ es) = Shows e × AllShow es

abbrev pub start : Lent
start = lent 5 0 0 0 [] 512

-- the Build of example 7, as the history has it
abbrev pub built_7 : Built
built_7 = record { number = 5; blases = 0 ∷ []; tlases = record { tlas = 0; dependencies = 0 ∷ [] } ∷ [] }

-- lists of a Build with T0 twice: over both Blases, then over B1 alone
abbrev pub lists_twice : List ℕ
lists_twice = 0 ∷ 1 ∷ 0 ∷ 2 ∷ 0 ∷ 1 ∷ 0 ∷ 1 ∷ 1 ∷ []

abbrev pub list : List Example
list =
    -- 0: example 7, whose start is not refused; in two pieces; and as one list, 44 at action 3, next 7
    judging start none
    ∷ submitting start (piece first_7 lists_7) (accepted leaving lent 6 5 0 5 (0 ∷ []) 511)
    ∷ submitting (lent 6 5 0 5 (0 ∷ []) 511) (piece second_7 []) (refused 1 (cause 44 0 0 0) leaving lent 7 6 0 5 (0 ∷ []) 511)
    ∷ cutting (piece (first_7 ++ second_7) lists_7) (piece first_7 lists_7 ∷ piece second_7 [] ∷ [])
    ∷ submitting start (piece (first_7 ++ second_7) lists_7) (refused 3 (cause 44 0 0 0) leaving lent 7 6 0 5 (0 ∷ []) 511)
    -- 5: 42 ends a Build in the second piece: T0 over B1, which has no number; the Build's own B0 and the counter's step stand
    ∷ submitting (lent 6 5 0 5 (0 ∷ []) 511) (piece (1 ∷ 1 ∷ 1 ∷ 1 ∷ []) (7 ∷ 0 ∷ 0 ∷ 1 ∷ 1 ∷ []))
    (refused 0 (cause 42 1 0 0) leaving lent 7 6 0 5 (0 ∷ []) 511)
    ∷ cutting (piece (first_7 ++ (1 ∷ 4 ∷ 1 ∷ 1 ∷ [])) (lists_7 ++ (0 ∷ 0 ∷ 1 ∷ 1 ∷ [])))
    (piece first_7 lists_7 ∷ piece (1 ∷ 1 ∷ 1 ∷ 1 ∷ []) (7 ∷ 0 ∷ 0 ∷ 1 ∷ 1 ∷ []) ∷ [])
    -- 7: an action of no kind in a middle piece
    ∷ submitting (lent 6 5 0 5 (0 ∷ []) 511) (piece (257 ∷ 0 ∷ 0 ∷ 0 ∷ []) []) (refused 0 (bare 5) leaving lent 6 5 0 5 (0 ∷ []) 511)
    ∷ cutting (piece (first_7 ++ (257 ∷ 0 ∷ 0 ∷ 0 ∷ second_7)) lists_7)
    (piece first_7 lists_7 ∷ piece (257 ∷ 0 ∷ 0 ∷ 0 ∷ []) [] ∷ piece second_7 [] ∷ [])
    -- 9: T0's starting number, 4, is below the counter: B1 is built, which T0 does not list, and the use passes
    ∷ judging (lent 5 3 0 4 (0 ∷ []) 511) none
    ∷ submitting (lent 5 3 0 4 (0 ∷ []) 511) (piece (3 ∷ 1 ∷ 0 ∷ 0 ∷ 2 ∷ 0 ∷ 0 ∷ 0 ∷ []) []) (accepted leaving lent 6 3 5 4 (0 ∷ []) 511)
    -- 11: the last sentence needs its premise: T0's starting number, 7, is above the counter, and B0, built later, is used all the same
    ∷ submitting (lent 5 3 0 7 (0 ∷ []) 511) (piece second_7 []) (accepted leaving lent 6 5 0 7 (0 ∷ []) 511)
    -- 12: example 8: counter 2^64 - 1: Build accepted, next 0; another is 40
    ∷ submitting (lent (2 ^ 64 - 1) 0 0 0 [] 512) (piece (1 ∷ 0 ∷ 1 ∷ 1 ∷ []) lists_7)
    (accepted leaving lent 0 (2 ^ 64 - 1) 0 (2 ^ 64 - 1) (0 ∷ []) 511)
    ∷ submitting (lent 0 (2 ^ 64 - 1) 0 (2 ^ 64 - 1) (0 ∷ []) 511) (piece (1 ∷ 0 ∷ 1 ∷ 1 ∷ []) lists_7)
    (refused 0 (bare 40) leaving lent 0 (2 ^ 64 - 1) 0 (2 ^ 64 - 1) (0 ∷ []) 511)
    -- 14: T0 built over B0, then a Build of B1 alone: the use passes, and by the history that Build came after T0's own
    ∷ submitting start (piece (1 ∷ 0 ∷ 1 ∷ 1 ∷ 3 ∷ 1 ∷ 0 ∷ 0 ∷ 2 ∷ 0 ∷ 0 ∷ 0 ∷ []) lists_7) (accepted leaving lent 7 5 6 5 (0 ∷ []) 511)
    ∷ telling start (decode (piece (1 ∷ 0 ∷ 1 ∷ 1 ∷ 3 ∷ 1 ∷ 0 ∷ 0 ∷ []) lists_7)) (record { number = 6; blases = 1 ∷ []; tlases = [] } ∷ built_7 ∷ [])
    -- 16: a Tlas listed twice in one Build has the later list, by the history too; a cell behind it is of the longer one
    ∷ submitting start (piece (1 ∷ 0 ∷ 2 ∷ 2 ∷ []) lists_twice)
    (accepted leaving record { counter = 6; blases = blas_bytes 5 ++ blas_bytes 5; tlases = tlas_bytes 5; dependency_counts = 1 ∷ []; dependencies = 1 ∷ 1 ∷ replicate 510 9 })
    ∷ knowing start (decode (piece (1 ∷ 0 ∷ 2 ∷ 2 ∷ []) lists_twice)) 0 (record { number = 5; dependencies = 1 ∷ [] })
    -- 18: listed twice, the second time with a Blas without number: 42, and the first stands, with the Build's Blas and the counter's step
    ∷ submitting start (piece (1 ∷ 0 ∷ 1 ∷ 2 ∷ []) (0 ∷ 0 ∷ 1 ∷ 0 ∷ 0 ∷ 1 ∷ 1 ∷ [])) (refused 0 (cause 42 1 0 0) leaving lent 6 5 0 5 (0 ∷ []) 511)
    -- 19: a mark of a Tlas empties its list: a use then passes whatever it listed
    ∷ submitting (lent 5 9 0 4 (0 ∷ 1 ∷ []) 510) (piece (4 ∷ 0 ∷ 0 ∷ 0 ∷ 2 ∷ 0 ∷ 0 ∷ 0 ∷ []) [])
    (accepted leaving record { counter = 6; blases = blas_bytes 9 ++ blas_bytes 0; tlases = tlas_bytes 5; dependency_counts = 0 ∷ []; dependencies = 0 ∷ 1 ∷ replicate 510 9 })
    -- 20: 4 goes by the count itself, above what could be read
    ∷ judging (record { counter = 5; blases = []; tlases = tlas_bytes 0; dependency_counts = 513 ∷ []; dependencies = replicate 512 0 }) (some (bare 4))
    -- 21: a count of 2^32 - 1 Tlases runs past what is lent, and a part of an action is none: 5, and nothing is told of what follows
    ∷ submitting start (piece (1 ∷ 0 ∷ 1 ∷ 4294967295 ∷ 2 ∷ 0 ∷ []) lists_7) (refused 0 (bare 5) leaving start)
    ∷ submitting start (piece (2 ∷ 0 ∷ []) []) (refused 0 (bare 5) leaving start)
    ∷ telling start (malformed ∷ build (0 ∷ []) [] ∷ []) []
    -- 24: a Blas newer and destroyed is 44; one without number and destroyed is 42, and gives Tlas, Blas
    ∷ submitting (single 9 (blas_with 0 1 5) 4) (piece (2 ∷ 0 ∷ 0 ∷ 0 ∷ []) []) (refused 0 (cause 44 0 0 0) leaving single 9 (blas_with 0 1 5) 4)
    ∷ submitting (single 9 (blas_with 0 1 0) 4) (piece (2 ∷ 0 ∷ 0 ∷ 0 ∷ []) []) (refused 0 (unbuilt_in_use 0 0) leaving single 9 (blas_with 0 1 0) 4)
    -- 26: a Blas to build is compacted, and the counter is 0: 40
    ∷ submitting (single 0 (blas_with 3 0 5) 4) (piece (3 ∷ 0 ∷ 0 ∷ 0 ∷ []) []) (refused 0 (bare 40) leaving single 0 (blas_with 3 0 5) 4)
    -- 27: a Blas that is Ready turns Idle when it is built
    ∷ submitting (single 9 (blas_with 2 0 5) 4) (piece (3 ∷ 0 ∷ 0 ∷ 0 ∷ []) []) (accepted leaving single 10 (blas_with 0 0 9) 4)
    ∷ []

pub all : AllShow list
unfolding judge judge_lent judge_records judge_fields judge_lists le_at le_bytes blas_in tlas_in list_in refuse packages_at packages_lent action decode_cells before built_blas built_blases built_tlas build_tlases act step run submission allowed acts tell_action tell_actions flatten
all = ((refl, (refl, (refl, (refl, (refl, (refl, (refl, (refl, (refl, (refl, (refl, (refl, (refl, (refl, (refl, (refl, (refl, (refl, (refl, (refl, (refl, (refl, (refl, (refl, (refl, (refl, (refl, (refl, tt)))))))))))))))))))))))))))))
