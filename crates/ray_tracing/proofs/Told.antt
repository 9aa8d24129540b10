-- A submission's refusals are told by their numbers: each is above 0, and its third figure is 0.
use Prim.Native.Nat.{ℕ, zero, suc, ◌+◌, ◌*◌, ◌<◌}
use native.Mathlib.Omega.{arith}
use mathlib.Core.Path.{◌≡◌, refl}
use mathlib.Core.Bool.{Bool, true, false}
use mathlib.Core.Option.{Option, none, some}
use mathlib.Core.List.{List, [], ◌∷◌}
use lib.ListN.{length, get_or}
use lib.Dec.{eqb, ltb, lit<}
use Rattle.ray_tracing.specs.Mentions.{blas_mention, tlas_mention}
use Rattle.ray_tracing.specs.Layout.{layout, size}
use Rattle.ray_tracing.specs.Reading as reading
use Rattle.ray_tracing.specs.Causes.{Cause, cause, bare}
use Rattle.ray_tracing.specs.Submission.{Lent, Package, Action, build, use_tlas, malformed, accepted, refused, Outcome, ◌leaving◌, ◌followed_by◌, later, unless_cause, cause_when, ◌or_else◌, first, mentioned, mention_blas, table_cause, judge_list, judge_lists, judge, tlas_count, dependencies_of, most_blases, most_tlases, most_dependencies, blas, tlas, too_many, mention_package, compacted, before, build_blases, build_tlas, unnumbered, build_tlases, unusable_blas, unusable, act, step, run, submission}
use Rattle.ray_tracing.proofs.Lent.{Only, only_above, lent_only}

pub record Told (c : Cause) : Type 0 where
  pub above : 0 < c.number
  pub third : c.third ≡ 0

-- of what may be a cause, and of an outcome
pub data EachTold : Option Cause → Type 0 where
  no_cause : EachTold none
  a_cause : {c : Cause} → Told c → EachTold (some c)

pub data OutcomeTold : Outcome → Type 0 where
  is_accepted : {l : Lent} → OutcomeTold (accepted leaving l)
  is_refused : {i : ℕ} {c : Cause} {l : Lent} → Told c → OutcomeTold (refused i c leaving l)

told_or : {c d : Option Cause} → EachTold c → EachTold d → EachTold (c or_else d)
told_or no_cause q = q
told_or (a_cause p) q = a_cause p

told_when : (t : Bool) {c : Cause} → Told c → EachTold (cause_when t c)
told_when true p = a_cause p
told_when false p = no_cause

told-first : {A : Type 0} (f : A → Option Cause) → ((x : A) → EachTold (f x)) → (xs : List A) → EachTold (first f xs)
told-first f p [] = no_cause
told-first f p (x ∷ xs) = told_or (p x) (told-first f p xs)

told-cause : (n a b : ℕ) → 0 < n → Told (cause n a b 0)
told-cause n a b h = record { above = h; third = refl }

told-bare : (n : ℕ) → 0 < n → Told (bare n)
told-bare n h = told-cause n 0 0 h

told-mentioned : (n : ℕ) → EachTold (mentioned n)
told-mentioned zero = no_cause
told-mentioned (suc n) = a_cause (told-bare (suc n) (omega arith))

told-table : (j : reading.Judged) → Only j → EachTold (table_cause j)
told-table reading.fine o = no_cause
told-table (reading.refused n p) o = a_cause (told-bare n (omega (arith, only_above o)))

-- the start

told_list : (l : Lent) (t : ℕ) → EachTold (judge_list l t)
told_list l t =
    told_or (told_when (ltb most_dependencies (get_or l.dependency_counts t 0)) (told-bare 4 (lit< tt)))
    (told-first (mention_blas l) (λ b. told-mentioned (blas_mention l.blases b)) (dependencies_of l t))

told-lists : (l : Lent) (t n : ℕ) → EachTold (judge_lists l t n)
unfolding judge_lists
told-lists l t zero = no_cause
told-lists l t (suc n) = told_or (told_list l t) (told-lists l (t + 1) n)

told-judge : (l : Lent) → EachTold (judge l)
unfolding judge
told-judge l =
    told_or (told-table _ (lent_only 2 (layout 2) (size 1) [] l.blases))
    (told_or (told-table _ (lent_only 4 (layout 4) (size 3) [] l.tlases))
    (told_or
    (told_or (told_when (ltb (length l.dependency_counts) (tlas_count l)) (told-bare 39 (lit< tt)))
    (told_when (ltb (length l.dependencies) (tlas_count l * most_dependencies)) (told-bare 39 (lit< tt))))
    (told-lists l 0 (tlas_count l))))

-- an action

told_many : (bs : List ℕ) (ps : List Package) → EachTold (too_many bs ps)
told_many bs ps =
    told_or (told_when (ltb most_blases (length bs)) (told-bare 4 (lit< tt)))
    (told_or (told_when (ltb most_tlases (length ps)) (told-bare 4 (lit< tt)))
    (told-first (λ p. cause_when (ltb most_dependencies (length p.dependencies)) (bare 4))
    (λ p. told_when (ltb most_dependencies (length p.dependencies)) (told-bare 4 (lit< tt))) ps))

told-blases : (l : Lent) (bs : List ℕ) → EachTold (first (mention_blas l) bs)
told-blases l bs = told-first (mention_blas l) (λ b. told-mentioned (blas_mention l.blases b)) bs

told_package : (l : Lent) (p : Package) → EachTold (mention_package l p)
told_package l p = told_or (told-mentioned (tlas_mention l.tlases p.tlas)) (told-blases l p.dependencies)

told-before : (l : Lent) (a : Action) → EachTold (before l a)
unfolding before
told-before l malformed = a_cause (told-bare 5 (lit< tt))
told-before l (use_tlas t) = told-mentioned (tlas_mention l.tlases t)
told-before l (build bs ps) =
    told_or (told_many bs ps)
    (told_or (told-blases l bs)
    (told_or (told-first (mention_package l) (told_package l) ps)
    (told_or (told_when (eqb l.counter 0) (told-bare 40 (lit< tt)))
    (told-first (compacted l) (λ b. told_when (eqb (blas l b).compacted_state 3) (told-cause 41 b 0 (lit< tt))) bs))))

told-unless : {c : Option Cause} (l : Lent) {o : Outcome} → EachTold c → OutcomeTold o → OutcomeTold (unless_cause c l o)
told-unless l no_cause q = q
told-unless l (a_cause p) q = is_refused p

told-tlases : (n : ℕ) (ps : List Package) (l : Lent) → OutcomeTold (build_tlases n ps l)
unfolding build_tlases
told-tlases n [] l = is_accepted
told-tlases n (p ∷ ps) l =
    told-unless l
    (told-first (unnumbered l p.tlas) (λ b. told_when (eqb (blas l b).built_index 0) (told-cause 42 b p.tlas (lit< tt))) p.dependencies)
    (told-tlases n ps (build_tlas n p l))

told-unusable_blas : (l : Lent) (t b : ℕ) → EachTold (unusable_blas l t b)
told-unusable_blas l t b =
    told_or (told_when (eqb (blas l b).built_index 0) (record { above = lit< tt; third = refl }))
    (told_or (told_when (ltb (tlas l t).built_index (blas l b).built_index) (told-cause 44 b t (lit< tt)))
    (told_when (eqb (blas l b).destroyed 1) (told-cause 21 b 0 (lit< tt))))

told-unusable : (l : Lent) (t : ℕ) → EachTold (unusable l t)
told-unusable l t =
    told_or (told_when (eqb (tlas l t).built_index 0) (told-cause 43 t 0 (lit< tt)))
    (told-first (unusable_blas l t) (told-unusable_blas l t) (dependencies_of l t))

told-act : (l : Lent) (a : Action) → OutcomeTold (act l a)
unfolding act
told-act l (build bs ps) = told-tlases l.counter ps (build_blases bs l)
told-act l (use_tlas t) = told-unless l (told-unusable l t) is_accepted
told-act l malformed = is_accepted

-- a submission

told_followed : {o : Outcome} (f : Lent → Outcome) → OutcomeTold o → ((r : Lent) → OutcomeTold (f r)) → OutcomeTold (o followed_by f)
told_followed f (is_accepted {l = l}) q = q l
told_followed f (is_refused p) q = is_refused p

pub told-later : (n : ℕ) {o : Outcome} → OutcomeTold o → OutcomeTold (later n o)
told-later n is_accepted = is_accepted
told-later n (is_refused p) = is_refused p

told-run : (l : Lent) (acts : List Action) → OutcomeTold (run l acts)
unfolding run step
told-run l [] = is_accepted
told-run l (a ∷ more) =
    told_followed (λ r. later 1 (run r more)) (told-unless l (told-before l a) (told-act l a)) (λ r. told-later 1 (told-run r more))

pub submission-told : (l : Lent) (acts : List Action) → OutcomeTold (submission l acts)
unfolding submission
submission-told l acts = told-unless l (told-judge l) (told-run l acts)
