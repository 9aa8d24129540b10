-- What a submission leaves, accepted or refused, is again a start that is not refused: the tables stay fine, the room stays, the counter
-- stays a u64, and a list that a Build wrote was judged before.
use Prim.Native.Nat.{ℕ, zero, suc, ◌+◌, ◌*◌, ◌/◌, ◌^◌, ◌≤◌, ◌<◌}
use native.Mathlib.Nat.{add-zero, zero-add}
use native.Mathlib.Decide.{ℕ_discrete}
use native.Mathlib.Omega.{arith}
use mathlib.Core.Path.{◌≡◌, refl, sym, ap, ◌∙◌, subst}
use mathlib.Core.Bool.{false}
use mathlib.Core.Option.{Option, none, some}
use mathlib.Core.List.{List, [], ◌∷◌}
use lib.ListN.{length, get_or, set, length-set}
use lib.Seq.{length-sets, get_or-set_same, get_or-set_other}
use lib.Dec.{eqb, ltb}
use Rattle.ray_tracing.specs.Layout.{layout, size}
use Rattle.ray_tracing.specs.Reading as reading
use Rattle.ray_tracing.specs.Causes.{Cause, bare}
use Rattle.ray_tracing.specs.Submission.{Lent, Package, Action, build, use_tlas, malformed, accepted, ◌leaving◌, left, unless_cause, cause_when, ◌or_else◌, first, tlas_count, dependencies_of, mention_blas, mention_tlas, mention_package, too_many, compacted, table_cause, judge_blases, judge_tlases, judge_room, judge_list, judge_lists, judge, before, built_blas, built_blases, build_blases, build_tlas, unnumbered, build_tlases, unusable, act, step, run, submission}
use Rattle.ray_tracing.proofs.Tables.{built-length, tlas-length, list_same, list_other}
use Rattle.ray_tracing.proofs.Firsts.{or_none, none_or, on_none, outside, inside, within, within_none, left-later, left-unless, left_then}
use Rattle.ray_tracing.proofs.Judging.{blases-kept, tlases-kept}

-- ---- `judge l ≡ none` and a counter that fits, by parts

abbrev pub BlasesFine : List ℕ → Type 0
BlasesFine s = reading.judge_lent 2 (layout 2) (size 1) [] s ≡ reading.fine

abbrev pub TlasesFine : List ℕ → Type 0
TlasesFine s = reading.judge_lent 4 (layout 4) (size 3) [] s ≡ reading.fine

pub record Sound (l : Lent) : Type 0 where
  pub fits : l.counter < 2 ^ 64
  pub blases : BlasesFine l.blases
  pub tlases : TlasesFine l.tlases
  pub counts : tlas_count l ≤ length l.dependency_counts
  pub cells : tlas_count l * 512 ≤ length l.dependencies
  pub short : (t : ℕ) → t < tlas_count l → get_or l.dependency_counts t 0 ≤ 512
  pub lists : (t : ℕ) → t < tlas_count l → first (mention_blas l) (dependencies_of l t) ≡ none

table_none : (j : reading.Judged) → table_cause j ≡ none → j ≡ reading.fine
table_none reading.fine e = refl
table_none (reading.refused n p) e = let z : ◌≡◌ {A = ℕ} 0 1 = cc in absurd (omega arith)

lists-fine : (l : Lent) (t n : ℕ) → judge_lists l t n ≡ none → (k : ℕ) → k < n → judge_list l (t + k) ≡ none
unfolding judge_lists
lists-fine l t zero e k h = absurd (omega arith)
lists-fine l t (suc n) e zero h = rw add-zero (or_none (judge_list l t) (judge_lists l (t + 1) n) e).0
lists-fine l t (suc n) e (suc k) h =
    let z : t + 1 + k ≡ t + suc k = omega arith in
    rw z at (lists-fine l (t + 1) n (or_none (judge_list l t) (judge_lists l (t + 1) n) e).1 k (omega arith))

fine-lists : (l : Lent) (t n : ℕ) → ((k : ℕ) → k < n → judge_list l (t + k) ≡ none) → judge_lists l t n ≡ none
unfolding judge_lists
fine-lists l t zero h = refl
fine-lists l t (suc n) h = none_or (rw add-zero at (h 0 (omega arith))) (fine-lists l (t + 1) n (λ k m. there k (h (suc k) (omega arith))))
  where
    there : (k : ℕ) → judge_list l (t + suc k) ≡ none → judge_list l (t + 1 + k) ≡ none
    there k g = let z : t + suc k ≡ t + 1 + k = omega arith in rw z at g

pub sound : (l : Lent) → l.counter < 2 ^ 64 → judge l ≡ none → Sound l
unfolding judge
sound l f e =
    let a = or_none (judge_blases l) _ e in
    let b = or_none (judge_tlases l) _ a.1 in
    let c = or_none (judge_room l) _ b.1 in
    let d = or_none (cause_when (ltb (length l.dependency_counts) (tlas_count l)) (bare 39)) _ c.0 in
    let each : (t : ℕ) → t < tlas_count l → judge_list l t ≡ none = λ t h. rw zero-add at (lists-fine l 0 (tlas_count l) c.1 t h) in
    record {
      fits = f;
      blases = table_none _ a.0;
      tlases = table_none _ b.0;
      counts = within _ _ _ d.0;
      cells = within _ _ _ d.1;
      short = λ t h. within 512 (get_or l.dependency_counts t 0) (bare 4) (or_none (cause_when (ltb 512 (get_or l.dependency_counts t 0)) (bare 4)) _ (each t h)).0;
      lists = λ t h. (or_none (cause_when (ltb 512 (get_or l.dependency_counts t 0)) (bare 4)) _ (each t h)).1;
    }

pub judged : (l : Lent) → Sound l → judge l ≡ none
unfolding judge
judged l h =
    none_or (ap table_cause h.blases) (none_or (ap table_cause h.tlases) (none_or
    (none_or (within_none _ _ _ h.counts) (within_none _ _ _ h.cells))
    (fine-lists l 0 (tlas_count l) (λ t k. rw zero-add (none_or (within_none 512 (get_or l.dependency_counts t 0) (bare 4) (h.short t k)) (h.lists t k))))))

-- ---- a Build's Blases

pub blases-length : (n : ℕ) (bs t : List ℕ) → length (built_blases n bs t) ≡ length t
unfolding built_blases
blases-length n [] t = refl
blases-length n (b ∷ bs) t = blases-length n bs (built_blas n b t) ∙ built-length n b t

blases-fine : (n : ℕ) (bs t : List ℕ) → n < 2 ^ 64 → first (λ b. outside (length t / size 2) b) bs ≡ none
    → BlasesFine t → BlasesFine (built_blases n bs t)
unfolding built_blases
blases-fine n [] t f o h = h
blases-fine n (b ∷ bs) t f o h =
    let p = or_none (outside (length t / size 2) b) _ o in
    blases-fine n bs (built_blas n b t) f (rw (built-length n b t) p.1) (blases-kept n b (size 1) t [] f (inside (length t / size 2) b p.0) h)

pub sound_blases : (bs : List ℕ) (l : Lent) → first (mention_blas l) bs ≡ none → Sound l → Sound (build_blases bs l)
sound_blases bs l o h =
    record {
      fits = omega arith;
      blases = blases-fine l.counter bs l.blases h.fits o h.blases;
      tlases = h.tlases;
      counts = h.counts;
      cells = h.cells;
      short = h.short;
      lists =
          λ t k. subst (λ (n : ℕ). first (λ b. outside (n / size 2) b) (dependencies_of l t) ≡ none)
          (sym (blases-length l.counter bs l.blases)) (h.lists t k);
    }

-- ---- a Build's Tlases

module _ (n : ℕ) (p : Package) (l : Lent) (f : n < 2 ^ 64) (m : mention_package l p ≡ none) (s : length p.dependencies ≤ 512) (h : Sound l) where
  tlas-inside : p.tlas < tlas_count l
  tlas-inside = inside (tlas_count l) p.tlas (or_none (mention_tlas l p.tlas) _ m).0

  tlas-short : (t : ℕ) → t < tlas_count l → get_or (set l.dependency_counts p.tlas (length p.dependencies)) t 0 ≤ 512
  tlas-short t k =
      elim (ℕ_discrete t p.tlas) [
        | yes q ↦ rw (q, get_or-set_same l.dependency_counts p.tlas (length p.dependencies) 0 (omega (arith, tlas-inside, h.counts))) s
        | no d ↦ rw (get_or-set_other l.dependency_counts p.tlas t (length p.dependencies) 0 d) (h.short t k)
      ]

  -- t's list is the new one, or as it was
  pub tlas_list : (t : ℕ) → t ≡ p.tlas → dependencies_of (build_tlas n p l) t ≡ p.dependencies
  tlas_list t q =
      rw q (list_same l.dependency_counts l.dependencies p.dependencies p.tlas (omega (arith, tlas-inside, h.counts)) (omega (arith, tlas-inside, h.cells)))

  pub other_list : (t : ℕ) → ¬ (t ≡ p.tlas) → dependencies_of (build_tlas n p l) t ≡ dependencies_of l t
  other_list t d =
      list_other l.dependency_counts l.dependencies p.dependencies p.tlas t d s (λ k. h.short t (omega (arith, tlas-inside)))

  tlas-lists : (t : ℕ) → t < tlas_count l → first (mention_blas l) (dependencies_of (build_tlas n p l) t) ≡ none
  tlas-lists t k =
      elim (ℕ_discrete t p.tlas) [
        | yes q ↦ ap (first (mention_blas l)) (tlas_list t q) ∙ (or_none (mention_tlas l p.tlas) _ m).1
        | no d ↦ ap (first (mention_blas l)) (other_list t d) ∙ h.lists t k
      ]

  pub sound_tlas : Sound (build_tlas n p l)
  sound_tlas =
      let e = tlas-length n p.tlas l.tlases in
      record {
        fits = h.fits;
        blases = h.blases;
        tlases = tlases-kept n p.tlas (size 3) l.tlases [] f tlas-inside h.tlases;
        counts = rw (e, length-set l.dependency_counts p.tlas (length p.dependencies)) h.counts;
        cells = rw (e, length-sets l.dependencies (p.tlas * 512) p.dependencies) h.cells;
        short = rw e tlas-short;
        lists = rw e tlas-lists;
      }

-- ids are inside tables that keep their lengths
mention_same : (l r : Lent) (ps : List Package) → length r.blases ≡ length l.blases → length r.tlases ≡ length l.tlases
    → first (mention_package l) ps ≡ none → first (mention_package r) ps ≡ none
mention_same l r ps e f h =
    subst
    (λ (b : ℕ). first (λ p. outside (length r.tlases / size 4) p.tlas or_else first (λ x. outside (b / size 2) x) p.dependencies) ps ≡ none)
    (sym e)
    (subst
    (λ (t : ℕ). first (λ p. outside (t / size 4) p.tlas or_else first (λ x. outside (length l.blases / size 2) x) p.dependencies) ps ≡ none)
    (sym f) h)

pub mention-built : (bs : List ℕ) (l : Lent) (ps : List Package) → first (mention_package l) ps ≡ none → first (mention_package (build_blases bs l)) ps ≡ none
mention-built bs l ps h = mention_same l (build_blases bs l) ps (blases-length l.counter bs l.blases) refl h

pub mention-kept : (n : ℕ) (p : Package) (l : Lent) (ps : List Package) → first (mention_package l) ps ≡ none → first (mention_package (build_tlas n p l)) ps ≡ none
mention-kept n p l ps h = mention_same l (build_tlas n p l) ps refl (tlas-length n p.tlas l.tlases) h

sound_tlases : (n : ℕ) (ps : List Package) (l : Lent) → n < 2 ^ 64 → first (λ p. cause_when (ltb 512 (length p.dependencies)) (bare 4)) ps ≡ none
    → first (mention_package l) ps ≡ none → Sound l → Sound (left (build_tlases n ps l))
unfolding build_tlases
sound_tlases n [] l f s m h = h
sound_tlases n (p ∷ ps) l f s m h =
    let a = or_none (cause_when (ltb 512 (length p.dependencies)) (bare 4)) _ s in
    let b = or_none (mention_package l p) _ m in
    left-unless Sound (first (unnumbered l p.tlas) p.dependencies) l (build_tlases n ps (build_tlas n p l)) h
    (sound_tlases n ps (build_tlas n p l) f a.1 (mention-kept n p l ps b.1)
    (sound_tlas n p l f b.0 (within 512 (length p.dependencies) (bare 4) a.0) h))

-- ---- an action

-- a Build that is not refused beforehand
pub record Fit (l : Lent) (bs : List ℕ) (ps : List Package) : Type 0 where
  pub short : first (λ p. cause_when (ltb 512 (length p.dependencies)) (bare 4)) ps ≡ none
  pub blases : first (mention_blas l) bs ≡ none
  pub tlases : first (mention_package l) ps ≡ none
  pub counts : eqb l.counter 0 ≡ false
  pub idle : first (compacted l) bs ≡ none

pub fit : (l : Lent) (bs : List ℕ) (ps : List Package) → before l (build bs ps) ≡ none → Fit l bs ps
unfolding before
fit l bs ps e =
    let a = or_none (too_many bs ps) _ e in
    let b = or_none (first (mention_blas l) bs) _ a.1 in
    let c = or_none (first (mention_package l) ps) _ b.1 in
    let d = or_none (cause_when (eqb l.counter 0) (bare 40)) _ c.1 in
    let x = or_none (cause_when (ltb 64 (length bs)) (bare 4)) _ a.0 in
    let y = or_none (cause_when (ltb 32 (length ps)) (bare 4)) _ x.1 in
    record { short = y.1; blases = b.0; tlases = c.0; counts = on_none (eqb l.counter 0) (bare 40) d.0; idle = d.1 }

sound_step : (l : Lent) (a : Action) → Sound l → Sound (left (step l a))
unfolding step act
sound_step l a h = go a (before l a) refl
  where
    go : (a : Action) (c : Option Cause) → before l a ≡ c → Sound (left (unless_cause c l (act l a)))
    go (build bs ps) none e =
        let f = fit l bs ps e in
        sound_tlases l.counter ps (build_blases bs l) h.fits f.short (mention-built bs l ps f.tlases) (sound_blases bs l f.blases h)
    go (use_tlas t) none e = left-unless Sound (unusable l t) l (accepted leaving l) h h
    go malformed none e = h
    go a (some c) e = h

sound_run : (l : Lent) (acts : List Action) → Sound l → Sound (left (run l acts))
unfolding run
sound_run l [] h = h
sound_run l (a ∷ more) h = left_then Sound (step l a) _ (sound_step l a h) (λ r g. rw left-later (sound_run r more g))

pub sound_submission : (l : Lent) (acts : List Action) → Sound l → Sound (left (submission l acts))
unfolding submission
sound_submission l acts h = left-unless Sound (judge l) l (run l acts) h (sound_run l acts h)
