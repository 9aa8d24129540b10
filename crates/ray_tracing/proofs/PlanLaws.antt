-- What holds of the plan of a recorded build: its stretches of scratch are aligned, apart and within the scratch size; what it builds can be
-- built; and its lists are decoded as they were meant, and refused for nothing but a counter that is 0.
use mathlib.Core.Path.{◌≡◌, refl, ap, ◌∙◌}
use mathlib.Core.Bool.{Bool, true, false, ◌||◌, cond}
use mathlib.Core.List.{[], ◌∷◌}
use Prim.Native.Nat.{ℕ, ◌-◌, ◌+◌, ◌%◌, ◌^◌, ◌≤◌, ◌<◌}
use native.Mathlib.Nat.{zero-add}
use native.Mathlib.Omega.{arith}
use lib.Dec.{eqb}
use lib.ListN.{length, drop, get_or}
use lib.Seq.{sets-eq}
use borrow.Author.Tests.{eqb-false, ltb-false}
use Rattle.ray_tracing.specs.declared.Written.{Written}
use Rattle.ray_tracing.specs.Causes.{Cause, bare}
use Rattle.ray_tracing.specs.Plan.{Tables, Verdict, passed, refused, on, ◌or◌, first_of, records_in, blas_of_entry, tlas_of_package, judge_tables, judge_ids, judge_entries, judge_packages, judge_final, tlas_destroyed, blas_buildable, blas_scratch, tlas_scratch, blas_total, tlas_total, scratch_size, judge_scratch, entry_blases, Outputs, plan_of, too_short, short, counts_of, Building, recorded, nothing-recorded, not_built, unless, build, leaves}
use Rattle.ray_tracing.specs.Submission as submission
use Rattle.ray_tracing.specs.Submission.{Lent, Action, decode_cells}
use Rattle.ray_tracing.proofs.Verdicts.{or-passed, on-passed, each-passed}
use Rattle.ray_tracing.proofs.Inside.{Inside, inside}
use Rattle.ray_tracing.proofs.Stretches.{offsets-aligned, stretches-apart, stretches-within}
use Rattle.ray_tracing.proofs.Running.{totals_below}
use Rattle.ray_tracing.proofs.RecordedAction.{recorded_packages, action_decoded, only-counter}

-- ---- what a recorded build was judged

pub record Recorded (x : Tables) (o : Outputs) (n : ℕ) (w : Written) : Type 0 where
  pub tables : judge_tables x ≡ passed
  pub ids : judge_ids x ≡ passed
  pub entries : judge_entries x ≡ passed
  pub packages : judge_packages x ≡ passed
  pub final : judge_final x ≡ passed
  pub room : too_short (plan_of x) o ≡ false
  pub size : n ≡ scratch_size x
  pub counts : w ≡ counts_of (plan_of x)

unless-recorded : (v : Verdict) (b : Building) (n : ℕ) (w : Written) → unless v b ≡ recorded n w → (v ≡ passed) × (b ≡ recorded n w)
unless-recorded passed b n w e = (refl, e)
unless-recorded (refused p q c) b n w e = let z : ◌≡◌ {A = ℕ} 0 1 = cc in absurd (omega arith)

nothing_not : (v : Verdict) (m n : ℕ) (w : Written) → unless v (nothing-recorded m) ≡ recorded n w → ⊥
nothing_not passed m n w e = let z : ◌≡◌ {A = ℕ} 0 1 = cc in omega arith
nothing_not (refused p q c) m n w e = let z : ◌≡◌ {A = ℕ} 0 1 = cc in omega arith

-- past the larger total 0
recorded_rest :
    (b : Bool) (u v : Verdict) (m s n : ℕ) (c w : Written)
    → cond b (unless u (nothing-recorded m)) (unless v (recorded s c)) ≡ recorded n w
    → (v ≡ passed) × ((n ≡ s) × (w ≡ c))
recorded_rest true u v m s n c w e = absurd (nothing_not u m n w e)
recorded_rest false u v m s n c w e =
    let r = unless-recorded v (recorded s c) n w e in
    let f = r.1 in
    (r.0, (cc, cc))

pub recorded_judged : (x : Tables) (o : Outputs) (n : ℕ) (w : Written) → build x o ≡ recorded n w → Recorded x o n w
unfolding build
recorded_judged x o n w e =
    let a = unless-recorded _ _ n w e in
    let b = or-passed (judge_tables x) _ a.0 in
    let c = or-passed (judge_ids x) _ b.1 in
    let d = or-passed (judge_entries x) _ c.1 in
    let f = recorded_rest (eqb (scratch_size x) 0) (on (short (plan_of x).init_ranges o.init_ranges) (refused 0 0 (bare 39))) (judge_final x or on (too_short (plan_of x) o) (refused 0 0 (bare 39))) (length (plan_of x).init_ranges) (scratch_size x) n (counts_of (plan_of x)) w a.1 in
    let g = or-passed (judge_final x) _ f.0 in
    record {
      tables = b.0;
      ids = c.0;
      entries = d.0;
      packages = d.1;
      final = g.0;
      room = on-passed (too_short (plan_of x) o) 0 0 (bare 39) g.1;
      size = f.1.0;
      counts = f.1.1;
    }

-- "Last: 39": a refusal for anything else does not go by the outputs
other-answer :
    (v : Verdict) (z : Bool) (w p p' q q' : Verdict) (m s : ℕ) (c : Written) (e f : ℕ) (d : Cause)
    → ((i j : ℕ) (k : Cause) → p ≡ refused i j k → k.number ≡ 39)
    → ((i j : ℕ) (k : Cause) → q ≡ refused i j k → k.number ≡ 39)
    → (d.number ≡ 39 → ⊥)
    → unless v (cond z (unless p (nothing-recorded m)) (unless (w or q) (recorded s c))) ≡ not_built e f d
    → unless v (cond z (unless p' (nothing-recorded m)) (unless (w or q') (recorded s c))) ≡ not_built e f d
other-answer (refused i j k) z w p p' q q' m s c e f d hp hq n h = h
other-answer passed true w (refused i j k) p' q q' m s c e f d hp hq n h = absurd (n (hp e f d cc))
other-answer passed true w passed p' q q' m s c e f d hp hq n h = let z : ◌≡◌ {A = ℕ} 0 1 = cc in absurd (omega arith)
other-answer passed false (refused i j k) p p' q q' m s c e f d hp hq n h = h
other-answer passed false passed p p' (refused i j k) q' m s c e f d hp hq n h = absurd (n (hq e f d cc))
other-answer passed false passed p p' passed q' m s c e f d hp hq n h = let z : ◌≡◌ {A = ℕ} 0 1 = cc in absurd (omega arith)

only_39 : (t : Bool) (i j : ℕ) (k : Cause) → on t (refused 0 0 (bare 39)) ≡ refused i j k → k.number ≡ 39
only_39 true i j k e = let f : k ≡ bare 39 = cc in ap (λ (c : Cause). c.number) f
only_39 false i j k e = let z : ◌≡◌ {A = ℕ} 0 1 = cc in absurd (omega arith)

pub room_is_last :
    (x : Tables) (o o' : Outputs) (e f : ℕ) (c : Cause) → (c.number ≡ 39 → ⊥) → build x o ≡ not_built e f c → build x o' ≡ not_built e f c
unfolding build
room_is_last x o o' e f c n h =
    other-answer (judge_tables x or judge_ids x or judge_entries x or judge_packages x) (eqb (scratch_size x) 0) (judge_final x)
    (on (short (plan_of x).init_ranges o.init_ranges) (refused 0 0 (bare 39)))
    (on (short (plan_of x).init_ranges o'.init_ranges) (refused 0 0 (bare 39)))
    (on (too_short (plan_of x) o) (refused 0 0 (bare 39)))
    (on (too_short (plan_of x) o') (refused 0 0 (bare 39)))
    (length (plan_of x).init_ranges) (scratch_size x) (counts_of (plan_of x)) e f c
    (only_39 (short (plan_of x).init_ranges o.init_ranges)) (only_39 (too_short (plan_of x) o)) n h

either_false : (a b : Bool) → (a || b) ≡ false → (a ≡ false) × (b ≡ false)
either_false false b e = (refl, e)
either_false true b e = let z : ◌≡◌ {A = ℕ} 0 1 = cc in absurd (omega arith)

-- the outputs that laws read have room for what is written
pub record Rooms (x : Tables) (o : Outputs) : Type 0 where
  pub staging : length (plan_of x).staging_ranges ≤ length o.staging_ranges
  pub instances : length (plan_of x).instances ≤ length o.instances
  pub lists : length (plan_of x).lists ≤ length o.lists

-- ---- the plan of a recorded build

module _ (x : Tables) (o : Outputs) (n : ℕ) (w : Written) (r : build x o ≡ recorded n w) where
  pub judged : Recorded x o n w
  judged = recorded_judged x o n w r

  pub facts : Inside x
  facts = inside x judged.tables judged.ids

  pub final_parts :
      (judge_scratch x ≡ passed)
      × ((first_of (tlas_destroyed x) 0 (records_in x 7) ≡ passed) × (first_of (blas_buildable x) 0 (records_in x 5) ≡ passed))
  unfolding judge_final
  final_parts =
      let a = or-passed _ _ judged.final in
      let b = or-passed (first_of (tlas_destroyed x) 0 (records_in x 7)) _ a.1 in
      (a.0, (b.0, b.1))

  -- the scratch size is below 2^64 - 1, and holds both totals
  pub size_below : n < 2 ^ 64 - 1
  unfolding scratch_size
  size_below =
      let t = totals_below x final_parts.0 in
      omega (arith, judged.size, t.0, t.1)

  holds : (blas_total x ≤ n) × (tlas_total x ≤ n)
  unfolding scratch_size
  holds =
      let e = judged.size in
      (omega arith, omega arith)

  -- offsets are multiples of the alignment
  pub blas-aligned : (i : ℕ) → i < records_in x 5 → get_or (plan_of x).blas_offsets i 0 % x.alignment ≡ 0
  unfolding plan_of
  blas-aligned = offsets-aligned (blas_scratch x) x.alignment (records_in x 5)

  pub tlas-aligned : (p : ℕ) → p < records_in x 7 → get_or (plan_of x).tlas_offsets p 0 % x.alignment ≡ 0
  unfolding plan_of
  tlas-aligned = offsets-aligned (tlas_scratch x) x.alignment (records_in x 7)

  -- stretches of Blases do not overlap, nor those of Tlases
  pub blas-apart :
      (i j : ℕ)
      → i < j
      → j < records_in x 5
      → get_or (plan_of x).blas_offsets i 0 + blas_scratch x i ≤ get_or (plan_of x).blas_offsets j 0
  unfolding plan_of
  blas-apart = stretches-apart (blas_scratch x) x.alignment (records_in x 5) facts.aligned

  pub tlas-apart :
      (p q : ℕ)
      → p < q
      → q < records_in x 7
      → get_or (plan_of x).tlas_offsets p 0 + tlas_scratch x p ≤ get_or (plan_of x).tlas_offsets q 0
  unfolding plan_of
  tlas-apart = stretches-apart (tlas_scratch x) x.alignment (records_in x 7) facts.aligned

  -- every stretch lies within the scratch size
  pub blas_within : (i : ℕ) → i < records_in x 5 → get_or (plan_of x).blas_offsets i 0 + blas_scratch x i ≤ n
  unfolding plan_of
  blas_within i h =
      omega (arith, stretches-within (blas_scratch x) x.alignment (records_in x 5) facts.aligned i h, holds.0)

  pub tlas_within : (p : ℕ) → p < records_in x 7 → get_or (plan_of x).tlas_offsets p 0 + tlas_scratch x p ≤ n
  unfolding plan_of
  tlas_within p h =
      omega (arith, stretches-within (tlas_scratch x) x.alignment (records_in x 7) facts.aligned p h, holds.1)

  -- its Tlases are not destroyed, its Blases neither destroyed nor compacted
  pub tlas-kept : (p : ℕ) → p < records_in x 7 → (tlas_of_package x p).destroyed ≡ 1 → ⊥
  tlas-kept p h =
      let e = rw zero-add at (each-passed (tlas_destroyed x) (records_in x 7) 0 final_parts.1.0 p h) in
      eqb-false (tlas_of_package x p).destroyed 1 (on-passed _ p 0 _ e)

  pub blas-kept :
      (i : ℕ) → i < records_in x 5 → ((blas_of_entry x i).destroyed ≡ 1 → ⊥) × ((blas_of_entry x i).compacted_state ≡ 3 → ⊥)
  blas-kept i h =
      let e = or-passed _ _ (rw zero-add at (each-passed (blas_buildable x) (records_in x 5) 0 final_parts.1.1 i h)) in (
        eqb-false (blas_of_entry x i).destroyed 1 (on-passed _ i 0 _ e.0),
        eqb-false (blas_of_entry x i).compacted_state 3 (on-passed _ i 0 _ e.1),
      )

  -- no output is too short
  pub room : Rooms x o
  room =
      let p = plan_of x in
      let a = either_false (short p.blas_offsets o.blas_offsets) _ judged.room in
      let b = either_false (short p.tlas_offsets o.tlas_offsets) _ a.1 in
      let c = either_false (short p.staging_ranges o.staging_ranges) _ b.1 in
      let d = either_false (short p.instances o.instances) _ c.1 in
      let e = either_false (short p.init_ranges o.init_ranges) _ d.1 in
      let f = either_false (short p.compactable o.compactable) _ e.1 in
      record {
        staging = ltb-false (length o.staging_ranges) (length p.staging_ranges) c.0;
        instances = ltb-false (length o.instances) (length p.instances) d.0;
        lists = ltb-false (length o.lists) (length p.lists) f.1;
      }

  -- what is submitted of it, over the lists that it leaves: a Build of the entries' Blases in order, and of each package's Tlas with its
  -- present slots' Blases in order
  pub decoded :
      submission.decode (record { actions = 1 ∷ 0 ∷ records_in x 5 ∷ records_in x 7 ∷ []; lists = (leaves (build x o) (plan_of x) o).lists })
      ≡ submission.build (entry_blases x 0 (records_in x 5)) (recorded_packages x 0 0 (records_in x 7)) ∷ []
  unfolding decode_cells plan_of
  decoded =
      let l = (plan_of x).lists in
      ap (λ (a : Action). a ∷ [])
      (action_decoded x (leaves (build x o) (plan_of x) o).lists (drop (0 + length l) o.lists)
      (ap (λ (a : Building). (leaves a (plan_of x) o).lists) r ∙ sets-eq l o.lists 0 (rw zero-add room.lists)))

  -- on the same tables that action is refused for nothing but a counter that is 0
  pub not_refused :
      (l : Lent)
      → l.blases ≡ x.blases
      → l.tlases ≡ x.tlases
      → submission.before l (submission.build (entry_blases x 0 (records_in x 5)) (recorded_packages x 0 0 (records_in x 7)))
      ≡ submission.cause_when (eqb l.counter 0) (bare 40)
  not_refused l b t = only-counter x facts l b t (λ k h. (blas-kept k h).1)
