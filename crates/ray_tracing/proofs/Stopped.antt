-- "sums and rounding stop at 2^64 - 1": the paper's totals, which request 5 made whole numbers. A build answers as it did, but that 37 gives its
-- entry or package; 37 is drawn for the same tables; and the plan of a recorded build is the same.
use mathlib.Core.Path.{◌≡◌, refl, sym, ap, ◌∙◌}
use mathlib.Core.Bool.{Bool, true, false, ◌||◌, cond}
use mathlib.Core.List.{List, [], ◌∷◌}
use Prim.Native.Nat.{ℕ, zero, suc, ◌+◌, ◌-◌, ◌^◌, ◌≤◌, ◌<◌, max}
use native.Mathlib.Omega.{arith}
use lib.Dec.{eqb, ltb}
use lib.ListN.{length}
use borrow.Author.Tests.{eqb-true, eqb-false, eq-eqb, ne_eqb}
use Rattle.scratch.specs.Scratch.{stopped, round_up, add_rounded}
use Rattle.ray_tracing.specs.declared.Written.{Written}
use Rattle.ray_tracing.specs.Causes.{cause, bare}
use Rattle.ray_tracing.specs.Plan.{Tables, Verdict, passed, refused, on, ◌or◌, records_in, judge_tables, judge_ids, judge_entries, judge_packages, total_from, offsets_from, blas_scratch, tlas_scratch, scratch_size, judge_scratch, judge_states, judge_final, Outputs, plan_of, short, too_short, counts_of, Building, recorded, nothing-recorded, not_built, unless, build}
use Rattle.ray_tracing.proofs.Plan.{offsets_length}
use Rattle.ray_tracing.proofs.Running.{Judged, both_below, entry_named, package-named, first_over, scratch_judged, totals_below}
use Rattle.ray_tracing.proofs.PlanLaws.{final_parts}

-- ---- as it was

abbrev pub add_stopped : ℕ → ℕ → ℕ → ℕ
add_stopped total size alignment = stopped (total + stopped (round_up size alignment))

unfoldable pub stopped_total : (ℕ → ℕ) → ℕ → ℕ → ℕ → ℕ → ℕ
stopped_total size_of alignment total i zero = total
stopped_total size_of alignment total i (suc n) = stopped_total size_of alignment (add_stopped total (size_of i) alignment) (i + 1) n

unfoldable pub stopped_offsets : (ℕ → ℕ) → ℕ → ℕ → ℕ → ℕ → List ℕ
stopped_offsets size_of alignment total i zero = []
stopped_offsets size_of alignment total i (suc n) =
    total ∷ stopped_offsets size_of alignment (add_stopped total (size_of i) alignment) (i + 1) n

abbrev pub stopped_size : Tables → ℕ
stopped_size x =
    max (stopped_total (blas_scratch x) x.alignment 0 0 (records_in x 5)) (stopped_total (tlas_scratch x) x.alignment 0 0 (records_in x 7))

abbrev pub stopped_final : Tables → Verdict
stopped_final x = on (eqb (stopped_size x) (2 ^ 64 - 1)) (refused 0 0 (bare 37)) or judge_states x

abbrev pub stopped_plan : Tables → Outputs
stopped_plan x =
    record {
      blas_offsets = stopped_offsets (blas_scratch x) x.alignment 0 0 (records_in x 5);
      tlas_offsets = stopped_offsets (tlas_scratch x) x.alignment 0 0 (records_in x 7);
      staging_ranges = (plan_of x).staging_ranges;
      instances = (plan_of x).instances;
      init_ranges = (plan_of x).init_ranges;
      compactable = (plan_of x).compactable;
      lists = (plan_of x).lists;
    }

abbrev pub stopped_build : Tables → Outputs → Building
stopped_build x o =
    unless (judge_tables x or judge_ids x or judge_entries x or judge_packages x)
    (cond (eqb (stopped_size x) 0)
    (unless (on (short (stopped_plan x).init_ranges o.init_ranges) (refused 0 0 (bare 39)))
    (nothing-recorded (length (stopped_plan x).init_ranges)))
    (unless (stopped_final x or on (too_short (stopped_plan x) o) (refused 0 0 (bare 39))) (recorded (stopped_size x) (counts_of (stopped_plan x)))))

-- ---- totals

module _ (size_of : ℕ → ℕ) (a : ℕ) where
  total-stopped : (t i n : ℕ) → stopped_total size_of a (stopped t) i n ≡ stopped (total_from size_of a t i n)
  unfolding stopped_total total_from
  total-stopped t i zero = refl
  total-stopped t i (suc n) =
      let e : add_stopped (stopped t) (size_of i) a ≡ stopped (add_rounded t (size_of i) a) = omega arith in
      ap (λ (s : ℕ). stopped_total size_of a s (i + 1) n) e ∙ total-stopped (add_rounded t (size_of i) a) (i + 1) n

  total-from : (t i n : ℕ) → t ≤ total_from size_of a t i n
  unfolding total_from
  total-from t i zero = omega arith
  total-from t i (suc n) = omega (arith, total-from (add_rounded t (size_of i) a) (i + 1) n)

  -- where the total fits, no offset stopped
  offsets_same : (t i n : ℕ) → total_from size_of a t i n < 2 ^ 64 → stopped_offsets size_of a t i n ≡ offsets_from size_of a t i n
  unfolding stopped_offsets offsets_from total_from
  offsets_same t i zero h = refl
  offsets_same t i (suc n) h =
      let next = add_rounded t (size_of i) a in
      let e : add_stopped t (size_of i) a ≡ next = omega (arith, total-from next (i + 1) n, h) in
      ap (λ (s : ℕ). t ∷ stopped_offsets size_of a s (i + 1) n) e ∙ ap (λ (l : List ℕ). t ∷ l) (offsets_same next (i + 1) n h)

  stopped-length : (t i n : ℕ) → length (stopped_offsets size_of a t i n) ≡ n
  unfolding stopped_offsets
  stopped-length t i zero = refl
  stopped-length t i (suc n) = ap suc (stopped-length (add_stopped t (size_of i) a) (i + 1) n)

-- ---- 37

-- 37 as it was and as it is, and the scratch size: both are passed, and the size is the same; or both are refused
data Scratch (w v : Verdict) (m n : ℕ) : Type 0 where
  fits : w ≡ passed → v ≡ passed → m ≡ n → Scratch w v m n
  named : (e figure : ℕ) → w ≡ refused 0 0 (bare 37) → v ≡ refused e 0 (cause 37 figure 0 0) → Scratch w v m n

module _ (x : Tables) where
  size-stopped : stopped_size x ≡ stopped (scratch_size x)
  unfolding scratch_size
  size-stopped =
      omega (
        arith,
        total-stopped (blas_scratch x) x.alignment 0 0 (records_in x 5),
        total-stopped (tlas_scratch x) x.alignment 0 0 (records_in x 7),
      )

  zero_same : eqb (stopped_size x) 0 ≡ eqb (scratch_size x) 0
  zero_same = go (eqb (scratch_size x) 0) refl
    where
      go : (b : Bool) → eqb (scratch_size x) 0 ≡ b → eqb (stopped_size x) 0 ≡ b
      go true e = eq-eqb (stopped_size x) 0 (omega (arith, size-stopped, eqb-true (scratch_size x) 0 e))
      go false e = ne_eqb (stopped_size x) 0 (λ z. eqb-false (scratch_size x) 0 e (omega (arith, size-stopped, z)))

  scratch_same : Scratch (on (eqb (stopped_size x) (2 ^ 64 - 1)) (refused 0 0 (bare 37))) (judge_scratch x) (stopped_size x) (scratch_size x)
  unfolding scratch_size
  scratch_same = go (scratch_judged x)
    where
      go : Judged x → Scratch (on (eqb (stopped_size x) (2 ^ 64 - 1)) (refused 0 0 (bare 37))) (judge_scratch x) (stopped_size x) (scratch_size x)
      go (entry_named e p f) =
          let over = first_over (blas_scratch x) x.alignment 1 (records_in x 5) e f in
          named e 1 (rw (eq-eqb (stopped_size x) (2 ^ 64 - 1) (omega (arith, size-stopped, over)))) p
      go (package-named e p b f) =
          let over = first_over (tlas_scratch x) x.alignment 2 (records_in x 7) e f in
          named e 2 (rw (eq-eqb (stopped_size x) (2 ^ 64 - 1) (omega (arith, size-stopped, over)))) p
      go (both_below p b t) =
          fits (rw (ne_eqb (stopped_size x) (2 ^ 64 - 1) (λ z. omega (arith, size-stopped, b, t, z)))) p (omega (arith, size-stopped, b, t))

-- ---- a build

-- the same; or both are 37, which now gives an entry or package, 0, and a figure
pub data Before (was is : Building) : Type 0 where
  same : was ≡ is → Before was is
  named37 : (e figure : ℕ) → was ≡ not_built 0 0 (bare 37) → is ≡ not_built e 0 (cause 37 figure 0 0) → Before was is

-- it is refused with 37
abbrev pub by37 : Building → Bool
by37 (recorded n w) = false
by37 (nothing-recorded n) = false
by37 (not_built e f c) = eqb c.number 37

same_scratch :
    (v : Verdict) (z : Bool) (p r q : Verdict) (k m n : ℕ) (c : Written) {w u : Verdict}
    → Scratch w u m n
    → Before (unless v (cond z (unless p (nothing-recorded k)) (unless ((w or r) or q) (recorded m c))))
    (unless v (cond z (unless p (nothing-recorded k)) (unless ((u or r) or q) (recorded n c))))
same_scratch (refused e f d) z p r q k m n c s = same refl
same_scratch passed true p r q k m n c s = same refl
same_scratch passed false p r q k m n c (fits a b e) = same (rw (a, b, e))
same_scratch passed false p r q k m n c (named e figure a b) = named37 e figure (rw a) (rw b)

same_answer :
    (v : Verdict) {z z' : Bool} (p r : Verdict) {q q' : Verdict} (k m n : ℕ) {c c' : Written} {w u : Verdict}
    → z ≡ z'
    → q ≡ q'
    → c ≡ c'
    → Scratch w u m n
    → Before (unless v (cond z (unless p (nothing-recorded k)) (unless ((w or r) or q) (recorded m c))))
    (unless v (cond z' (unless p (nothing-recorded k)) (unless ((u or r) or q') (recorded n c'))))
same_answer v {z} {z'} p r {q} {q'} k m n {c} {c'} e f g s = rw (e, f, g) (same_scratch v z' p r q' k m n c' s)

module _ (x : Tables) where
  blas-length : length (stopped_plan x).blas_offsets ≡ length (plan_of x).blas_offsets
  unfolding plan_of
  blas-length =
      stopped-length (blas_scratch x) x.alignment 0 0 (records_in x 5)
      ∙ sym (offsets_length (blas_scratch x) x.alignment 0 0 (records_in x 5))

  tlas-length : length (stopped_plan x).tlas_offsets ≡ length (plan_of x).tlas_offsets
  unfolding plan_of
  tlas-length =
      stopped-length (tlas_scratch x) x.alignment 0 0 (records_in x 7)
      ∙ sym (offsets_length (tlas_scratch x) x.alignment 0 0 (records_in x 7))

  counts_same : counts_of (stopped_plan x) ≡ counts_of (plan_of x)
  counts_same =
      λ i. record {
        blas_offsets = blas-length i;
        tlas_offsets = tlas-length i;
        staging_ranges = length (plan_of x).staging_ranges;
        instances = length (plan_of x).instances;
        init_ranges = length (plan_of x).init_ranges;
        compactable = length (plan_of x).compactable;
        lists = length (plan_of x).lists;
      }

  module _ (o : Outputs) where
    room-same : too_short (stopped_plan x) o ≡ too_short (plan_of x) o
    room-same =
        λ i. ltb (length o.blas_offsets) (blas-length i)
        || (ltb (length o.tlas_offsets) (tlas-length i)
        || (short (plan_of x).staging_ranges o.staging_ranges
        || (short (plan_of x).instances o.instances
        || (short (plan_of x).init_ranges o.init_ranges
        || (short (plan_of x).compactable o.compactable || short (plan_of x).lists o.lists)))))

    -- a build answers as it did, but that 37 is named
    pub as_before : Before (stopped_build x o) (build x o)
    unfolding build judge_final
    as_before =
        same_answer (judge_tables x or judge_ids x or judge_entries x or judge_packages x)
        (on (short (plan_of x).init_ranges o.init_ranges) (refused 0 0 (bare 39)))
        (judge_states x)
        (length (plan_of x).init_ranges) (stopped_size x) (scratch_size x) (zero_same x)
        (ap (λ (b : Bool). on b (refused 0 0 (bare 39))) room-same)
        counts_same
        (scratch_same x)

    -- 37 is drawn for the same tables
    pub drawn-alike : by37 (stopped_build x o) ≡ by37 (build x o)
    drawn-alike = go as_before
      where
        go : Before (stopped_build x o) (build x o) → by37 (stopped_build x o) ≡ by37 (build x o)
        go (same e) = ap by37 e
        go (named37 e figure p q) = ap by37 p ∙ sym (ap by37 q)

    -- a recorded build writes what it wrote
    pub plan-alike : (n : ℕ) (w : Written) → build x o ≡ recorded n w → stopped_plan x ≡ plan_of x
    unfolding plan_of
    plan-alike n w r =
        let t = totals_below x (final_parts x o n w r).0 in
        λ i. record {
          blas_offsets = offsets_same (blas_scratch x) x.alignment 0 0 (records_in x 5) (omega (arith, t.0)) i;
          tlas_offsets = offsets_same (tlas_scratch x) x.alignment 0 0 (records_in x 7) (omega (arith, t.1)) i;
          staging_ranges = (plan_of x).staging_ranges;
          instances = (plan_of x).instances;
          init_ranges = (plan_of x).init_ranges;
          compactable = (plan_of x).compactable;
          lists = (plan_of x).lists;
        }
