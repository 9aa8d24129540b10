-- The lines of a build's answer and its refusal, from what the build left of its outputs, are those of the definition.
use Prim.Native.Nat.{ℕ, zero, suc, ◌+◌, ◌*◌, ◌≤◌, ◌<◌}
use native.Mathlib.Nat.{zero-add}
use native.Mathlib.Omega.{arith}
use mathlib.Core.Bool.{Bool, true, false, cond}
use mathlib.Core.Path.{◌≡◌, refl, sym, ap, ◌∙◌}
use mathlib.Core.List.{List, [], append_assoc, append-nil}
use lib.ListN.{length, take, drop, get_or}
use lib.Seq.{sets, sets-eq, length-sets, take_at}
use Rattle.ray_tracing.specs.declared.Written.{Written}
use Rattle.ray_tracing.specs.Plan.{
  Tables,
  Outputs,
  Building,
  recorded,
  nothing-recorded,
  not_built,
  records_in,
  plan_of,
  counts_of,
  build,
  leaves,
  outputs_after,
  blas_scratch,
  tlas_scratch,
}
use Rattle.ray_tracing.specs.Report.{sheet_outcome, outcome_lines, blas_lines, tlas_lines, submit_lines, answer_lines}
use Rattle.ray_tracing.specs.Explain.{outcome_refusal, submit_refusal, answer_refusal}
use Rattle.ray_tracing.proofs.Inside.{Inside}
use Rattle.ray_tracing.proofs.Plan.{offsets_length, staging_length}
use Rattle.ray_tracing.proofs.PlanLaws.{judged, facts}
use Rattle.wire.proofs.Laws.{sets_within}
use Rattle.report_plan.specs.Lines.{blas_lines_of, tlas_lines_of}
use Rattle.report_submit.specs.Parts.{actions_in, places, parts_of, submission_outcome}
use Rattle.report_submit.proofs.Laws.{cells_are}
use Rattle.report.specs.Parts.{lists_of, answer_lines_of, answer_refusal_of, table_lines, table_refusal}
use Rattle.report_plan.proofs.Room.{Roomy, build_with_room, lists_room}

-- ---- what is written, read back

module _ (out values : List ℕ) (h : length values ≤ length out) where
  written_at : (k : ℕ) → k < length values → get_or (sets out 0 values) k 0 ≡ get_or values k 0
  written_at k l = rw zero-add at (sets_within values out 0 k l (omega arith))

  written_all : take (length values) (sets out 0 values) ≡ values
  written_all = rw (sets-eq values out 0 (omega arith)) (take_at values (drop (0 + length values) out) (length values) refl)

-- ---- what is left is as long as it was

leaves-lengths : (v : Building) (p o : Outputs) → counts_of (leaves v p o) ≡ counts_of o
leaves-lengths (recorded n w) p o = simp length-sets refl
leaves-lengths (nothing-recorded n) p o = simp length-sets refl
leaves-lengths (not_built e f c) p o = refl

-- ---- lines

module _ (x : Tables) (n : ℕ) (o : List ℕ) (h : (k : ℕ) → k < n → get_or o k 0 ≡ get_or (plan_of x).blas_offsets k 0) where
  blas_lines_are : (i m : ℕ) → i + m ≤ n → blas_lines_of x.entries o i m ≡ blas_lines x i m
  unfolding blas_lines_of blas_lines
  blas_lines_are i zero l = refl
  blas_lines_are i (suc m) l = rw (h i (omega arith), blas_lines_are (i + 1) m (omega arith))

module _
    (x : Tables)
    (n : ℕ)
    (o r : List ℕ)
    (h : (k : ℕ) → k < n → get_or o k 0 ≡ get_or (plan_of x).tlas_offsets k 0)
    (g : (k : ℕ) → k < 2 * n → get_or r k 0 ≡ get_or (plan_of x).staging_ranges k 0)
  where
    tlas-lines-are : (p m : ℕ) → p + m ≤ n → tlas_lines_of x.packages o r p m ≡ tlas_lines x p m
    unfolding tlas_lines_of tlas_lines
    tlas-lines-are p zero l = refl
    tlas-lines-are p (suc m) l =
        rw (h p (omega arith), g (2 * p) (omega arith), g (2 * p + 1) (omega arith), tlas-lines-are (p + 1) m (omega arith))

module _ (counter : ℕ) (x : Tables) (r : Bool) (a : List ℕ) {l : List ℕ} (e : l ≡ cond r (plan_of x).lists []) where
  outcome_is : submission_outcome counter (parts_of x) r a l ≡ sheet_outcome counter x r a
  unfolding submission_outcome
  outcome_is = rw (e, sym (cells_are (parts_of x) r a 0 (actions_in a)) ∙ cells_are x r a 0 (actions_in a))

  submit_lines_are : outcome_lines (places r a) (submission_outcome counter (parts_of x) r a l) ≡ submit_lines counter x r a
  unfolding submit_lines
  submit_lines_are = ap (outcome_lines (places r a)) outcome_is

  submit_refusal_is : outcome_refusal a (places r a) (submission_outcome counter (parts_of x) r a l) ≡ submit_refusal counter x r a
  unfolding submit_refusal
  submit_refusal_is = ap (outcome_refusal a (places r a)) outcome_is

-- ---- the answer

module _ (counter : ℕ) (x : Tables) (o : Outputs) (a : List ℕ) (room : Roomy o) where
  module _ (n : ℕ) (w : Written) (e : build x o ≡ recorded n w) where
    i : Inside x
    i = facts x o n w e

    blas-count : length (plan_of x).blas_offsets ≡ records_in x 5
    unfolding plan_of
    blas-count = offsets_length (blas_scratch x) x.alignment 0 0 (records_in x 5)

    tlas-count : length (plan_of x).tlas_offsets ≡ records_in x 7
    unfolding plan_of
    tlas-count = offsets_length (tlas_scratch x) x.alignment 0 0 (records_in x 7)

    range-count : length (plan_of x).staging_ranges ≡ 2 * records_in x 7
    unfolding plan_of
    range-count = staging_length x 0 0 0 (records_in x 7)

    few-5 : records_in x 5 ≤ 64
    few-5 = i.most 5 (omega arith) (omega arith)

    few-7 : records_in x 7 ≤ 32
    few-7 = i.most 7 (omega arith) (omega arith)

    lists-count : w.lists ≡ length (plan_of x).lists
    lists-count = ap (λ (w : Written). w.lists) (judged x o n w e).counts

    blases-are :
        blas_lines_of x.entries (sets o.blas_offsets 0 (plan_of x).blas_offsets) 0 (records_in x 5)
        ≡ blas_lines x 0 (records_in x 5)
    blases-are =
        blas_lines_are x (records_in x 5) (sets o.blas_offsets 0 (plan_of x).blas_offsets)
        (λ k l. written_at o.blas_offsets (plan_of x).blas_offsets (omega (arith, blas-count, few-5, room.blas-offsets)) k (omega (arith, blas-count)))
        0
        (records_in x 5)
        (omega arith)

    tlases-are :
        tlas_lines_of x.packages (sets o.tlas_offsets 0 (plan_of x).tlas_offsets) (sets o.staging_ranges 0 (plan_of x).staging_ranges) 0 (records_in x 7)
        ≡ tlas_lines x 0 (records_in x 7)
    tlases-are =
        tlas-lines-are x (records_in x 7) (sets o.tlas_offsets 0 (plan_of x).tlas_offsets) (sets o.staging_ranges 0 (plan_of x).staging_ranges)
        (λ k l. written_at o.tlas_offsets (plan_of x).tlas_offsets (omega (arith, tlas-count, few-7, room.tlas-offsets)) k (omega (arith, tlas-count)))
        (λ k l. written_at o.staging_ranges (plan_of x).staging_ranges (omega (arith, range-count, few-7, room.staging-ranges)) k (omega (arith, range-count)))
        0
        (records_in x 7)
        (omega arith)

    lists-are : take w.lists (sets o.lists 0 (plan_of x).lists) ≡ (plan_of x).lists
    lists-are = rw lists-count (written_all o.lists (plan_of x).lists (lists_room x i o room))

  lists_within : (v : Building) → build x o ≡ v → lists_of v ≤ length o.lists
  lists_within (not_built e f c) h = omega arith
  lists_within (nothing-recorded n) h = omega arith
  lists_within (recorded n w) h = rw (lists-count n w h) (lists_room x (i n w h) o room)

  -- with what it left of the outputs
  lines_are : (v : Building) → build x o ≡ v → answer_lines_of v counter x a (leaves v (plan_of x) o) ≡ answer_lines counter x a v
  lines_are (not_built e f c) h = refl
  lines_are (nothing-recorded n) h = rw (submit_lines_are counter x false a refl)
  lines_are (recorded n w) h =
      rw (blases-are n w h, tlases-are n w h, submit_lines_are counter x true a (lists-are n w h)) (simp append_assoc)

  refusal_is : (v : Building) → build x o ≡ v → answer_refusal_of v counter x a (leaves v (plan_of x) o) ≡ answer_refusal counter x a v
  refusal_is (not_built e f c) h = refl
  refusal_is (nothing-recorded n) h = rw (submit_refusal_is counter x false a refl)
  refusal_is (recorded n w) h = rw (submit_refusal_is counter x true a (lists-are n w h))

  -- the code's answer v, and the outputs q that it left
  module _ {v : Building} {q : Outputs} (e : v ≡ build x o) (f : q ≡ outputs_after x o) where
    pub lists-fit : lists_of v ≤ length o.lists
    lists-fit = rw e (lists_within (build x o) refl)

    -- no output is longer or shorter than it was
    pub same-lengths : counts_of q ≡ counts_of o
    same-lengths = ap counts_of f ∙ leaves-lengths (build x o) (plan_of x) o

    pub built-lines : answer_lines_of v counter x a q ≡ table_lines counter x a
    unfolding table_lines
    built-lines = rw (e, f, ← build_with_room x o room) (lines_are (build x o) refl)

    pub built-refusal : answer_refusal_of v counter x a q ≡ table_refusal counter x a
    unfolding table_refusal
    built-refusal = rw (e, f, ← build_with_room x o room) (refusal_is (build x o) refl)
