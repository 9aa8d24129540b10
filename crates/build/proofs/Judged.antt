-- What judging found decides the answer; and the answer, what is written and what is left of each output.
use mathlib.Core.Path.{◌≡◌, refl, sym, ap, ◌∙◌}
use mathlib.Core.Bool.{Bool, true, false}
use Prim.Native.Nat.{ℕ, ◌<◌}
use lib.ListN.{length, get_or}
use Rattle.ray_tracing.specs.declared.Written.{Written}
use Rattle.ray_tracing.specs.Causes.{Cause, bare}
use Rattle.ray_tracing.specs.Plan.{Tables, refused, on, Outputs, too_short, short, counts_of, Building, recorded, nothing-recorded, unless, build, leaves}
use Rattle.ray_tracing.specs.Plan as plan
use Rattle.ray_tracing.proofs.Inside.{inside}
use Rattle.build_judge.specs.Judging.{BuildJudged, to_refuse, to_record_nothing, to_record, judge_build}
use Rattle.build_judge.proofs.Answer.{Passed, nothing-passed, recorded-passed, recorded_scratch, answer-refused, answer-nothing, answer-recorded}
use Rattle.build_ranges.specs.Ranges.{DrawnFit}
use Rattle.build_plan.specs.Planned.{planned, Plannable}
use Rattle.build_plan.proofs.Judged.{plan_is, geometries-drawn, plannable}
use Rattle.build.specs.Room.{recorded_if, nothing_if, ranges_out, Writes}
use Rattle.build.proofs.Room.{fits, room_is}

-- ---- what judging found

module _ (x : Tables) where
  plan-from : Passed x → planned x ≡ plan.plan_of x
  plan-from p = sym (plan_is x p.entries)

  -- what was judged is what counting and writing ask; bytes are below 256
  module _ (bytes : (k : ℕ) → get_or x.buffers k 0 < 256) where
    passed-drawn : Passed x → DrawnFit x.version x.entries x.geometries
    passed-drawn p = geometries-drawn x (inside x p.tables p.ids) p.entries bytes

    passed-plannable : Passed x → plan.judge_scratch x ≡ plan.passed → Plannable x
    passed-plannable p s = plannable x (inside x p.tables p.ids) p.entries bytes p.packages s

    pub nothing-drawn : to_record_nothing ≡ judge_build x → DrawnFit x.version x.entries x.geometries
    nothing-drawn h = passed-drawn (nothing-passed x (sym h))

    pub record-plannable : (n : ℕ) → to_record n ≡ judge_build x → Plannable x
    record-plannable n h = passed-plannable (recorded-passed x n (sym h)) (recorded_scratch x n (sym h))

  module _ (o : Outputs) where
    pub refused_build : {e f : ℕ} {c : Cause} → to_refuse e f c ≡ judge_build x → plan.not_built e f c ≡ build x o
    refused_build h = sym (answer-refused x o _ _ _ (sym h))

    -- nothing recorded, or 39
    pub nothing-build :
        {n : ℕ} → to_record_nothing ≡ judge_build x → n ≡ length (ranges_out x) → nothing_if n (length o.init_ranges) ≡ build x o
    nothing-build h e =
        let cells = e ∙ ap (λ (p : Outputs). length p.init_ranges) (plan-from (nothing-passed x (sym h))) in
        ap (λ (n : ℕ). nothing_if n (length o.init_ranges)) cells ∙ sym (answer-nothing x o (sym h))

    -- recorded, or 39
    pub record-build :
        {w : Written} (n : ℕ) → to_record n ≡ judge_build x → w ≡ counts_of (planned x) → recorded_if n w (counts_of o) ≡ build x o
    record-build n h e =
        let counts = e ∙ ap counts_of (plan-from (recorded-passed x n (sym h))) in
        ap (λ (w : Written). recorded_if n w (counts_of o)) counts ∙ sym (answer-recorded x o n (sym h))

-- ---- what is written

module _ (x : Tables) (o : Outputs) where
  left_by : (j : BuildJudged) → judge_build x ≡ j → leaves (build x o) (planned x) o ≡ leaves (build x o) (plan.plan_of x) o
  left_by (to_refuse e f c) h = rw (answer-refused x o e f c h)
  left_by to_record_nothing h = ap (λ (p : Outputs). leaves (build x o) p o) (plan-from x (nothing-passed x h))
  left_by (to_record n) h = ap (λ (p : Outputs). leaves (build x o) p o) (plan-from x (recorded-passed x n h))

  -- what is left is what the plan leaves
  pub left_is : {b : Building} → b ≡ build x o → leaves b (planned x) o ≡ plan.outputs_after x o
  left_is e = ap (λ (b : Building). leaves b (planned x) o) e ∙ left_by (judge_build x) refl

  -- room decides an answer: where it is short nothing is written
  by_room : (is_short : Bool) (b : Building) → (is_short ≡ false → Writes b x o) → Writes (unless (on is_short (refused 0 0 (bare 39))) b) x o
  by_room true b w = tt
  by_room false b w = w refl

  module _ (bytes : (k : ℕ) → get_or x.buffers k 0 < 256) where
    writes-by : (j : BuildJudged) → judge_build x ≡ j → Writes (build x o) x o
    writes-by (to_refuse e f c) h = rw (answer-refused x o e f c h) tt
    writes-by to_record_nothing h =
        let p = nothing-passed x h in
        let same = ap (λ (y : Outputs). short y.init_ranges o.init_ranges) (plan-from x p) in
        rw (answer-nothing x o h) (by_room _ (nothing-recorded _) (λ e. (passed-drawn x bytes p, fits (ranges_out x) o.init_ranges (same ∙ e))))
    writes-by (to_record m) h =
        let p = recorded-passed x m h in
        let same = ap (λ (y : Outputs). too_short y o) (plan-from x p) in
        rw (answer-recorded x o m h)
        (by_room _ (recorded m _) (λ e. (passed-plannable x bytes p (recorded_scratch x m h), room_is (planned x) o (same ∙ e))))

    -- what an answer may write was judged, and has room
    pub writes : {b : Building} → b ≡ build x o → Writes b x o
    writes e = rw e (writes-by (judge_build x) refl)
