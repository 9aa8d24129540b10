-- What a judged build comes to: refused, it is not built; else only room decides, and all that was judged passed.
use Prim.Native.Nat.{ℕ}
use native.Mathlib.Omega.{arith}
use mathlib.Core.Path.{◌≡◌, refl, ◌∙◌}
use mathlib.Core.Bool.{Bool, true, false, cond}
use lib.ListN.{length}
use lib.Dec.{eqb}
use Rattle.ray_tracing.specs.Causes.{Cause, bare}
use Rattle.ray_tracing.specs.Plan.{
  Tables,
  Verdict,
  passed,
  refused,
  on,
  ◌or◌,
  judge_tables,
  judge_ids,
  judge_entries,
  judge_packages,
  judge_scratch,
  judge_final,
  scratch_size,
  plan_of,
  Outputs,
  short,
  too_short,
  counts_of,
  Building,
  recorded,
  nothing-recorded,
  build,
}
use Rattle.ray_tracing.specs.Plan as plan
use Rattle.ray_tracing.proofs.Verdicts.{or-passed}
use Rattle.build_judge.specs.Judging.{BuildJudged, to_refuse, to_record_nothing, to_record, judged_unless, judge_to_packages, judge_build}

-- what is judged in any case passed, part by part
pub record Passed (x : Tables) : Type 0 where
  pub tables : judge_tables x ≡ passed
  pub ids : judge_ids x ≡ passed
  pub entries : judge_entries x ≡ passed
  pub packages : judge_packages x ≡ passed

-- the three ends of judging

module _ (r : Verdict) (b : Bool) (v : Verdict) (n : ℕ) where
  abbrev ended : BuildJudged
  ended = judged_unless r (cond b to_record_nothing (judged_unless v (to_record n)))

none_passed : (r : Verdict) (b : Bool) (v : Verdict) (n : ℕ) → ended r b v n ≡ to_record_nothing → (r ≡ passed) × (b ≡ true)
none_passed passed true v n e = (refl, refl)
none_passed passed false passed n e =
    let z : ◌≡◌ {A = ℕ} 0 1 = cc in
    absurd (omega arith)
none_passed passed false (refused i f c) n e =
    let z : ◌≡◌ {A = ℕ} 0 1 = cc in
    absurd (omega arith)
none_passed (refused i f c) b v n e =
    let z : ◌≡◌ {A = ℕ} 0 1 = cc in
    absurd (omega arith)

record_passed :
    (r : Verdict) (b : Bool) (v : Verdict) (n m : ℕ)
    → ended r b v n ≡ to_record m
    → (r ≡ passed) × (b ≡ false) × (v ≡ passed) × (m ≡ n)
record_passed passed true v n m e =
    let z : ◌≡◌ {A = ℕ} 0 1 = cc in
    absurd (omega arith)
record_passed passed false passed n m e = (refl, refl, refl, cc)
record_passed passed false (refused i f c) n m e =
    let z : ◌≡◌ {A = ℕ} 0 1 = cc in
    absurd (omega arith)
record_passed (refused i f c) b v n m e =
    let z : ◌≡◌ {A = ℕ} 0 1 = cc in
    absurd (omega arith)

-- the answer, by the judgement

module _ (x : Tables) (o : Outputs) where
  -- "nothing recorded, only initialisation ranges written (39 if short)"
  abbrev pub nothing_in : Building
  nothing_in =
      plan.unless (on (short (plan_of x).init_ranges o.init_ranges) (refused 0 0 (bare 39))) (nothing-recorded (length (plan_of x).init_ranges))

  -- "Last: 39"
  abbrev pub recorded_in : ℕ → Building
  recorded_in n = plan.unless (on (too_short (plan_of x) o) (refused 0 0 (bare 39))) (recorded n (counts_of (plan_of x)))

  abbrev answered : BuildJudged → Building
  answered (to_refuse e f c) = plan.not_built e f c
  answered to_record_nothing = nothing_in
  answered (to_record n) = recorded_in n

  answered_end :
      (r : Verdict) (b : Bool) (v : Verdict) (n : ℕ)
      → plan.unless r (cond b nothing_in (plan.unless (v or on (too_short (plan_of x) o) (refused 0 0 (bare 39))) (recorded n (counts_of (plan_of x)))))
      ≡ answered (ended r b v n)
  answered_end passed true v n = refl
  answered_end passed false passed n = refl
  answered_end passed false (refused i f c) n = refl
  answered_end (refused i f c) b v n = refl

  pub build_answered : build x o ≡ answered (judge_build x)
  unfolding build judge_build judge_to_packages
  build_answered = answered_end (judge_tables x or judge_ids x or judge_entries x or judge_packages x) (eqb (scratch_size x) 0) (judge_final x) (scratch_size x)

  -- each of the three

  pub answer-refused : (e f : ℕ) (c : Cause) → judge_build x ≡ to_refuse e f c → build x o ≡ plan.not_built e f c
  answer-refused e f c h = build_answered ∙ rw h

  pub answer-nothing : judge_build x ≡ to_record_nothing → build x o ≡ nothing_in
  answer-nothing h = build_answered ∙ rw h

  pub answer-recorded : (n : ℕ) → judge_build x ≡ to_record n → build x o ≡ recorded_in n
  answer-recorded n h = build_answered ∙ rw h

module _ (x : Tables) where
  pub records_passed : judge_to_packages x ≡ passed → Passed x
  unfolding judge_to_packages
  records_passed h =
      let a = or-passed (judge_tables x) _ h in
      let b = or-passed (judge_ids x) _ a.1 in
      let c = or-passed (judge_entries x) _ b.1 in
      record { tables = a.0; ids = b.0; entries = c.0; packages = c.1 }

  pub nothing-passed : judge_build x ≡ to_record_nothing → Passed x
  unfolding judge_build
  nothing-passed h = records_passed (none_passed (judge_to_packages x) (eqb (scratch_size x) 0) (judge_final x) (scratch_size x) h).0

  pub recorded-passed : (n : ℕ) → judge_build x ≡ to_record n → Passed x
  unfolding judge_build
  recorded-passed n h = records_passed (record_passed (judge_to_packages x) (eqb (scratch_size x) 0) (judge_final x) (scratch_size x) n h).0

  pub recorded_scratch : (n : ℕ) → judge_build x ≡ to_record n → judge_scratch x ≡ passed
  unfolding judge_build judge_final
  recorded_scratch n h =
      (or-passed (judge_scratch x) _ (record_passed (judge_to_packages x) (eqb (scratch_size x) 0) (judge_final x) (scratch_size x) n h).2).0
