-- The judging of a build, up to where only room is left to judge. Assumes nothing.
use Rattle.std.specs.Prelude.{ℕ, cond, eqb, Option, Some, None, Result, Ok, Err}
use Rattle.ray_tracing.specs.declared.BuildRefusal.{BuildRefusal}
use Rattle.ray_tracing.specs.Causes.{Cause, build_cause}
use Rattle.ray_tracing.specs.Plan.{
  Tables,
  Verdict,
  passed,
  refused,
  ◌or◌,
  judge_tables,
  judge_ids,
  judge_entries,
  judge_packages,
  judge_final,
  scratch_size,
}

-- refused, with E; nothing to record; or to be recorded, with the scratch size
pub data BuildJudged : Type 0 where
  to_refuse : ℕ → ℕ → Cause → BuildJudged
  to_record_nothing : BuildJudged
  to_record : ℕ → BuildJudged

abbrev pub judgement_of : Result (Option ℕ) BuildRefusal → BuildJudged
judgement_of (Err r) = to_refuse r.e0 r.e1 (build_cause r.error)
judgement_of (Ok None) = to_record_nothing
judgement_of (Ok (Some n)) = to_record n

abbrev pub judged_unless : Verdict → BuildJudged → BuildJudged
judged_unless passed j = j
judged_unless (refused e f c) j = to_refuse e f c

-- what is judged in any case
unfoldable pub judge_to_packages : Tables → Verdict
judge_to_packages x = judge_tables x or judge_ids x or judge_entries x or judge_packages x

-- "Larger total 0: accepted, nothing recorded": what comes after the packages is not judged then
unfoldable pub judge_build : Tables → BuildJudged
judge_build x =
    judged_unless (judge_to_packages x)
    (cond (eqb (scratch_size x) 0) to_record_nothing (judged_unless (judge_final x) (to_record (scratch_size x))))
