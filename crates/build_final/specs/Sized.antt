-- What the scratch of a build comes to. Assumes nothing.
use Rattle.std.specs.Prelude.{ℕ, ◌-◌, ◌^◌, Option, Result, Ok, Err}
use Rattle.scratch.specs.Scratch.{or_passed}
use Rattle.ray_tracing.specs.declared.BuildRefusal.{BuildRefusal}
use Rattle.ray_tracing.specs.Causes.{Cause, build_cause}
use Rattle.ray_tracing.specs.Plan.{Tables, Verdict, passed, refused, scratch_size, judge_scratch}

-- a total, unless it reaches 2^64 - 1 or would pass it
abbrev pub below_top : ℕ → Option ℕ
below_top n = or_passed (2 ^ 64 - 2) n

-- the size, or the refusal with E
pub data Sized : Type 0 where
  sized : ℕ → Sized
  reached : ℕ → ℕ → Cause → Sized

abbrev pub sized_of : Result ℕ BuildRefusal → Sized
sized_of (Ok n) = sized n
sized_of (Err r) = reached r.e0 r.e1 (build_cause r.error)

abbrev pub sized_unless : Verdict → ℕ → Sized
sized_unless passed n = sized n
sized_unless (refused e f c) n = reached e f c

abbrev pub scratch_of : Tables → Sized
scratch_of x = sized_unless (judge_scratch x) (scratch_size x)
