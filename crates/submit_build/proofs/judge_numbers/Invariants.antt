-- The invariant: what is left to do, done from here, is what the whole was to be.
use Rattle.std.proofs.Common.{◌≡◌, drop}
use Rattle.ray_tracing.specs.Submission.{first, unnumbered}
use Rattle.submit_checks.specs.Outcome.{blases_of}
use Rattle.submit_build.proofs.judge_numbers.Given as goal

abbrev pub invariant-loop-id : goal.invariant-loop-id
invariant-loop-id l = first (unnumbered (blases_of l.blases) l.tlas.0) (drop l.id-index l.ids) ≡ first (unnumbered (blases_of l.blases) l.tlas.0) l.ids
