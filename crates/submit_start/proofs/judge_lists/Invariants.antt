-- The invariant: what is left to do, done from here, is what the whole was to be.
use Rattle.std.proofs.Common.{◌≡◌, ◌-◌, []}
use Rattle.ray_tracing.specs.Submission.{judge_lists, lent_of}
use Rattle.submit_start.proofs.judge_lists.Given as goal

abbrev pub invariant-loop-t : goal.invariant-loop-t
invariant-loop-t l = judge_lists (lent_of 0 l.blases [] l.dependency_counts l.dependencies) l.t (l.tlas_count - l.t) ≡ judge_lists (lent_of 0 l.blases [] l.dependency_counts l.dependencies) 0 l.tlas_count
