-- The invariant: what is left to do, done from here, is what the whole was to be.
use Rattle.std.proofs.Common.{◌≡◌, ◌≤◌, ◌-◌, length}
use Rattle.ray_tracing.specs.Submission.{packages_lent}
use Rattle.submit_build_checks.proofs.packages_lent.Given as goal

abbrev pub invariant-loop : goal.invariant-loop
invariant-loop l = record {
  inside : l.at ≤ length l.lists;
  same : packages_lent l.lists l.at (l.tlas_count - l.counter) ≡ packages_lent l.lists l.start l.tlas_count;
}
