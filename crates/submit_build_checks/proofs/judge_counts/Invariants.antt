-- The invariant: what is left to do, done from here, is what the whole was to be.
use Rattle.std.proofs.Common.{◌≡◌, ◌-◌, true, []}
use Rattle.ray_tracing.specs.Submission.{first, packages_at, packages_lent, too_many}
use Rattle.submit_build_checks.proofs.Packages.{too_long}
use Rattle.submit_build_checks.proofs.judge_counts.Given as goal

abbrev pub invariant-loop : goal.invariant-loop
invariant-loop l = record {
  lent : packages_lent l.lists l.at (l.tlas_count - l.counter) ≡ true;
  same : first too_long (packages_at l.lists l.at (l.tlas_count - l.counter)) ≡ too_many [] (packages_at l.lists l.start l.tlas_count);
}
