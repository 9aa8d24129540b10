-- The invariant: what is left to do, done from here, is what the whole was to be.
use Rattle.std.proofs.Common.{◌≡◌, ◌-◌, true}
use Rattle.ray_tracing.specs.Submission.{first, packages_at, packages_lent, mention_package}
use Rattle.submit_checks.specs.Outcome.{tables_only}
use Rattle.submit_build_checks.proofs.judge_packages.Given as goal

abbrev pub invariant-loop : goal.invariant-loop
invariant-loop l = record {
  lent : packages_lent l.lists l.at (l.tlas_count - l.counter) ≡ true;
  same : first (mention_package (tables_only l.blases l.tlases)) (packages_at l.lists l.at (l.tlas_count - l.counter)) ≡ first (mention_package (tables_only l.blases l.tlases)) (packages_at l.lists l.start l.tlas_count);
}
