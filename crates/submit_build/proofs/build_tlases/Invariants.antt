-- The invariant: what is left to do, done from here, is what the whole was to be.
use Rattle.std.proofs.Common.{◌≡◌, ◌-◌, true, length}
use Rattle.ray_tracing.specs.Submission.{packages_at, packages_lent, build_tlases, lent_of}
use Rattle.submit_checks.specs.Outcome.{stepped}
use Rattle.submit_checks.specs.Known.{blases_in, tlases_in, AllListed}
use Rattle.submit_build.proofs.build_tlases.Given as goal

abbrev pub invariant-loop : goal.invariant-loop
invariant-loop l = record {
  lent : packages_lent l.lists l.at (l.tlas_count - l.counter) ≡ true;
  listed : AllListed (blases_in l.blases) (tlases_in l.initial.tlases) (packages_at l.lists l.at (l.tlas_count - l.counter));
  t_len : length l.tlases ≡ length l.initial.tlases;
  c_len : length l.dependency_counts ≡ length l.initial.dependency_counts;
  d_len : length l.dependencies ≡ length l.initial.dependencies;
  same : build_tlases l.number (packages_at l.lists l.at (l.tlas_count - l.counter)) (lent_of (stepped l.number) l.blases l.tlases l.dependency_counts l.dependencies)
      ≡ build_tlases l.number (packages_at l.lists l.start l.tlas_count) (lent_of (stepped l.number) l.blases l.initial.tlases l.initial.dependency_counts l.initial.dependencies);
}
