-- The invariant: what is left to do, done from here, is what the whole was to be.
use Rattle.std.proofs.Common.{◌≡◌, drop}
use Rattle.ray_tracing.specs.Submission as Submission
use Rattle.ray_tracing.specs.Submission.{Lent, first, unusable_blas}
use Rattle.submit_use.proofs.use_list.Given as goal

abbrev pub invariant-loop-id : goal.invariant-loop-id
invariant-loop-id l = (m : Lent) → m.blases ≡ l.blases → (Submission.tlas m l.tlas.0).built_index ≡ l.own → first (unusable_blas m l.tlas.0) (drop l.id-index l.ids) ≡ first (unusable_blas m l.tlas.0) l.ids
