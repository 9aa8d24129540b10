-- `submit_checks::blas_of` meets its contract: the return is the definition's own case. Assumes nothing.
use Rattle.std.proofs.Common.{rules}
use Rattle.ray_tracing.specs.Submission.{blas_in}
use Rattle.submit_checks.proofs.blas_of.Goals as goal

pub returns : goal.returns
unfolding blas_in
returns c = search rules
