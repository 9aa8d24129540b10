-- What judging records finds, and what the writing of one asks. Assumes nothing.
use Rattle.std.specs.Prelude.{ℕ, List, ◌*◌, ◌≡◌, false, Result, Ok, Err}
use Rattle.ray_tracing.specs.declared.ReadInstancesRefusal.{ReadInstancesRefusal}
use Rattle.ray_tracing.specs.Causes.{bare, instances_number}
use Rattle.ray_tracing.specs.Plan as plan
use Rattle.ray_tracing.specs.ReadInstances.{record_size, address_in, blas_with, is_none}

abbrev pub read_judged_of : Result Unit ReadInstancesRefusal → plan.Verdict
read_judged_of (Ok _) = plan.passed
read_judged_of (Err r) = plan.refused r.index 0 (bare (instances_number r.error))

-- that one Blas stands at the k-th's address
pub record Stands (records blases : List ℕ) (k : ℕ) : Type 0 where
  pub one : is_none (blas_with blases (address_in records (k * record_size))) ≡ false
