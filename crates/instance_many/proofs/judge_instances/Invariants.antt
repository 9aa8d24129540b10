-- The invariant: what is left from the k-th on is the whole.
use Rattle.std.proofs.Common.{◌-◌, ◌≡◌}
use Rattle.ray_tracing.specs.Instances.{named_instance_rule}
use Rattle.ray_tracing.specs.AppendMany.{lent_instance}
use Rattle.ray_tracing.specs.Plan.{at_e, first_of}
use Rattle.instance_many.proofs.judge_instances.Given as goal

abbrev pub invariant-loop-k : goal.invariant-loop-k
invariant-loop-k l =
    first_of (λ k. at_e 0 k (named_instance_rule l.tlas l.blases (lent_instance l.items k))) l.k (l.k-end - l.k)
    ≡ first_of (λ k. at_e 0 k (named_instance_rule l.tlas l.blases (lent_instance l.items k))) 0 l.k-end
