-- The invariant: what is left from the k-th on is the whole.
use Rattle.std.proofs.Common.{◌-◌, ◌≡◌}
use Rattle.ray_tracing.specs.Plan.{first_of}
use Rattle.ray_tracing.specs.ReadInstances.{judge_record}
use Rattle.instance_read.proofs.judge_each.Given as goal

abbrev pub invariant-loop-k : goal.invariant-loop-k
invariant-loop-k l =
    first_of (judge_record l.records l.index.blases.now) l.k (l.k-end - l.k) ≡ first_of (judge_record l.records l.index.blases.now) 0 l.k-end
