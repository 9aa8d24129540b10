-- The invariant: n counts the first i slots.
use Rattle.std.proofs.Common.{◌≡◌, ◌≤◌}
use Rattle.ray_tracing.specs.Instances.{present_of}
use Rattle.instance.proofs.present_of.Given as goal

abbrev pub invariant-loop-i : goal.invariant-loop-i
invariant-loop-i l = (l.n ≡ present_of l.slots l.first l.i) × (l.n ≤ l.i)
