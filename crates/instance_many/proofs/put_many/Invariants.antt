-- The invariant: the bytes of the first i are written.
use Rattle.std.proofs.Common.{◌≡◌}
use Rattle.std.proofs.lemmas.List.Edits.{sets}
use Rattle.ray_tracing.specs.AppendMany.{many_bytes}
use Rattle.instance_many.proofs.put_many.Given as goal

abbrev pub invariant-loop-i : goal.invariant-loop-i
invariant-loop-i l = l.instances ≡ sets l.initial.instances l.at (many_bytes l.blases l.items l.i)
