-- The invariant: the bytes of the first k are written.
use Rattle.std.proofs.Common.{◌≡◌}
use Rattle.std.proofs.lemmas.List.Edits.{sets}
use Rattle.ray_tracing.specs.ReadInstances.{items_bytes}
use Rattle.instance_read.proofs.put_items.Given as goal

abbrev pub invariant-loop-k : goal.invariant-loop-k
invariant-loop-k l = l.items ≡ sets l.initial.items 0 (items_bytes l.records l.index.blases.now l.k)
