-- `instance_read::put_items` meets its contract.
use native.Mathlib.Numerals.{add-one}
use Rattle.std.proofs.Common.{arith}
use Rattle.std.proofs.lemmas.Grind.{common_steps}
use Rattle.instance_bytes.proofs.Laws.{sets_then}
use Rattle.ray_tracing.specs.ReadInstances.{read_instance, lent_bytes, items_bytes}
use Rattle.ray_tracing.proofs.ReadInstances.{items_length}
use Rattle.instance_read.proofs.put_items.Goals as goal

pub loop-k-init : goal.loop-k-init
unfolding items_bytes
loop-k-init c = grind (arith, common_steps)

pub loop-k-preserved : goal.loop-k-preserved
unfolding items_bytes
loop-k-preserved c =
    let a = c.args in
    let r = a.records.now in
    let bl = a.index.now.blases.now in
    let k = c.loop-k.k in
    rw add-one
    (sets_then a.items.now 0 _ (items_bytes r bl k) (lent_bytes (read_instance r bl k)) c.loop-k.invariant c.put_item.ensures
    (omega (arith, items_length r bl k)))
