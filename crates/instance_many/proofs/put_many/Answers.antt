-- `instance_many::put_many` meets its contract.
use native.Mathlib.Numerals.{add-one}
use Rattle.std.proofs.Common.{arith}
use Rattle.std.proofs.lemmas.Grind.{common_steps}
use Rattle.instance_bytes.proofs.Laws.{sets_then}
use Rattle.ray_tracing.specs.Instances.{instance_bytes, address_for}
use Rattle.ray_tracing.specs.AppendMany.{lent_instance, many_bytes}
use Rattle.ray_tracing.proofs.AppendMany.{many_length}
use Rattle.instance_many.proofs.put_many.Goals as goal

pub loop-i-init : goal.loop-i-init
unfolding many_bytes
loop-i-init c = grind (arith, common_steps)

pub loop-i-preserved : goal.loop-i-preserved
unfolding many_bytes
loop-i-preserved c =
    let a = c.args in
    let bl = a.blases.now in
    let s = a.items.now in
    let k = c.loop-i.i in
    let i = lent_instance s k in
    rw add-one
    (sets_then a.instances.now a.at _ (many_bytes bl s k) (instance_bytes i (address_for bl i)) c.loop-i.invariant c.put_lent.ensures
    (omega (arith, many_length bl s k)))
