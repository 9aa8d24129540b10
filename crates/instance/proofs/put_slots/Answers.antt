-- `instance::put_slots` meets its contract: one slot more is written.
use Rattle.std.proofs.Common.{◌+◌, ◌*◌, arith}
use Rattle.std.proofs.lemmas.Grind.{common_steps}
use Rattle.ray_tracing.specs.Instances.{slot_bytes, slots_bytes, present_of}
use Rattle.ray_tracing.proofs.Instances.{slots_length, slots_more, present_more}
use Rattle.instance_bytes.proofs.Laws.{sets_then}
use Rattle.instance.proofs.put_slots.Goals as goal

pub loop-i-init : goal.loop-i-init
unfolding present_of slots_bytes
loop-i-init c = grind (arith, common_steps)

pub loop-i-preserved : goal.loop-i-preserved
loop-i-preserved c =
    let a = c.args in
    let bl = a.blases.now in
    let s = a.slots.now in
    let i = c.loop-i.i in (
      grind (arith, common_steps, present_more bl),
      rw (slots_more bl s a.first i)
          (sets_then a.instances.now a.at _ (slots_bytes bl s a.first i) (slot_bytes bl s ((a.first + i) * 56))
          c.loop-i.invariant.1 c.put_slot-end.ensures.instances_after (grind (arith, slots_length))),
    )
