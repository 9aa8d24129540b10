-- `build_plan::write_instances` meets its contract: the slots of the table are all from slot 0 on.
use native.Mathlib.Nat.{zero-add}
use borrow.Author.Rules.{rules}
use Rattle.ray_tracing.proofs.Instances.{slots_length}
use Rattle.build_plan.proofs.write_instances.Goals as goal

pub put_slots-requires : goal.put_slots-requires
put_slots-requires c = let room = rw slots_length at c.requires.1 in
    record { size_in_bounds = search rules; by_index = λ i h. rw zero-add (c.requires.0 i h) }
