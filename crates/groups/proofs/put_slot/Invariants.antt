-- The invariant: the first k numbers of 8 bytes are copied.
use Rattle.std.proofs.Common.{◌≡◌, ◌*◌, take, drop}
use lib.Seq.{sets}
use Rattle.groups.proofs.put_slot.Given as goal

abbrev pub invariant-loop-k : goal.invariant-loop-k
invariant-loop-k l = l.slots ≡ sets l.initial.slots l.to (take (8 * l.k) (drop l.at l.groups))
