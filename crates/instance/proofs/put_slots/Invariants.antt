-- The invariant: what the first i slots write is written, and ends at `end`.
use Rattle.std.proofs.Common.{◌+◌, ◌*◌, ◌≡◌}
use Rattle.std.proofs.lemmas.List.Edits.{sets}
use Rattle.ray_tracing.specs.Instances.{slots_bytes, present_of}
use Rattle.instance.proofs.put_slots.Given as goal

abbrev pub invariant-loop-i : goal.invariant-loop-i
invariant-loop-i l =
    (l.end ≡ l.at + 64 * present_of l.slots l.first l.i)
    × (l.instances ≡ sets l.initial.instances l.at (slots_bytes l.blases l.slots l.first l.i))
