-- What closes the goals of slots: one of them, and one more.
use native.Mathlib.Numerals.{add-one}
use Rattle.ray_tracing.proofs.Instances.{slot-none, slot-some, slot-some-length, slot-blas, slot_custom, present_more, present_mono}

pub ruleset one = (slot-none, slot-some, slot-some-length, slot-blas, slot_custom)

pub ruleset more = (add-one, present_more, present_mono)
