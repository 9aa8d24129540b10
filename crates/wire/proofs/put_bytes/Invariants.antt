-- The invariant: what is left to copy, copied, is what the whole was to be.
use Rattle.std.proofs.Common.{drop, ◌≡◌, ◌+◌}
use Rattle.std.proofs.lemmas.List.Edits.{sets}
use Rattle.wire.proofs.put_bytes.Given as goal

abbrev pub invariant-loop-i : goal.invariant-loop-i
invariant-loop-i l = sets l.s (l.at + l.i) (drop l.i l.v) ≡ sets l.initial.s l.at l.v
