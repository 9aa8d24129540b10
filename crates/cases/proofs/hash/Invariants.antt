-- `cases::hash` is the hash of the list: what is hashed so far and what is left make the whole. Assumes nothing.
use Rattle.std.proofs.Common.{◌≡◌, ◌<◌, map, drop}
use Rattle.cases.specs.Hash.{hash, hash_from}
use Rattle.cases.proofs.hash.Given as goal

abbrev pub invariant-loop-x : goal.invariant-loop-x
invariant-loop-x g l = (l.h < 4294967291) × (hash_from l.h (map g.T.Cell.value (drop l.x-index l.s)) ≡ hash (map g.T.Cell.value l.s))
