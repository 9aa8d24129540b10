-- The invariant: the first k Blases are indexed.
use Rattle.std.proofs.Common.{◌≡◌, length}
use Rattle.instance_find.specs.Index.{IndexedUpTo}
use Rattle.instance_find.proofs.BlasIndex.new.Given as goal

abbrev pub invariant-loop-k : goal.invariant-loop-k
invariant-loop-k l = (length l.last ≡ 257) × (length l.before ≡ 128) × IndexedUpTo l.blases l.last l.before l.k
