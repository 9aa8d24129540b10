-- The invariant: past the first n Blases none but `one` stands there, and the n-th may.
use Rattle.instance_find.proofs.Index.{Searched}
use Rattle.instance_find.proofs.BlasIndex.find.Given as goal

abbrev pub invariant-loop-n : goal.invariant-loop-n
invariant-loop-n l = Searched l.self.blases.now l.address l.one l.n

abbrev pub decreases-loop-n : goal.decreases-loop-n
decreases-loop-n l = l.n
