-- The invariant: the first k patterns are written.
use Rattle.std.proofs.Common.{◌≡◌, take}
use Rattle.std.proofs.lemmas.List.Edits.{sets}
use Rattle.ray_tracing.specs.Instances.{patterns, words}
use Rattle.instance_bytes.proofs.put_transform.Given as goal

abbrev pub invariant-loop-k : goal.invariant-loop-k
invariant-loop-k l = l.out ≡ sets l.initial.out l.at (words (take l.k (patterns l.transform l.nan_bits)))
