-- The invariant: what is left to do, done from here, is what the whole was to be.
use Rattle.std.proofs.Common.{◌≡◌, drop}
use Rattle.ray_tracing.specs.Submission.{built_blases}
use Rattle.submit_build.proofs.mark_blases.Given as goal

abbrev pub invariant-loop-id : goal.invariant-loop-id
invariant-loop-id l = built_blases l.number (drop l.id-index l.ids) l.blases ≡ built_blases l.number l.ids l.initial.blases
