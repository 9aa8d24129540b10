-- What was judged of a start is known where the use is judged.
use Rattle.ray_tracing.specs.Submission.{buffers_of}
use Rattle.ray_tracing.proofs.Firsts.{inside}
use Rattle.submit_checks.specs.Known.{tlases_in}
use Rattle.submit_checks.proofs.Judged.{nothing}
use Rattle.submit_checks.proofs.Start.{ready}
use Rattle.submit_use.proofs.use_action.Goals as goal

pub use_tlas-requires : goal.use_tlas-requires
use_tlas-requires c =
    let a = c.args in
    let h = inside (tlases_in a.tlases.now) a.tlas.0 (nothing c.judge_tlas.ensures c.in_ok-judge_tlas.was) in
    let k = ready 0 (buffers_of a.blases.now a.tlases.now a.dependency_counts.now a.dependencies.now) c.requires in
    record { inside = h; list_room = k.room; listed = (k.few _ h, k.inside _ h) }
