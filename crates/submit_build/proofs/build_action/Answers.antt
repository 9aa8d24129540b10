-- Judged, or built.
use Rattle.ray_tracing.specs.Submission.{lent_with, lent_buffers}
use Rattle.submit_checks.proofs.Judged.{nothing}
use Rattle.submit_checks.proofs.Steps.{step-refused}
use Rattle.submit_checks.proofs.Start.{ready}
use Rattle.submit_checks.specs.Outcome.{build_of}
use Rattle.submit_build.proofs.build_action.Goals as goal

pub returns-in-Err-clause-acts : goal.returns-in-Err-clause-acts
returns-in-Err-clause-acts c =
    let a = c.args in
    step-refused (lent_with a.counter (lent_buffers a.buffers.now)) (build_of a.lists.now) _ c.judge_build.ensures c.in-Err.is

pub build-requires : goal.build-requires
build-requires c =
    record {
      unrefused = nothing c.judge_build.ensures c.in_default.is;
      list_room = (ready _ (lent_buffers c.args.buffers.now) c.requires.judged).room;
    }
