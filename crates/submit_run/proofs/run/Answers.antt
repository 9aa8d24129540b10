-- One action, then those after it.
use Rattle.std.proofs.Common.{◌≡◌, ◌+◌, ◌*◌, ◌/◌, length, refl, arith, rules}
use Rattle.ray_tracing.specs.Submission.{lent_with, lent_buffers}
use Rattle.ray_tracing.proofs.Firsts.{later_zero}
use Rattle.ray_tracing.proofs.Sound.{sound, judged}
use Rattle.ray_tracing.proofs.Decode.{decode-step}
use Rattle.submit_run.proofs.Running.{run_stop, run_go_on, run_sound, run_ends}
use Rattle.submit_run.proofs.run.Goals as goal

pub loop-index-init : goal.loop-index-init
loop-index-init c = record { sound = sound _ c.ranges.counter.fits c.requires; names = search rules; same = later_zero _ }

pub step-acted-requires : goal.step-acted-requires
step-acted-requires c = judged _ c.loop-index.invariant.sound

pub returns-in-Err-clause-runs : goal.returns-in-Err-clause-runs
returns-in-Err-clause-runs c =
    let b = c.loop-index in
    let l = lent_with b.number (lent_buffers b.buffers) in
    let s = decode-step c.args.lists.now c.args.actions.now (b.index * 4) (omega arith) in
    run_stop b.index l s b.invariant.same c.step-acted.result.came_to (lent_with c.step-acted.result.counter (lent_buffers c.step-acted.new.buffers)) (rw c.cells_at.ensures at c.step-acted.ensures.acts) c.in-Err.is

pub loop-index-preserved : goal.loop-index-preserved
loop-index-preserved c =
    let b = c.loop-index in
    let l = lent_with b.number (lent_buffers b.buffers) in
    let r = lent_with c.step-acted.result.counter (lent_buffers c.step-acted.new.buffers) in
    let s = decode-step c.args.lists.now c.args.actions.now (b.index * 4) (omega arith) in
    let k = rw c.cells_at.ensures at c.step-acted.ensures.acts in
    let e : (b.index + 1) * 4 ≡ b.index * 4 + 4 = omega arith in
    record {
      sound = run_sound b.index l s b.invariant.same c.step-acted.result.came_to r k b.invariant.sound c.in_default.is;
      names = search rules;
      same = rw e (run_go_on b.index l s b.invariant.same c.step-acted.result.came_to r k c.in_default.is);
    }

pub returns-clause-runs : goal.returns-clause-runs
returns-clause-runs c =
    let b = c.loop-index in
    let e : b.index ≡ length c.args.actions.now / 4 = omega arith in
    run_ends b.index (lent_with b.number (lent_buffers b.buffers)) c.args.lists.now c.args.actions.now (b.index * 4) refl e b.invariant.same c.ends.result
    (rw (← e) at c.ends.ensures.0) c.ends.ensures.1
