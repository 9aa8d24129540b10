-- `report_submit::put_submission` meets its contract: what is lent is what the definition says, cut from the arrays.
use Prim.Native.Nat.{◌*◌, ◌/◌}
use lib.ListN.{length}
use native.Mathlib.Omega.{arith}
use Rattle.report_text.proofs.Laws.{put_within, put_taken, count_is}
use Rattle.report_submit.specs.Parts.{places}
use Rattle.ray_tracing.specs.Layout.{size}
use Rattle.ray_tracing.specs.Submission.{most_dependencies}
use Rattle.ray_tracing.specs.Parts.{listing}
use Rattle.report_submit.proofs.Laws.{cells_fit, zeros, outcome_is, lines-told, refusal_told}
use Rattle.report_submit.proofs.put_submission.Goals as goal

pub slice_bounds-cells-end : goal.slice_bounds-cells-end
slice_bounds-cells-end c = put_within c.put_actions-used.ensures (cells_fit _ _ _ c.requires.lendable.few-actions)

pub slice_bounds-submit-end : goal.slice_bounds-submit-end
slice_bounds-submit-end c = count_is _ _ (put_within c.put_actions-used.ensures (cells_fit _ _ _ c.requires.lendable.few-actions))

pub returns : goal.returns
returns c = let a = c.args in
    let few = c.requires.lendable in
    let n = length a.tables.now.tlases.now / size 4 in
    let b = put_taken c.put-b.ensures few.blas-bytes in
    let t = put_taken c.put-t.ensures few.tlas-bytes in
    let counts = zeros n 32 (omega (arith, few.tlas-bytes)) in
    let lists = zeros (n * most_dependencies) 16384 (omega (arith, few.tlas-bytes)) in
    let l = put_taken c.put_actions-used.ensures (cells_fit (listing a.tables.now.entries.now a.tables.now.packages.now) a.recorded a.actions.now few.few-actions) in
    let o =
    outcome_is a.counter a.tables.now.blases.now a.tables.now.tlases.now a.tables.now.entries.now a.tables.now.packages.now a.recorded a.actions.now
    a.lists.now c.submit-submitted.ensures.submits b t counts lists l in
    let s = c.submit-submitted.result in
    let p = places a.recorded a.actions.now in
    record {
      put = rw (lines-told s a.actions.now p o) at c.put_submitted.ensures.put;
      refuses = rw (refusal_told s a.actions.now p o) at c.put_submitted.ensures.refuses;
    }
