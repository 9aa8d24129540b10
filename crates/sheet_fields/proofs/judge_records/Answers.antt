-- `sheet_fields::judge_records` meets its contract: what is left, from the place reached, is judged as all is.
use Prim.Native.Nat.{ℕ, suc, ◌+◌, ◌-◌, ◌<◌}
use native.Mathlib.Omega.{arith}
use mathlib.Core.Path.{◌≡◌, sym, ap, ◌∙◌}
use mathlib.Core.List.{List}
use Rattle.std.proofs.lemmas.Result.{err_from_is_err_and}
use Rattle.ray_tracing.specs.Layout.{Seen, Field, layout_in, total}
use Rattle.ray_tracing.specs.Reading.{fine, ◌and_next◌, begin, judge_fields, judge_records}
use Rattle.ray_tracing.specs.Code.{judged_of}
use Rattle.ray_tracing.proofs.Reading.{fields_whole}
use Rattle.sheet_fields.proofs.judge_records.Goals.{then-not-whole_fits+in_ok-judge_record, else-not-whole_fits}
use Rattle.sheet_fields.proofs.judge_records.Goals as goal

-- one record more
record_more :
    (c : Seen) (fs : List Field) (s : List ℕ) (p i n : ℕ)
    → i < n
    → judge_records c fs s p (n - i) ≡ (judge_fields c s p fs and_next judge_records c fs s (p + total fs) (n - (i + 1)))
unfolding judge_records
record_more c fs s p i n h =
    let more : n - i ≡ suc (n - (i + 1)) = omega arith in
    rw more

pub returns-in_err-judge_record : goal.returns-in_err-judge_record
returns-in_err-judge_record c =
    let a = c.args in
    let e = err_from_is_err_and c.from_residual.result c.from_residual.ensures.1 in
    let judged = rw (c.in_err-judge_record.was, c.new-records.ensures.0, c.new-records.ensures.1) at c.judge_record.ensures in
    let left = rw (record_more _ (layout_in a.version a.section).fields a.s.now c.loop.p c.loop.counter a.n c.loop-test.true, ← judged) at c.loop.invariant.left in
    rw (e.1, e.2) left

pub loop-preserved : goal.loop-preserved
loop-preserved c =
    let a = c.args in
    let judged : judge_fields (begin a.each a.before.now a.boxes) a.s.now c.loop.p (layout_in a.version a.section).fields ≡ fine
    = elim c.if-not-whole_fits.branch [
      | then-not-whole_fits+in_ok-judge_record w ↦ rw (c.new-records.ensures.0, c.new-records.ensures.1) at (sym w.judge_record.ensures ∙ ap judged_of w.in_ok-judge_record.was)
      | else-not-whole_fits w ↦ rw (c.new-records.ensures.0, c.new-records.ensures.1) at (c.whole_fits.ensures w.if-not-whole_fits.false)
    ] in
    let left = rw (record_more _ (layout_in a.version a.section).fields a.s.now c.loop.p c.loop.counter a.n c.loop-test.true, judged) at c.loop.invariant.left in
    record {
      within = rw c.size_of-size.ensures (fields_whole _ _ _ _ c.loop.invariant.within judged);
      left = rw c.size_of-size.ensures left;
    }

pub returns : goal.returns
unfolding judge_records
returns c =
    let none : c.args.n - c.loop.counter ≡ 0 = omega arith in
    rw none at c.loop.invariant.left
