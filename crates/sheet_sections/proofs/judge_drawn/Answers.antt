-- `sheet_sections::judge_drawn` meets its contract: what the entries that are left draw, from the place reached, is judged as all is.
use Prim.Native.Nat.{ℕ, suc, ◌+◌, ◌-◌, ◌*◌, ◌/◌, ◌<◌}
use native.Mathlib.Omega.{arith}
use mathlib.Core.Path.{◌≡◌, sym}
use mathlib.Core.List.{List}
use lib.ListN.{length}
use Rattle.std.proofs.lemmas.Result.{err_from_is_err_and}
use Rattle.ray_tracing.specs.Layout.{Field, layout_in, size, total}
use Rattle.ray_tracing.specs.Reading.{◌and_next◌, begin, of_boxes, drawn_count, judge_records, judge_drawn}
use Rattle.ray_tracing.proofs.Reading.{records_whole}
use Rattle.sheet_sections.proofs.judge_drawn.Goals as goal

-- one entry more
drawn_more :
    (fs : List Field) (t : List ℕ) (q : ℕ) (s : List ℕ) (p i n : ℕ)
    → i < n
    → judge_drawn fs t q s p (n - i)
    ≡ (judge_records (begin (size 5) t (of_boxes t q)) fs s p (drawn_count t q)
    and_next judge_drawn fs t (q + size 5) s (p + drawn_count t q * total fs) (n - (i + 1)))
unfolding judge_drawn
drawn_more fs t q s p i n h =
    let more : n - i ≡ suc (n - (i + 1)) = omega arith in
    rw more

pub returns-in_err-judge_records : goal.returns-in_err-judge_records
returns-in_err-judge_records c =
    let a = c.args in
    let l = c.loop in
    let e = err_from_is_err_and c.from_residual.result c.from_residual.ensures.1 in
    let judged = rw (c.in_err-judge_records.was, c.u8_at-boxes.ensures, c.from-n.ensures, c.u16_at.ensures) at c.judge_records.ensures in
    let left = rw (drawn_more (layout_in a.version 6).fields a.entries.now l.q a.s.now l.p l.counter _ c.loop-test.true, ← judged) at l.invariant.left in
    rw (e.1, e.2) left

pub loop-preserved : goal.loop-preserved
loop-preserved c =
    let a = c.args in
    let l = c.loop in
    let judged = rw (c.in_ok-judge_records.was, c.u8_at-boxes.ensures, c.from-n.ensures, c.u16_at.ensures) at c.judge_records.ensures in
    let left = rw (drawn_more (layout_in a.version 6).fields a.entries.now l.q a.s.now l.p l.counter _ c.loop-test.true, ← judged) at l.invariant.left in
    record {
      within = rw (c.from-n.ensures, c.u16_at.ensures, c.geometry_size-size.ensures) (records_whole _ (layout_in a.version 6).fields _ _ l.p l.invariant.within (sym judged));
      entries_within = omega arith;
      left = rw (c.from-n.ensures, c.u16_at.ensures, c.geometry_size-size.ensures) left;
    }

pub returns : goal.returns
unfolding judge_drawn
returns c =
    let none : length c.args.entries.now / 5 - c.loop.counter ≡ 0 = omega arith in
    rw none at c.loop.invariant.left
