-- What is left, from the place reached, is judged as all is.
use Rattle.std.proofs.Common.{◌≡◌, ◌-◌, ◌≤◌, length}
use Rattle.ray_tracing.specs.Layout.{layout_in}
use Rattle.ray_tracing.specs.Reading.{begin, judge_records}
use Rattle.sheet_fields.proofs.judge_records.Given as goal

abbrev pub invariant-loop : goal.invariant-loop
invariant-loop l =
    record {
      within : l.p ≤ length l.s;
      left :
          judge_records (begin l.each l.before l.boxes) (layout_in l.version l.section).fields l.s l.p (l.n - l.counter)
          ≡ judge_records (begin l.each l.before l.boxes) (layout_in l.version l.section).fields l.s l.at l.n;
    }
