-- What the entries that are left draw, from the place reached, is judged as all is.
use Rattle.std.proofs.Common.{◌≡◌, ◌+◌, ◌-◌, ◌*◌, ◌/◌, ◌≤◌, length}
use Rattle.ray_tracing.specs.Layout.{layout_in, size}
use Rattle.ray_tracing.specs.Reading.{judge_drawn}
use Rattle.sheet_sections.proofs.judge_drawn.Given as goal

abbrev pub invariant-loop : goal.invariant-loop
invariant-loop l =
    record {
      within : l.p ≤ length l.s;
      entries_within : l.q + size 5 * (l.end - l.counter) ≤ length l.entries;
      left :
          judge_drawn (layout_in l.version 6).fields l.entries l.q l.s l.p (l.end - l.counter)
          ≡ judge_drawn (layout_in l.version 6).fields l.entries 0 l.s l.at (length l.entries / size 5);
    }
