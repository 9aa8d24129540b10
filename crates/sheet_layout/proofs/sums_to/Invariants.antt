-- The whole sum is what was taken off n and the sum of what is left.
use Rattle.std.proofs.Common.{◌≡◌, ◌+◌, ◌-◌, ◌*◌, ◌/◌, ◌≤◌, length}
use Rattle.ray_tracing.specs.Reading.{sum_of_counts}
use Rattle.sheet_layout.proofs.sums_to.Given as goal

abbrev pub invariant-loop : goal.invariant-loop
invariant-loop l =
    let left = l.end - l.counter in
    record {
      within : l.q + left * l.width ≤ length l.t + l.offset;
      sum : sum_of_counts l.t l.width l.offset (length l.t / l.width) + l.rest ≡ l.n + sum_of_counts l.t l.width l.q left;
    }
