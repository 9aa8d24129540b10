-- What the entries that are left draw, cleared, is what all was to be.
use Rattle.std.proofs.Common.{◌≡◌, ◌+◌, ◌-◌, ◌*◌, ◌/◌, ◌≤◌, length}
use lib.Seq.{sets}
use Rattle.ray_tracing.specs.Layout.{size, size_in}
use Rattle.ray_tracing.specs.Reading.{sum_of_counts}
use Rattle.sheet_clear.proofs.Records.{drawn_cleared}
use Rattle.sheet_clear.proofs.clear_drawn.Given as goal

abbrev pub invariant-loop : goal.invariant-loop
invariant-loop l =
    (l.p + sum_of_counts l.entries (size 5) (l.q + 3) (length l.entries / size 5 - l.counter) * size_in l.fn.version 6 ≤ length l.out)
    × ((l.q + size 5 * (length l.entries / size 5 - l.counter) ≤ length l.entries)
    × (sets l.out l.p (drawn_cleared l.fn.version l.entries l.q l.out l.p (length l.entries / size 5 - l.counter))
    ≡ sets l.initial.out l.at (drawn_cleared l.fn.version l.entries 0 l.initial.out l.at (length l.entries / size 5))))
