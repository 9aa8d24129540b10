-- The invariant: the numbers that are left have room, and with them written the text is whole.
use Rattle.std.proofs.Common.{length, drop, ◌-◌, ◌+◌, ◌*◌, ◌≤◌}
use Rattle.ray_tracing.specs.Report.{spaced}
use Rattle.report_text.proofs.Laws.{Left}
use Rattle.report_text.proofs.put_numbers.Given as goal

abbrev pub invariant-loop-n : goal.invariant-loop-n
invariant-loop-n l =
    (l.end + (length l.numbers - l.n-index) * 21 ≤ length l.out)
    × Left l.initial.out l.at (spaced l.numbers) l.end l.out (spaced (drop l.n-index l.numbers))
