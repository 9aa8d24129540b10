-- What is left is judged as the whole.
use Rattle.std.proofs.Common.{◌≡◌, ◌+◌, ◌-◌, ◌*◌, ◌≤◌, length}
use Rattle.ray_tracing.specs.Layout.{size_in}
use Rattle.ray_tracing.specs.Conversion.{judge_offsets}
use Rattle.sheet_convert.proofs.Conversion.judge_offsets.Given as goal

abbrev pub invariant-loop : goal.invariant-loop
invariant-loop l =
    (l.p + (l.self.count - l.counter) * size_in l.self.from 6 ≤ length l.self.sheet.now)
    × (judge_offsets l.self.from l.self.to l.self.sheet.now l.p (l.self.count - l.counter)
    ≡ judge_offsets l.self.from l.self.to l.self.sheet.now l.self.start l.self.count)
