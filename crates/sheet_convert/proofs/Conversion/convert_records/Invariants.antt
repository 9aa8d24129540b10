-- The geometries that are left, written from here, make the whole.
use Rattle.std.proofs.Common.{◌≡◌, ◌+◌, ◌-◌, ◌*◌, ◌≤◌, length, drop}
use lib.Seq.{sets}
use Rattle.ray_tracing.specs.Layout.{size_in}
use Rattle.ray_tracing.specs.Reading.{fine}
use Rattle.ray_tracing.specs.Conversion.{converted_records, judge_offsets}
use Rattle.sheet_convert.proofs.Conversion.convert_records.Given as goal

abbrev pub invariant-loop : goal.invariant-loop
invariant-loop l =
    ((l.p + (l.self.count - l.counter) * size_in l.self.from 6 ≤ length l.self.sheet.now)
    × (l.q + (l.self.count - l.counter) * size_in l.self.to 6 ≤ length l.out))
    × ((judge_offsets l.self.from l.self.to l.self.sheet.now l.p (l.self.count - l.counter) ≡ fine)
    × (sets l.out l.q (converted_records l.self.from l.self.to (drop l.p l.self.sheet.now) (l.self.count - l.counter))
    ≡ sets l.initial.out l.self.start (converted_records l.self.from l.self.to (drop l.self.start l.self.sheet.now) l.self.count)))
