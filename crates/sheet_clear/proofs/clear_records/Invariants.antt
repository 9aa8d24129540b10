-- The records that are left, cleared, are what all were to be.
use Rattle.std.proofs.Common.{◌≡◌, ◌+◌, ◌-◌, ◌*◌, ◌≤◌, length}
use lib.Seq.{sets}
use Rattle.ray_tracing.specs.Layout.{size_in}
use Rattle.ray_tracing.specs.Reading.{begin}
use Rattle.sheet_clear.specs.Cleared.{BlasesInside}
use Rattle.sheet_clear.proofs.Records.{records_cleared}
use Rattle.sheet_clear.proofs.clear_records.Given as goal

abbrev pub invariant-loop : goal.invariant-loop
invariant-loop l =
    (l.p + (l.n - l.counter) * size_in l.section.version l.section.number ≤ length l.out)
    × (BlasesInside l.section.number l.section.before.now l.out l.p (l.n - l.counter)
    × (sets l.out l.p (records_cleared l.section.version l.section.number (begin (size_in l.section.version (l.section.number - 1)) l.section.before.now l.boxes) l.out l.p (l.n - l.counter))
    ≡ sets l.initial.out l.at (records_cleared l.section.version l.section.number (begin (size_in l.section.version (l.section.number - 1)) l.section.before.now l.boxes) l.initial.out l.at l.n)))
