-- The sections that are left, written from here, make the whole.
use Rattle.std.proofs.Common.{◌≡◌, ◌-◌}
use lib.Seq.{sets}
use Rattle.ray_tracing.specs.Reading.{version_in, past, from}
use Rattle.ray_tracing.specs.Canonical.{section_bytes, canonical_tables}
use Rattle.sheet_write.proofs.write_accepted.Given as goal

abbrev pub invariant-loop-k : goal.invariant-loop-k
invariant-loop-k l =
    ((l.b ≡ from l.sheet l.k) × (l.p ≡ past l.sheet l.k))
    × (sets l.out (past l.sheet l.k) (section_bytes (version_in l.sheet) (canonical_tables l.sheet) l.k (9 - l.k))
    ≡ sets l.initial.out (past l.sheet 0) (section_bytes (version_in l.sheet) (canonical_tables l.sheet) 0 9))
