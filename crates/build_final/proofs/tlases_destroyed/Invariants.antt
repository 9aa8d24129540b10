-- `build_final::tlases_destroyed` meets its contract: what is left from package p on is the whole.
use Rattle.std.proofs.Common.{◌≡◌, ◌-◌}
use Rattle.ray_tracing.specs.Plan.{first_of, tlas_destroyed, lent_tables}
use Rattle.build_final.proofs.tlases_destroyed.Given as goal

abbrev pub invariant-loop-p : goal.invariant-loop-p
invariant-loop-p l =
    let x = lent_tables l.tables in
    first_of (tlas_destroyed x) l.p (l.n - l.p) ≡ first_of (tlas_destroyed x) 0 l.n
