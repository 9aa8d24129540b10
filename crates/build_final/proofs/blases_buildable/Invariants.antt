-- `build_final::blases_buildable` meets its contract: what is left from entry i on is the whole.
use Rattle.std.proofs.Common.{◌≡◌, ◌-◌}
use Rattle.ray_tracing.specs.Plan.{first_of, blas_buildable, lent_tables}
use Rattle.build_final.proofs.blases_buildable.Given as goal

abbrev pub invariant-loop-i : goal.invariant-loop-i
invariant-loop-i l =
    let x = lent_tables l.tables in
    first_of (blas_buildable x) l.i (l.n - l.i) ≡ first_of (blas_buildable x) 0 l.n
