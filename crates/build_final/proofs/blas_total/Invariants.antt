-- `build_final::blas_total` meets its contract: the total of the first i entries, and 37 of those left is 37 of all.
use Rattle.std.proofs.Common.{◌≡◌, ◌-◌}
use Rattle.ray_tracing.specs.Plan.{first_of, total_from, blas_scratch, reached_at, lent_tables}
use Rattle.build_final.proofs.blas_total.Given as goal

abbrev pub invariant-loop-i : goal.invariant-loop-i
invariant-loop-i l =
    let x = lent_tables l.tables in record {
      total : l.total ≡ total_from (blas_scratch x) x.alignment 0 0 l.i;
      left : first_of (reached_at (blas_scratch x) x.alignment 1) l.i (l.n - l.i) ≡ first_of (reached_at (blas_scratch x) x.alignment 1) 0 l.n;
    }
