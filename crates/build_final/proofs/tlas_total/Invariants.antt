-- `build_final::tlas_total` meets its contract: the total of the first p packages, and 37 of those left is 37 of all.
use Rattle.std.proofs.Common.{◌≡◌, ◌-◌}
use Rattle.ray_tracing.specs.Plan.{first_of, total_from, tlas_scratch, reached_at, lent_tables}
use Rattle.build_final.proofs.tlas_total.Given as goal

abbrev pub invariant-loop-p : goal.invariant-loop-p
invariant-loop-p l =
    let x = lent_tables l.tables in record {
      total : l.total ≡ total_from (tlas_scratch x) x.alignment 0 0 l.p;
      left : first_of (reached_at (tlas_scratch x) x.alignment 2) l.p (l.n - l.p) ≡ first_of (reached_at (tlas_scratch x) x.alignment 2) 0 l.n;
    }
