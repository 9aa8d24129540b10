-- `build_plan::write_staging_ranges` meets its contract. The invariant: what is left, written from here on, is the whole; no package's bytes begin past 64 for each slot before it.
use Rattle.std.proofs.Common.{◌≡◌, [], ◌-◌, ◌*◌, ◌≤◌}
use Rattle.build_ranges.proofs.Appending.{Left}
use Rattle.ray_tracing.specs.Plan.{staging_from}
use Rattle.ray_tracing.proofs.Inside.{slots_before}
use Rattle.ray_tracing.specs.Parts.{packages_in, of_packages}
use Rattle.build_plan.proofs.write_staging_ranges.Given as goal

abbrev pub invariant-loop-p : goal.invariant-loop-p
invariant-loop-p l =
    let x = of_packages [] l.packages l.slots in
    let n = packages_in l.packages in record {
      drawn : l.s ≡ slots_before x l.p;
      most : l.start ≤ 64 * l.s;
      left : Left l.out (2 * l.p) (staging_from x l.start l.p l.s (n - l.p)) l.initial.out 0 (staging_from x 0 0 0 n);
    }
