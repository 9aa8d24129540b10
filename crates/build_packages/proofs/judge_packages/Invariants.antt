-- `build_packages::judge_packages` meets its contract: what is left from package p on, whose slots stand from s on, is the whole.
use Rattle.std.proofs.Common.{◌≡◌, ◌-◌}
use Rattle.ray_tracing.specs.Plan.{first_drawing, slot_count, judge_package, lent_tables}
use Rattle.ray_tracing.proofs.Inside.{slots_before}
use Rattle.build_packages.proofs.judge_packages.Given as goal

abbrev pub invariant-loop-p : goal.invariant-loop-p
invariant-loop-p l =
    let x = lent_tables l.tables in record {
      drawn : l.s ≡ slots_before x l.p;
      left :
          first_drawing (judge_package x) (slot_count x) l.p l.s (l.n - l.p) ≡ first_drawing (judge_package x) (slot_count x) 0 0 l.n;
    }
