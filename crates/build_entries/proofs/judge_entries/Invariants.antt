-- `build_entries::judge_entries` meets its contract: what is left from entry i on, whose geometries stand from g on, is the whole.
use Rattle.std.proofs.Common.{◌≡◌, ◌-◌}
use Rattle.ray_tracing.specs.Plan.{first_drawing, lent_tables, geometry_count, judge_entry}
use Rattle.ray_tracing.proofs.Inside.{drawn_before}
use Rattle.build_entries.proofs.judge_entries.Given as goal

abbrev pub invariant-loop-i : goal.invariant-loop-i
invariant-loop-i l =
    let x = lent_tables l.tables in record {
      drawn : l.g ≡ drawn_before x l.i;
      left :
          first_drawing (judge_entry x) (geometry_count x) l.i l.g (l.i-end - l.i) ≡ first_drawing (judge_entry x) (geometry_count x) 0 0 l.i-end;
    }
