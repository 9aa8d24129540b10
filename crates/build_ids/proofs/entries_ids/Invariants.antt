-- `build_ids::entries_ids` meets its contract: what is left from entry i on, whose geometries stand from g on,
-- is the whole; what is drawn before it adds up.
use Rattle.std.proofs.Common.{◌≡◌, ◌-◌}
use Rattle.ray_tracing.specs.Plan.{first_drawing, geometry_count, entry_ids, lent_tables}
use Rattle.ray_tracing.proofs.Inside.{drawn_before}
use Rattle.build_ids.proofs.entries_ids.Given as goal

abbrev pub invariant-loop-i : goal.invariant-loop-i
invariant-loop-i l =
    let x = lent_tables l.tables in record {
      drawn : l.g ≡ drawn_before x l.i;
      left :
          first_drawing (entry_ids x) (geometry_count x) l.i l.g (l.n - l.i) ≡ first_drawing (entry_ids x) (geometry_count x) 0 0 l.n;
    }
