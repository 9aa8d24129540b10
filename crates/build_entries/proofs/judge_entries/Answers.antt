use Rattle.std.proofs.Common.{arith, sym}
use Rattle.ray_tracing.proofs.Verdicts.{onward-drawing}
use Rattle.build_entries.proofs.Within.{drawing}
use Rattle.build_entries.proofs.judge_entries.Goals as goal

pub loop-i-preserved : goal.loop-i-preserved
loop-i-preserved c =
    let left = onward-drawing _ _ _ _ _ _ c.loop-i.invariant.left c.loop-i-test.true (sym c.in_ok-judge_entry.ensures) in
    record { drawn = grind (arith, drawing); left = rw c.geometry_count-g.ensures left }
