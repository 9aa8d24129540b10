use native.Mathlib.Omega.{arith}
use mathlib.Core.Path.{ap}
use Prim.Native.Nat.{ℕ, ◌+◌}
use lib.ListN.{length}
use Rattle.build_ranges.proofs.Appending.{counted}
use Rattle.build_ranges.proofs.Ranges.{entry_more, entry-none}
use Rattle.build_ranges.proofs.count_entry_ranges.Goals as goal

pub loop-g-preserved : goal.loop-g-preserved
loop-g-preserved c = record {
  within = omega arith;
  counted = counted c.loop-g.n (entry_more _ c.args.geometries.now c.args.kind c.loop-g.g (c.args.first + c.args.count) c.loop-g-test.true c.geometry_of-geometry.ensures) c.loop-g.invariant.counted (ap (λ (k : ℕ). c.loop-g.n + k) c.geometry_cells-n.ensures.0);
}

pub returns : goal.returns
returns c = (omega (arith, c.loop-g.invariant.counted, ap length (entry-none c.args.version c.args.geometries.now c.args.kind _ _ c.loop-g-test.false)), omega arith)
