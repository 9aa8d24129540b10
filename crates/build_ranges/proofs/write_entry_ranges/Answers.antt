use Rattle.build_ranges.proofs.Appending.{room, turn, ended, done}
use Rattle.build_ranges.proofs.Ranges.{entry_more, entry-none}
use borrow.Author.Rules.{rules}
use Rattle.build_ranges.proofs.write_entry_ranges.Goals as goal

pub put_geometry-end-requires : goal.put_geometry-end-requires
put_geometry-end-requires c = (rw c.geometry_of-geometry.ensures (c.requires.count_bound.1 c.loop-g.g (search rules) c.loop-g-test.true), room c.loop-g.invariant (entry_more _ _ _ _ _ c.loop-g-test.true c.geometry_of-geometry.ensures) c.requires.count_in_bounds)

pub loop-g-preserved : goal.loop-g-preserved
loop-g-preserved c = turn c.loop-g.invariant (entry_more _ _ _ _ _ c.loop-g-test.true c.geometry_of-geometry.ensures) c.put_geometry-end.ensures.value c.put_geometry-end.ensures.out_after

pub returns : goal.returns
returns c = let e = entry-none _ _ _ _ _ c.loop-g-test.false in record { value = ended c.loop-g.invariant e; out_after = done c.loop-g.invariant e }
