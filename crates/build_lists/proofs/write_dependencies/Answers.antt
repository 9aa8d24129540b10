use Rattle.build_ranges.proofs.Appending.{room, turn, ended, done}
use Rattle.build_lists.proofs.Laws.{dependencies_more, dependencies-none}
use borrow.Author.Rules.{rules}
use Rattle.build_lists.proofs.write_dependencies.Goals as goal

pub put_dependency-end-requires : goal.put_dependency-end-requires
put_dependency-end-requires c = (search rules, room c.loop-s.invariant (dependencies_more _ _ _ c.loop-s-test.true) c.requires.count_in_bounds)

pub loop-s-preserved : goal.loop-s-preserved
loop-s-preserved c = turn c.loop-s.invariant (dependencies_more _ _ _ c.loop-s-test.true) c.put_dependency-end.ensures.value c.put_dependency-end.ensures.out_after

pub returns : goal.returns
returns c = let e = dependencies-none _ _ _ c.loop-s-test.false in record { value = ended c.loop-s.invariant e; out_after = done c.loop-s.invariant e }
