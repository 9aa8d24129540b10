-- What is hashed goes on by one number, and ends with the list.
use Rattle.std.proofs.Common.{arith, ap, ◌∙◌}
use Rattle.cases.specs.Hash.{hash_step}
use Rattle.cases.proofs.Laws.{goes_on, ends}
use Rattle.cases.proofs.hash.Goals as goal

pub loop-x-preserved : goal.loop-x-preserved
loop-x-preserved g c =
    let told = c.hash_step-h.ensures.0 ∙ ap (hash_step c.loop-x.h) (c.value.ensures ∙ ap g.T.Cell.value c.x-item.is) in (
      c.hash_step-h.ensures.1,
      goes_on g.T.Cell.value c.args.s.now c.loop-x.h c.loop-x.x-index c.loop-x.invariant.1 c.x-item.result _ c.loop-x-test.true told,
    )

pub returns : goal.returns
returns g c = ends g.T.Cell.value c.args.s.now c.loop-x.h c.loop-x.x-index c.loop-x.invariant.1 (omega arith)
