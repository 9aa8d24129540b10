-- `scratch::align_by_division` meets its contract, by the two cases of a rounding.
use Rattle.std.proofs.Common.{arith}
use Rattle.scratch.proofs.Laws.{round_none, round_more, reported_sum}
use Rattle.scratch.proofs.align_by_division.Goals as goal

pub returns-then-over-eq0 : goal.returns-then-over-eq0
returns-then-over-eq0 c = grind (arith, round_none)

pub returns : goal.returns
returns c = grind (arith, round_more, reported_sum)
