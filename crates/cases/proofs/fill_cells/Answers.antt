-- What is counted in bytes is at most n cells of them.
use Rattle.std.proofs.Common.{arith, rules, ◌+◌, ◌*◌, ◌<◌}
use Rattle.std.proofs.lemmas.Nat.{div_below}
use Rattle.cases.proofs.fill_cells.Goals as goal

pub returns : goal.returns
returns g c =
    let size = c.SIZE-size.result in
    let some : 0 < size = omega (arith, c.SIZE-size.ensures, g.met.T.Cell.sized) in
    let few = div_below c.fill.result size (c.args.n + 1) some (grind (arith, c.fill.ensures.1)) in
    search (rules, few)
