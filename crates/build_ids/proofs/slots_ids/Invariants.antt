-- `build_ids::slots_ids` meets its contract: what is left from the j-th slot on is the whole.
use Rattle.std.proofs.Common.{◌≡◌, ℕ, ◌+◌, ◌-◌}
use Rattle.ray_tracing.specs.Plan.{first_of, slot_ids, lent_tables}
use Rattle.build_ids.proofs.slots_ids.Given as goal

abbrev pub invariant-loop-j : goal.invariant-loop-j
invariant-loop-j l =
    let f = λ (j : ℕ). slot_ids (lent_tables l.tables) l.p j (l.s + j) in
    first_of f l.j (l.count - l.j) ≡ first_of f 0 l.count
