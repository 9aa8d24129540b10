-- `build_ids::geometries_ids` meets its contract: what is left from the j-th geometry on is the whole.
use Rattle.std.proofs.Common.{◌≡◌, ℕ, ◌+◌, ◌-◌}
use Rattle.ray_tracing.specs.Plan.{first_of, geometry_ids, lent_tables}
use Rattle.build_ids.proofs.geometries_ids.Given as goal

abbrev pub invariant-loop-j : goal.invariant-loop-j
invariant-loop-j l =
    let f = λ (j : ℕ). geometry_ids (lent_tables l.tables) l.i j (l.g + j) in
    first_of f l.j (l.count - l.j) ≡ first_of f 0 l.count
