-- `build_packages::judge_slots` meets its contract: what is left from the j-th slot on is the whole.
use Rattle.std.proofs.Common.{◌≡◌, ℕ, ◌+◌, ◌-◌, ◌*◌}
use Rattle.ray_tracing.specs.Instances.{slot_rule}
use Rattle.ray_tracing.specs.Layout.{size}
use Rattle.ray_tracing.specs.Plan.{at_e, first_of}
use Rattle.build_packages.proofs.judge_slots.Given as goal

abbrev pub invariant-loop-j : goal.invariant-loop-j
invariant-loop-j l =
    let f = λ (j : ℕ). at_e l.p j (slot_rule l.tlas l.blases l.slots ((l.s + j) * size 8)) in
    first_of f l.j (l.count - l.j) ≡ first_of f 0 l.count
