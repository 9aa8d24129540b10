-- `build_lists::write_dependencies` meets its contract. The invariant: what is left, written from here on, is the whole.
use Prim.Native.Nat.{◌+◌, ◌-◌}
use Rattle.build_ranges.proofs.Appending.{Left}
use Rattle.ray_tracing.specs.Plan.{dependencies_from}
use Rattle.build_lists.proofs.write_dependencies.Given as goal

abbrev pub invariant-loop-s : goal.invariant-loop-s
invariant-loop-s l = Left l.out l.end (dependencies_from l.slots l.s (l.first + l.count - l.s)) l.initial.out l.at (dependencies_from l.slots l.first l.count)
