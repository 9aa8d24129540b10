-- `build_lists::write_packages` meets its contract. The invariant: what is left, written from here on, is the whole; s counts the slots that the packages before drew.
use mathlib.Core.Path.{◌≡◌}
use mathlib.Core.List.{[]}
use Prim.Native.Nat.{◌-◌}
use Rattle.build_ranges.proofs.Appending.{Left}
use Rattle.ray_tracing.specs.Plan.{package_lists}
use Rattle.ray_tracing.proofs.Inside.{slots_before}
use Rattle.ray_tracing.specs.Parts.{packages_in, of_packages}
use Rattle.build_lists.proofs.write_packages.Given as goal

abbrev pub invariant-loop-p : goal.invariant-loop-p
invariant-loop-p l = (l.s ≡ slots_before (of_packages [] l.packages l.slots) l.p)
    × Left l.out l.end (package_lists (of_packages [] l.packages l.slots) l.p l.s (packages_in l.packages - l.p)) l.initial.out l.at (package_lists (of_packages [] l.packages l.slots) 0 0 (packages_in l.packages))
