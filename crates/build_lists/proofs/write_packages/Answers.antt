use native.Mathlib.Omega.{arith}
use native.Mathlib.Nat.{sub-zero}
use mathlib.Core.Path.{refl, sym}
use mathlib.Core.List.{[]}
use Rattle.build_ranges.proofs.Appending.{starts, room, turn, done}
use Rattle.ray_tracing.proofs.Inside.{slots-none, slots_more}
use Rattle.ray_tracing.specs.Parts.{of_packages}
use Rattle.build_lists.proofs.Laws.{packages_more, packages-none}
use borrow.Author.Rules.{rules}
use Rattle.build_lists.proofs.write_packages.Goals as goal

pub loop-p-init : goal.loop-p-init
loop-p-init c = (sym (slots-none (of_packages [] c.args.packages.now c.args.slots.now)), starts _ _ _ (rw sub-zero))

pub put_package-end-requires : goal.put_package-end-requires
put_package-end-requires c = record { p_bound = (search rules, omega (arith, c.requires.drawn.drawn c.loop-p.p c.loop-p-test.true), c.requires.drawn.most); s_in_bounds = room c.loop-p.invariant.1 (packages_more _ _ _ _ c.loop-p-test.true refl) c.requires.slots_in_bounds }

pub loop-p-preserved : goal.loop-p-preserved
loop-p-preserved c = (omega (arith, c.slot_count-s.ensures, c.requires.drawn.drawn c.loop-p.p c.loop-p-test.true, slots_more (of_packages [] c.args.packages.now c.args.slots.now) c.loop-p.p), turn c.loop-p.invariant.1 (packages_more _ _ _ _ c.loop-p-test.true c.slot_count-s.ensures) c.put_package-end.ensures.value c.put_package-end.ensures.out_after)

pub returns : goal.returns
returns c = done c.loop-p.invariant.1 (packages-none _ _ _ _ c.loop-p-test.false)
