use native.Mathlib.Omega.{arith}
use native.Mathlib.Nat.{sub-zero, zero-add}
use mathlib.Core.Path.{sym, ap}
use mathlib.Core.List.{[]}
use Prim.Native.Nat.{ℕ, ◌+◌}
use lib.ListN.{length}
use Rattle.build_ranges.proofs.Appending.{counted}
use Rattle.ray_tracing.proofs.Inside.{drawn-none}
use Rattle.ray_tracing.specs.Parts.{of_entries}
use Rattle.build_ranges.proofs.Ranges.{all_more, all_none, entry_next}
use borrow.Author.Rules.{rules}
use Rattle.build_ranges.proofs.count_ranges.Goals as goal

pub loop-i-init : goal.loop-i-init
loop-i-init c = (sym (drawn-none (of_entries [] c.args.entries.now)), search rules, rw sub-zero (zero-add _))

pub loop-i-preserved : goal.loop-i-preserved
loop-i-preserved c = (entry_next _ _ c.entry_at-entry.ensures c.from-count.ensures c.loop-i.invariant.0, omega (arith, c.count_entry_ranges-n.ensures.1), counted c.loop-i.n (all_more _ _ c.args.geometries.now _ _ _ c.loop-i-test.true c.entry_at-entry.ensures c.from-count.ensures) c.loop-i.invariant.2 (ap (λ (k : ℕ). c.loop-i.n + k) c.count_entry_ranges-n.ensures.0))

pub returns : goal.returns
returns c = omega (arith, c.loop-i.invariant.2, ap length (all_none c.args.version c.args.entries.now c.args.geometries.now c.loop-i.i c.loop-i.g _ c.loop-i-test.false))
