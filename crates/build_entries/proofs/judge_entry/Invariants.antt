-- `build_entries::judge_entry` meets its contract: what is left from the j-th geometry on is the whole, and the j-th declared geometry of the Blas is at hand.
use Rattle.std.proofs.Common.{◌≡◌, ℕ, ◌+◌, ◌-◌}
use Rattle.ray_tracing.specs.Plan.{first_of, lent_tables, entry_of, checked_at, checked_e}
use Rattle.build_entries.specs.Index.{nth_of}
use Rattle.build_entries.proofs.judge_entry.Given as goal

abbrev pub invariant-loop-j : goal.invariant-loop-j
invariant-loop-j l =
    let x = lent_tables l.tables in
    let f = λ (j : ℕ). checked_e l.i j (checked_at x l.i j (l.g + j)) in record {
      at_hand : l.at ≡ nth_of l.tables.declared.now (entry_of x l.i).blas.0 l.j;
      left : first_of f l.j (l.entry.geometry_count - l.j) ≡ first_of f 0 l.entry.geometry_count;
    }
