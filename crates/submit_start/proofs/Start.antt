-- A table of the start, judged as in a build: what is refused, and how many records it has where nothing is.
use Prim.Native.Nat.{ℕ, ◌/◌, ◌≤◌}
use native.Mathlib.Omega.{arith}
use mathlib.Core.Option.{none, some}
use mathlib.Core.Path.{◌≡◌, refl, sym, ap, subst, ◌∙◌}
use mathlib.Core.List.{List}
use lib.ListN.{length}
use Rattle.std.specs.Prelude.{Result, Ok, Err}
use Rattle.ray_tracing.specs.declared.SheetRefusal.{SheetRefusal}
use Rattle.ray_tracing.specs.Layout.{Layout, total}
use Rattle.ray_tracing.specs.Reading.{Judged, fine, refused, judge_lent}
use Rattle.ray_tracing.specs.Causes.{Cause, bare, sheet_number}
use Rattle.ray_tracing.specs.Code.{judged_of}
use Rattle.ray_tracing.specs.Submission.{table_cause}
use Rattle.ray_tracing.proofs.Lent.{Only, only_above}
use Rattle.submit_checks.proofs.Start.{few_records}

table_none : (j : Judged) → table_cause j ≡ none → j ≡ fine
table_none fine e = refl
table_none (refused n p) e =
    let z : ◌≡◌ {A = ℕ} 0 1 = cc in
    absurd (omega arith)

pub few_of_table : (k : ℕ) (l : Layout) (w : ℕ) (t s : List ℕ) → table_cause (judge_lent k l w t s) ≡ none → length s / total l.fields ≤ l.most
few_of_table k l w t s e = few_records k l w t s (table_none (judge_lent k l w t s) e)

module _ {x : Result Unit SheetRefusal} {j : Judged} (p : judged_of x ≡ j) where
  pub table-fine : {u : Unit} → x ≡ Ok u → none ≡ table_cause j
  table-fine q = ap table_cause (sym (ap judged_of q) ∙ p)

  module _ {r : SheetRefusal} (q : x ≡ Err r) where
    pub table-number : Only j → 4 ≤ sheet_number r.error
    table-number h = only_above (subst Only (sym p ∙ ap judged_of q) h)

    pub table-refused : {c : Cause} → c ≡ bare (sheet_number r.error) → some c ≡ table_cause j
    table-refused h = rw (h, sym p ∙ ap judged_of q)
