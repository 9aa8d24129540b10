-- `submit_start::judge_table` meets its contract: each return is the definition's own case. Assumes nothing.
use Prim.Native.Nat.{ℕ, ◌-◌, ◌<◌}
use native.Mathlib.Omega.{arith}
use mathlib.Core.Path.{◌≡◌, ◌∙◌}
use mathlib.Core.List.{List, []}
use borrow.Author.Tests.{ne_eqb}
use Rattle.std.specs.Prelude.{Result}
use Rattle.ray_tracing.specs.declared.SheetRefusal.{SheetRefusal}
use Rattle.ray_tracing.specs.declared.Version.TheVariants as version
use Rattle.ray_tracing.specs.Layout.{layout, size, layout_in, size_in}
use Rattle.ray_tracing.specs.Reading.{judge_lent}
use Rattle.ray_tracing.specs.Code.{judged_of}
use Rattle.ray_tracing.proofs.Lent.{lent_only}
use Rattle.ray_tracing.proofs.Versions.{layout_same, size_same}
use Rattle.submit_start.proofs.Start.{table-fine, table-number, table-refused}
use Rattle.submit_start.proofs.judge_table.Goals as goal

-- what the table is judged by, without a version
judged :
    (k : ℕ) (t : List ℕ) (x : Result Unit SheetRefusal) → 0 < k → k < 6
    → judged_of x ≡ judge_lent k (layout_in version.One k) (size_in version.One (k - 1)) [] t
    → judged_of x ≡ judge_lent k (layout k) (size (k - 1)) [] t
judged k t x lo hi e =
    e
    ∙ (λ i. judge_lent k (layout_same version.One k (ne_eqb k 6 (omega arith)) i) (size_same version.One (k - 1) (ne_eqb (k - 1) 6 (omega arith)) i) [] t)

pub table_error-requires : goal.table_error-requires
table_error-requires c = table-number (judged c.args.section c.args.table.now c.judge_lent.result c.requires.0 c.requires.1 c.judge_lent.ensures) c.in-Err.is (lent_only _ _ _ _ _)

pub returns-in-Ok : goal.returns-in-Ok
returns-in-Ok c = table-fine (judged c.args.section c.args.table.now c.judge_lent.result c.requires.0 c.requires.1 c.judge_lent.ensures) c.in-Ok.is

pub returns-in-Err : goal.returns-in-Err
returns-in-Err c = table-refused (judged c.args.section c.args.table.now c.judge_lent.result c.requires.0 c.requires.1 c.judge_lent.ensures) c.in-Err.is c.table_error.ensures
