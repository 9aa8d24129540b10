-- `sheet_write::write_table` meets its contract: the section picks the function; where all fields are used the table is canonical.
use native.Mathlib.Omega.{arith}
use mathlib.Core.Path.{◌≡◌}
use mathlib.Core.Bool.{false}
use borrow.Author.Tests.{ne_eqb}
use Rattle.ray_tracing.proofs.TableMeaning.{may_be_unused, used-table}
use Rattle.sheet_write.proofs.write_table.Goals.{in_default-via-then-section-lt8, in_default-via-else-section-lt8+else-section-lt10}
use Rattle.sheet_write.proofs.write_table.Goals as goal

pub returns-in_default : goal.returns-in_default
returns-in_default c =
    let k = c.args.section.now.number in
    let u : may_be_unused k ≡ false =
    elim c.in_default.branch [
      | in_default-via-then-section-lt8 w ↦ rw (ne_eqb k 3 (λ e. omega arith), ne_eqb k 6 (λ e. omega arith), ne_eqb k 8 (λ e. omega arith), ne_eqb k 9 (λ e. omega arith))
      | in_default-via-else-section-lt8+else-section-lt10 w ↦ absurd (omega arith)
    ] in
    rw (used-table c.args.section.now.version k c.requires.0.0 u _ _ c.requires.1.1) c.put_bytes.ensures
