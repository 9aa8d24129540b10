-- `submit_start::table_error` meets its contract: each return is the definition's own case. Assumes nothing.
use mathlib.Core.Path.{◌≡◌, refl}
use Prim.Native.Nat.{◌≤◌}
use native.Mathlib.Omega.{arith}
use Rattle.ray_tracing.specs.declared.SheetError.{SheetError}
use Rattle.ray_tracing.specs.declared.SheetError.TheVariants as sheet
use Rattle.ray_tracing.specs.Causes.{bare, sheet_number}
use Rattle.submit_start.proofs.table_error.Goals as goal

others : (e : SheetError) → ¬ (e ≡ sheet.TooMany) → 4 ≤ sheet_number e → bare 5 ≡ bare (sheet_number e)
others sheet.TooMany k h = absurd (k refl)
others sheet.InvalidValue k h = refl
others sheet.UnknownVersion k h = absurd (omega arith)
others sheet.Truncated k h = absurd (omega arith)
others sheet.TrailingBytes k h = absurd (omega arith)

pub returns-in-TooMany : goal.returns-in-TooMany
returns-in-TooMany c = rw c.in-TooMany.is

pub returns-in_default : goal.returns-in_default
returns-in_default c = others c.args.e c.in_default.not-TooMany c.requires
