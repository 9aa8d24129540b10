-- `sheet_fields::whole_fits` meets its contract: a whole record that fits is judged fine.
use native.Mathlib.Omega.{arith}
use mathlib.Core.Path.{sym, ◌∙◌}
use Rattle.sheet_fits.proofs.Laws.{fits-fine}
use Rattle.sheet_fields.proofs.whole_fits.Goals as goal

pub returns-then-size-s : goal.returns-then-size-s
returns-then-size-s c fits =
    let a = c.args in
    fits-fine a.version a.section _ a.s.now a.at (rw (← c.requires.1) (omega arith)) (sym c.record_fits.ensures ∙ fits)
