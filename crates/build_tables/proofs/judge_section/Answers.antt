-- `build_tables::judge_section` meets its contract: a lent table is refused with 4 or 5 only.
use mathlib.Core.Path.{sym, subst}
use Rattle.ray_tracing.proofs.Lent.{Only, lent_only, only_above}
use Rattle.build_tables.proofs.judge_section.Goals as goal

pub table_error-requires : goal.table_error-requires
table_error-requires c = only_above (subst Only (sym c.in-Err.ensures) (lent_only _ _ _ _ _))
