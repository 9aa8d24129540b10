-- What the code's figures say. Assumes nothing.
use Rattle.ray_tracing.specs.Causes.{Cause, cause}
use Rattle.causes.specs.declared.Figures.{Figures}

abbrev pub cause_of : Figures → Cause
cause_of f = cause f.number f.first f.second f.third

-- a cause by its number and figures alone
abbrev pub plainly : Cause → Cause
plainly c = cause c.number c.first c.second c.third
