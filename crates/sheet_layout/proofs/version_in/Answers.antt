-- `sheet_layout::version_in` meets its contract: 2 is the one byte that says version 2.
use borrow.Author.Tests.{eq-eqb, ne_eqb}
use Rattle.ray_tracing.specs.Reading.{version_in}
use Rattle.sheet_layout.proofs.version_in.Goals as goal

pub returns-then-u8_at-eq2 : goal.returns-then-u8_at-eq2
unfolding version_in
returns-then-u8_at-eq2 c = rw (← c.u8_at.ensures, eq-eqb _ 2 c.if-u8_at-eq2.true)

pub returns-else-u8_at-eq2 : goal.returns-else-u8_at-eq2
unfolding version_in
returns-else-u8_at-eq2 c = rw (← c.u8_at.ensures, ne_eqb _ 2 c.if-u8_at-eq2.false)
