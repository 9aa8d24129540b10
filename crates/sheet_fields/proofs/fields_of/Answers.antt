-- `sheet_fields::fields_of` meets its contract: each table is the section's layout.
use Rattle.sheet_fields.proofs.fields_of.Goals as goal

pub returns-in-3 : goal.returns-in-3
returns-in-3 c v = rw c.in-3.is

pub returns-in-6 : goal.returns-in-6
returns-in-6 c v = rw c.in-6.is

pub returns-in-8 : goal.returns-in-8
returns-in-8 c v = rw c.in-8.is
