-- `groups_open::item_size` meets its contract. Assumes nothing.
use mathlib.Core.Path.{sym, ◌∙◌}
use Rattle.groups_judge.proofs.Laws.{size-slot, size-named}
use Rattle.groups_open.proofs.item_size.Goals as goal

pub returns-then-u8_at-eq1 : goal.returns-then-u8_at-eq1
returns-then-u8_at-eq1 c = sym (size-slot _ _ (sym c.u8_at.ensures ∙ c.if-u8_at-eq1.true))

pub returns : goal.returns
returns c = sym (size-named _ _ (λ e. c.if-u8_at-eq1.false (c.u8_at.ensures ∙ e)))
