-- `report_words::action_refusal` meets its contract: each cause is one that a submission gives.
use mathlib.Core.Path.{ap, ◌∙◌}
use Rattle.report_words.specs.Refused.{refused_by}
use Rattle.report_words.proofs.Refused.{action-told}
use Rattle.report_words.proofs.action_refusal.Goals as goal

pub returns : goal.returns
returns c = let a = c.args in
    let refused = rw c.from.ensures at c.refused_by.ensures in
    rw (refused ∙ ap (refused_by 3 a.i a.kind) c.submission_figures.ensures) (action-told a.error a.i a.kind)
