-- `Refusal::from` of a `BuildRefusal` meets its contract: each cause is one that a build gives.
use mathlib.Core.Path.{ap, ◌∙◌}
use Rattle.report_words.specs.Refused.{refused_by}
use Rattle.report_words.proofs.Refused.{build-told}
use Rattle.report_words.proofs.RefusalFromBuildRefusal.from.Goals as goal

pub returns : goal.returns
returns c =
    let r = c.args.r in
    rw (c.refused_by.ensures ∙ ap (refused_by 2 r.e0 r.e1) c.build_figures.ensures) (build-told r.error r.e0 r.e1)
