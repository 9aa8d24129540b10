-- `groups::open_groups` meets its contract: what judging refuses is refused, and what it finds fine is opened.
use Rattle.std.proofs.Common.{sym, ap, ◌∙◌}
use Rattle.std.proofs.lemmas.Result.{err_from_is_err_and}
use Rattle.groups_judge.specs.Found.{finding_of}
use Rattle.groups.proofs.Calls.{refused_so}
use Rattle.groups.proofs.open_groups.Goals as goal

pub returns-in_err-judge_groups : goal.returns-in_err-judge_groups
returns-in_err-judge_groups c =
    let p = err_from_is_err_and c.from_residual.result c.from_residual.ensures.1 in
    rw (p.1, p.2) (refused_so _ _ _ (sym (ap finding_of c.in_err-judge_groups.was) ∙ c.judge_groups.ensures.judged))
