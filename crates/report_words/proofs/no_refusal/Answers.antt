-- `report_words::no_refusal` meets its contract.
use Rattle.std.proofs.Common.{◌≡◌, arith}
use Rattle.ray_tracing.specs.Explain.{nothing}
use Rattle.report_words.specs.Refused.{told_of}
use Rattle.report_words.proofs.Refused.{tells_nothing}
use Rattle.report_words.proofs.no_refusal.Goals as goal

pub returns : goal.returns
returns c =
    let none : c.default.result ≡ told_of nothing = grind arith in
    rw none tells_nothing
