-- `wire::u64_at` meets its contract: what the library reads of 8 bytes is `le_at` at width 8.
use Rattle.std.proofs.Common.{arith, ◌∙◌}
use Rattle.std.proofs.lemmas.Result.{MatchResult-at_ok}
use Rattle.wire.proofs.Laws.{le_part, le_read_8}
use Rattle.wire.proofs.u64_at.Goals as goal

pub returns : goal.returns
returns c =
    let part = c.unwrap.result in
    let same = (MatchResult-at_ok _ _ part c.unwrap.ensures c.try_into.ensures.1).same in
    c.from_le_bytes.ensures ∙ le_read_8 part ∙ le_part 8 _ c.args.s.now part c.args.at same (omega arith)
