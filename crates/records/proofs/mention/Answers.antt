-- `records::mention` meets its contract: the test decides.
use Rattle.ray_tracing.proofs.Guard.{guards}
use Rattle.records.proofs.mention.Goals as goal

pub returns-then-table-size : goal.returns-then-table-size
returns-then-table-size c = search guards depth 16

pub returns : goal.returns
returns c = search guards depth 16
