-- `Known` after each section.
use Rattle.sheet.proofs.Sections.{Known}
use Rattle.sheet.proofs.read_sheet.Given as goal

abbrev pub invariant-loop-k : goal.invariant-loop-k
invariant-loop-k l = Known l.sheet l.sections l.a l.p l.k
