-- `report_words::put_words` meets its contract: the line is its number's.
use native.Mathlib.Omega.{arith}
use Rattle.report_words.proofs.Refusals.{words_are}
use Rattle.report_words.proofs.Longest.{words-most}
use Rattle.report_words.proofs.put_words.Goals as goal

pub put_line-requires : goal.put_line-requires
put_line-requires c = let v = c.args.v in
    rw (c.line_place-n.ensures, words_are v.call v.e v.f v.x v.y v.z v.number)
    (omega (arith, words-most v.call v.number v.e v.f v.x v.y v.z, c.requires))

pub returns : goal.returns
returns c = let v = c.args.v in
    rw (c.line_place-n.ensures, words_are v.call v.e v.f v.x v.y v.z v.number) at c.put_line.ensures
