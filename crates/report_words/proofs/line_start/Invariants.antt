-- The invariant: past the lines that are left to pass, what is left of the text is what is asked for.
use mathlib.Core.Path.{◌≡◌}
use lib.ListN.{drop}
use Rattle.report_words.specs.Lines.{past_lines}
use Rattle.report_words.proofs.line_start.Given as goal

abbrev pub invariant-loop-k : goal.invariant-loop-k
invariant-loop-k l = past_lines l.left (drop l.k l.text) ≡ past_lines l.n l.text
