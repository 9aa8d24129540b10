-- `report_words::line_start` meets its contract.
use mathlib.Core.Path.{refl, sym, ◌∙◌}
use Prim.Native.Nat.{◌≤◌}
use lib.ListN.{length}
use Rattle.report_text.proofs.Laws.{rest_none}
use Rattle.report_words.proofs.Laws.{past_here, past-none, past-other, past-line}
use borrow.Author.Rules.{rules}
use Rattle.report_words.proofs.line_start.Goals as goal
use Rattle.report_words.proofs.line_start.Goals.{then-b-eq10, else-b-eq10}

pub loop-k-init : goal.loop-k-init
loop-k-init c = refl

pub returns-then-left-eq0 : goal.returns-then-left-eq0
returns-then-left-eq0 c = (search rules, past_here c.args.text.now c.loop-k.k _ _ c.loop-k.invariant c.if-left-eq0.true)

pub loop-k-preserved : goal.loop-k-preserved
loop-k-preserved c =
    let l = c.loop-k in
    elim c.if-b-eq10.branch [
      | then-b-eq10 w ↦ rw w.left-is (past-line _ _ c.loop-k-test.true _ _ l.invariant c.if-left-eq0.false w.if-b-eq10.true)
      | else-b-eq10 w ↦ rw w.left-is (past-other _ _ c.loop-k-test.true _ _ l.invariant c.if-left-eq0.false w.if-b-eq10.false)
    ]

pub returns : goal.returns
returns c =
    let t = c.args.text.now in
    let h : length t ≤ c.loop-k.k = c.loop-k-test.false in
    (search rules, rest_none t (length t) (search rules) ∙ sym (rest_none t c.loop-k.k h) ∙ past-none t c.loop-k.k _ _ c.loop-k.invariant h)
