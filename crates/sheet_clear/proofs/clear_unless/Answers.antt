-- `sheet_clear::clear_unless` meets its contract: bytes that are used are as if they were written where they stand.
use Rattle.std.proofs.Common.{arith, ◌≡◌, ◌+◌, ◌-◌, replicate, length, take, drop, sym, ◌∙◌, length-drop}
use lib.Seq.{length-take-le}
use Rattle.sheet_clear.proofs.Writes.{write_same, zeros_put}
use Rattle.sheet_clear.proofs.clear_unless.Goals as goal

pub returns-then-not-used : goal.returns-then-not-used
returns-then-not-used c =
    let a = c.args in
    let k : a.at + a.n - a.at ≡ a.n = omega arith in
    let l : length (take a.n (drop a.at a.out.now)) ≡ a.n = length-take-le a.n (drop a.at a.out.now) (simp length-drop (omega arith)) in
    let z : c.fill.new.self ≡ replicate a.n 0 = c.fill.ensures.after (λ y e. e) ∙ rw (k, l) in
    rw (c.if-not-used.true, k, z) (zeros_put a.out.now a.at a.n c.requires)

pub returns-else-not-used : goal.returns-else-not-used
returns-else-not-used c =
    let a = c.args in
    rw c.if-not-used.false (sym (write_same a.out.now a.at a.n c.requires))
