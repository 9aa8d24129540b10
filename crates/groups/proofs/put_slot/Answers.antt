use Rattle.std.proofs.Common.{arith, ◌≡◌, ℕ, ◌+◌, ◌*◌, ◌<◌, ap, ◌∙◌, get_or, take, drop}
use lib.Seq.{sets}
use Rattle.wire.proofs.Copying.{copied_next}
use Rattle.groups.proofs.put_slot.Goals as goal

pub loop-k-preserved : goal.loop-k-preserved
loop-k-preserved c =
    let a = c.args in
    let l = c.loop-k in
    let small : (j : ℕ) → get_or a.groups.now j 0 < 256 = λ j. (c.type_inv.groups j).fits in
    let next : 8 * l.k + 8 ≡ 8 * (l.k + 1) = omega arith in
    copied_next a.groups.now a.slots.now a.to a.at small (8 * l.k) 8 (omega (arith, c.requires.1)) l.invariant c.u64_at.ensures c.put_u64.ensures
    ∙ ap (λ (n : ℕ). sets a.slots.now a.to (take n (drop a.at a.groups.now))) next

pub returns : goal.returns
returns c =
    let a = c.args in
    let l = c.loop-k in
    let all : 8 * l.k ≡ 56 = omega arith in
    l.invariant ∙ ap (λ (n : ℕ). sets a.slots.now a.to (take n (drop a.at a.groups.now))) all
