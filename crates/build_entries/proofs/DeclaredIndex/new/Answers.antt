use Rattle.std.proofs.Common.{ℕ, ◌≡◌, ◌+◌, ◌-◌, ◌<◌, arith, refl, subst, length-set}
use Rattle.build_entries.specs.Index.{declared_in}
use Rattle.build_entries.proofs.Index.{HeadsFrom, NextsFrom, heads_start, heads-step, nexts-step}
use Rattle.build_entries.proofs.DeclaredIndex.new.Goals as goal

pub loop-i-init : goal.loop-i-init
loop-i-init c = record { of_heads = refl; of_nexts = refl; heads = heads_start _; nexts = λ k a b. absurd (omega arith) }

pub loop-i-preserved : goal.loop-i-preserved
loop-i-preserved c =
    let l = c.loop-i in
    let t = c.args.declared.now in
    let k = l.i - 1 in
    let e : l.i ≡ k + 1 = omega arith in
    let h : k < declared_in t = omega arith in
    let hs = subst (λ (n : ℕ). HeadsFrom t l.head n) e l.invariant.heads in
    let ns = subst (λ (n : ℕ). NextsFrom t l.next n) e l.invariant.nexts in
    let small = c.requires.small k h in
    rw c.u16_at-blas.ensures (
    record {
      of_heads = simp length-set l.invariant.of_heads;
      of_nexts = simp length-set l.invariant.of_nexts;
      heads = heads-step t k h l.head l.invariant.of_heads small hs;
      nexts = nexts-step t k h l.next _ l.invariant.of_nexts c.requires.few (hs _ small) ns;
    }
    )
