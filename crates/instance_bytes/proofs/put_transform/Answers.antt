-- `instance_bytes::put_transform` meets its contract.
use Rattle.std.proofs.Common.{◌≡◌, ℕ, List, length, refl, sym, ap, ◌∙◌, arith, rules}
use Rattle.std.proofs.lemmas.List.Edits.{sets}
use lib.Seq.{take_all}
use Rattle.ray_tracing.specs.Instances.{patterns, words}
use Rattle.ray_tracing.proofs.Instances.{length-patterns, get_or-patterns}
use Rattle.instance_bytes.proofs.Laws.{put_more}
use Rattle.instance_bytes.proofs.put_transform.Goals as goal

pub loop-k-init : goal.loop-k-init
unfolding words
loop-k-init c = refl

pub loop-k-preserved : goal.loop-k-preserved
loop-k-preserved c =
    let xs = c.args.transform in
    let ns = c.args.nan_bits in
    let k = c.loop-k.k in
    let lx : length xs ≡ 12 = search rules in
    let ln : length ns ≡ 12 = search rules in
    put_more c.args.out.now c.args.at k (patterns xs ns) c.bits_of_number.result
    (omega (arith, length-patterns xs ns (omega arith)))
    (c.bits_of_number.ensures ∙ sym (get_or-patterns xs ns k 0 (omega arith) (omega arith)))
    c.loop-k.invariant
    c.put_u32.ensures

pub returns : goal.returns
returns c =
    let xs = c.args.transform in
    let ns = c.args.nan_bits in
    let lx : length xs ≡ 12 = search rules in
    let ln : length ns ≡ 12 = search rules in
    c.loop-k.invariant
    ∙ ap (λ (l : List ℕ). sets c.args.out.now c.args.at (words l))
    (take_all c.loop-k.k (patterns xs ns) (omega (arith, length-patterns xs ns (omega arith))))
