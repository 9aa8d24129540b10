-- `instance_bytes::numbers_at` meets its contract.
use Rattle.std.proofs.Common.{refl, sym, ap, ◌∙◌, arith}
use lib.ListN.{length-set, length-map}
use Rattle.std.specs.Float.{binary32}
use Rattle.std.specs.Float.Ieee.{of_bits}
use Rattle.ray_tracing.specs.Instances.{nan_of}
use Rattle.ray_tracing.proofs.Instances.{length-words_at, map-words}
use Rattle.instance_bytes.proofs.Laws.{fill, filled}
use Rattle.instance_bytes.proofs.numbers_at.Invariants.{numbers, kept}
use Rattle.instance_bytes.proofs.numbers_at.Goals as goal

pub loop-k-init : goal.loop-k-init
loop-k-init c = (refl, refl, refl, refl)

pub loop-k-preserved : goal.loop-k-preserved
loop-k-preserved c =
    let s = c.args.s.now in
    let at = c.args.at in
    let k = c.loop-k.k in
    let word = c.u32_at.ensures in (
      length-set c.loop-k.values k _ ∙ c.loop-k.invariant.0,
      fill (of_bits binary32 0) c.loop-k.values (numbers s at) k c.number_of_bits-n.result.value (omega arith)
          (simp (length-map, length-words_at) (omega arith)) c.loop-k.invariant.1
          (c.number_of_bits-n.ensures.0 ∙ ap (of_bits binary32) word ∙ sym (map-words (of_bits binary32) 12 s at k (omega arith))),
      length-set c.loop-k.nan_bits k _ ∙ c.loop-k.invariant.2,
      fill (nan_of 0) c.loop-k.nan_bits (kept s at) k c.number_of_bits-n.result.nan_bits (omega arith)
          (simp (length-map, length-words_at) (omega arith)) c.loop-k.invariant.3
          (c.number_of_bits-n.ensures.1 ∙ ap nan_of word ∙ sym (map-words nan_of 12 s at k (omega arith))),
    )

pub returns : goal.returns
returns c =
    let s = c.args.s.now in
    let at = c.args.at in
    let k = c.loop-k.k in (
      filled c.loop-k.values (numbers s at) k (omega arith) (simp (length-map, length-words_at) (omega arith)) c.loop-k.invariant.1,
      filled c.loop-k.nan_bits (kept s at) k (omega arith) (simp (length-map, length-words_at) (omega arith)) c.loop-k.invariant.3,
    )
