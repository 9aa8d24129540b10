-- `instance_find::BlasIndex::new` keeps the index's ghost field.
use native.Mathlib.Numerals.{add-one}
use Rattle.std.proofs.Common.{◌≡◌, refl, ap, ◌∙◌, arith}
use lib.ListN.{length-set}
use Rattle.instance_find.specs.Index.{bucket, bucket_of}
use Rattle.instance_find.proofs.Index.{indexed_start, indexed_step}
use Rattle.instance_find.proofs.BlasIndex.new.Goals as goal

pub loop-k-init : goal.loop-k-init
loop-k-init c = (refl, refl, indexed_start _)

pub loop-k-preserved : goal.loop-k-preserved
loop-k-preserved c =
    let l = c.loop-k in
    let bl = c.args.blases.now in
    let its : c.bucket_of-b.result ≡ bucket_of bl l.k = c.bucket_of-b.ensures.0 ∙ ap bucket c.handle_of.ensures in (
      simp length-set l.invariant.0,
      simp length-set l.invariant.1,
      rw (add-one, its) (indexed_step bl l.k l.last l.before l.invariant.2 l.invariant.0 l.invariant.1 (omega arith)),
    )
