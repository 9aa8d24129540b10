use Rattle.std.proofs.Common.{arith, ◌≡◌, ◌+◌, ◌-◌, ◌<◌, sym, ap, ◌∙◌, get_or, drop, length}
use lib.Seq.{sets}
use Rattle.groups.specs.Items.{items_at}
use Rattle.groups.proofs.Slots.{put_next, put_done}
use Rattle.groups.proofs.put_slots.Goals as goal

pub loop-at-preserved : goal.loop-at-preserved
loop-at-preserved c =
    let s = c.args.groups.now in
    let places = c.args.places.now in
    let l = c.loop-at in
    let k = l.at-index in
    let at = get_or places k 0 in
    let more : k < length places = omega arith in (
      omega arith,
      l.invariant.1
          ∙ sym
          (ap (λ x. sets x (l.to + 56) (items_at s (drop (k + 1) places))) c.put_slot.ensures
          ∙ put_next s places l.slots l.to k more (c.requires.0 k more)),
    )

pub returns : goal.returns
returns c =
    let l = c.loop-at in
    sym (l.invariant.1 ∙ put_done c.args.groups.now c.args.places.now l.slots l.to l.at-index (omega arith))
