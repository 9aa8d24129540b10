use Rattle.std.proofs.Common.{arith, ◌≡◌, sym, ◌∙◌}
use Rattle.std.proofs.lemmas.Result.{err_from_is_err_and}
use Rattle.wire.specs.Wire.{le_at}
use Rattle.groups_judge.proofs.Laws.{size-named, item_begins, item-inside, item_earlier}
use Rattle.groups_open.proofs.Laws.{rest_all, rest_none, rest_more, rest-stop, item_room, item_full, item-group, fine-all, fine-first, fine_more, group-fine}
use Rattle.groups_open.proofs.+open_group_open_item.Goals as goal

pub open_group-u16_at-count-requires : goal.open_group-u16_at-count-requires
open_group-u16_at-count-requires t c =
    let group = group-fine _ _ c.args.group c.requires.0.0 c.requires.0.1 in omega (arith, group.whole)

pub open_group-overflow_add-at : goal.open_group-overflow_add-at
open_group-overflow_add-at t c =
    let group = group-fine _ _ c.args.group c.requires.0.0 c.requires.0.1 in
    omega (arith, group.whole, c.well_formed.0.0)

pub open_group-loop-i-init : goal.open_group-loop-i-init
open_group-loop-i-init t c =
    let judged = c.requires.0.0 in
    let in_table = c.requires.0.1 in
    let count = c.u16_at-count.ensures in (
      omega (arith, c.requires.1.1),
      fine-all _ _ _ _ (group-fine _ _ _ judged in_table) count,
      rest_all _ _ _ _ _ _ (judged.place _ in_table) count,
    )

pub open_group-open_item-requires : goal.open_group-open_item-requires
open_group-open_item-requires t c =
    let l = c.loop-i in (
      omega (arith, c.decreases),
      (
        (c.requires.0.0, (c.requires.0.1, fine-first _ _ _ _ l.i (omega arith) l.invariant.1)),
        (omega (arith, l.auto.places, c.requires.1.0), omega (arith, l.invariant.0)),
      ),
    )

pub open_group-returns-in_err-total : goal.open_group-returns-in_err-total
open_group-returns-in_err-total t c =
    let l = c.loop-i in
    let called = c.open_item.ensures in
    let p = err_from_is_err_and c.from_residual.result c.from_residual.ensures.1 in
    let found =
    rest-stop _ _ _ _ _ l.places l.total l.at l.i l.invariant.2 l.invariant.0 (omega arith) _ _ (called.answer, called.places) _
    c.in_err-total.was in
    rw (p.1, p.2) (record { answer = found.0; places = found.1 })

pub open_group-item_size-at-requires : goal.open_group-item_size-at-requires
open_group-item_size-at-requires t c =
    let l = c.loop-i in
    let a = c.args in
    let first = fine-first a.groups.now a.group c.u16_at-count.result l.at l.i (omega arith) l.invariant.1 in
    omega (arith, item_begins a.groups.now a.group l.i l.at first)

pub open_group-overflow_add-at-in-loop-i : goal.open_group-overflow_add-at-in-loop-i
open_group-overflow_add-at-in-loop-i t c =
    let l = c.loop-i in
    let a = c.args in
    let first = fine-first a.groups.now a.group c.u16_at-count.result l.at l.i (omega arith) l.invariant.1 in
    omega (arith, item-inside a.groups.now a.group l.i l.at first, c.item_size-at.ensures, c.well_formed.0.0)

pub open_group-loop-i-preserved : goal.open_group-loop-i-preserved
open_group-loop-i-preserved t c =
    let l = c.loop-i in
    let called = c.open_item.ensures in
    let size = c.item_size-at.ensures in
    let next =
    rest_more _ _ _ _ _ l.places l.total l.at l.i l.invariant.2 l.invariant.0 (omega arith) _ _ (called.answer, called.places) _ _ size
    c.in_ok-total.was in (
      next.0,
      fine_more _ _ _ _ l.i (omega arith) l.invariant.1 _ size,
      next.1,
    )

pub open_group-returns : goal.open_group-returns
open_group-returns t c =
    let l = c.loop-i in
    let found = rest_none _ _ _ _ _ _ _ _ l.i l.invariant.2 l.invariant.0 (omega arith) in
    record { answer = found.0; places = found.1 }

pub open_item-u8_at-requires : goal.open_item-u8_at-requires
open_item-u8_at-requires t c =
    let a = c.args in omega (arith, item_begins a.groups.now a.group a.item a.at c.requires.0.1.1)

pub open_item-overflow_add-at : goal.open_item-overflow_add-at
open_item-overflow_add-at t c =
    let a = c.args in
    omega (arith, item_begins a.groups.now a.group a.item a.at c.requires.0.1.1, c.well_formed.0.0)

pub open_item-u16_at-requires : goal.open_item-u16_at-requires
open_item-u16_at-requires t c =
    let a = c.args in
    let size = size-named a.groups.now a.at (λ e. c.if-u8_at-ne1.true (c.u8_at.ensures ∙ e)) in
    omega (arith, item-inside a.groups.now a.group a.item a.at c.requires.0.1.1, size)

pub open_item-open_group-requires : goal.open_item-open_group-requires
open_item-open_group-requires t c =
    let low = item_earlier _ _ _ _ c.requires.0.1.1 (λ e. c.if-u8_at-ne1.true (c.u8_at.ensures ∙ e)) in
    let named = c.u16_at.ensures in (
      omega (arith, c.decreases, low, named),
      (
        (c.requires.0.0, omega (arith, low, named, c.requires.0.1.0)),
        (c.requires.1.0, omega (arith, c.requires.1.1)),
      ),
    )

pub open_item-returns-then-u8_at-ne1 : goal.open_item-returns-then-u8_at-ne1
open_item-returns-then-u8_at-ne1 t c =
    let a = c.args in
    let called = c.open_group in
    let names : ¬ (le_at 1 a.groups.now a.at ≡ 1) = λ e. c.if-u8_at-ne1.true (c.u8_at.ensures ∙ e) in
    let named = c.u16_at.ensures in
    let low = item_earlier _ _ _ _ c.requires.0.1.1 names in
    let found =
    item-group _ _ _ _ _ _ names _ named (omega (arith, low, named)) _ _
    (called.ensures.answer, called.ensures.places) in
    record { answer = found.0; places = found.1 }

pub open_item-returns-then-n-lt-MOST_SLOTS : goal.open_item-returns-then-n-lt-MOST_SLOTS
open_item-returns-then-n-lt-MOST_SLOTS t c =
    let found = item_room _ _ _ _ _ _ (sym c.u8_at.ensures ∙ c.if-u8_at-ne1.false) (omega arith) in
    record { answer = found.0; places = found.1 }

pub open_item-returns : goal.open_item-returns
open_item-returns t c =
    let a = c.args in
    let found =
    item_full a.groups.now a.group a.item a.at a.n a.places.now (sym c.u8_at.ensures ∙ c.if-u8_at-ne1.false)
    (omega arith) in
    record { answer = found.0; places = found.1 }
