-- `groups::open_judged` meets its contract: what opening the last group finds is what the rule says of its slots.
use Rattle.std.proofs.Common.{Result, Ok, arith, rules, ◌≡◌, ℕ, ◌-◌, ◌≤◌, List, map, length, take, sym, ◌∙◌, subst}
use lib.Seq.{length-take-le}
use Rattle.std.proofs.lemmas.Result.{err_from_is_err_and}
use Rattle.ray_tracing.specs.Groups.{Slot, group_count, group_of, open_group, slots_of}
use Rattle.groups_judge.proofs.Laws.{fine_groups}
use Rattle.groups_open.specs.Places.{counted, placed, JudgedFine}
use Rattle.groups_open.specs.declared.Full.{Full}
use Rattle.groups_open.proofs.Laws.{counted-all}
use Rattle.groups.proofs.Calls.{over_so, short-so, found_within, wrote_so, counted_so, places_so, table_so}
use Rattle.groups.proofs.open_judged.Goals as goal

-- ---- the groups' count, and what judging shows of it

pub slice_bounds-open_group-end : goal.slice_bounds-open_group-end
slice_bounds-open_group-end c =
    let shown = fine_groups c.args.groups.now c.requires.0 in
    sym (length-take-le c.u16_at-count.result c.args.starts.now (omega (arith, c.u16_at-count.ensures, shown.most)))

pub open_group-requires : goal.open_group-requires
open_group-requires c =
    let a = c.args in
    let count = c.u16_at-count.ensures in
    let shown = fine_groups a.groups.now c.requires.0 in
    let n = length-take-le c.u16_at-count.result a.starts.now (omega (arith, count, shown.most)) in (
      (
        subst (λ n. JudgedFine a.groups.now (take n a.starts.now)) (sym count)
            (table_so a.groups.now a.starts.now c.requires.0 c.requires.1.0 c.requires.1.1),
        omega (arith, n, count, shown.some),
      ),
      (search rules, search rules),
    )

-- ---- all slots were found

module _ (s : List ℕ) (count n : ℕ) (r : Result ℕ Full) (e : count ≡ group_count s) (answer : r ≡ counted 0 (open_group (group_of s) (count - 1))) (told : r ≡ Ok n) where
  counted-there : counted 0 (slots_of s) ≡ Ok n
  counted-there = counted_so s count e r answer ∙ told

  most : n ≤ 512
  most = (counted-all 0 n _ (omega arith) counted-there).1

  there :
      (found out : List ℕ)
      → 512 ≤ length out
      → found ≡ placed 0 (open_group (group_of s) (count - 1)) out
      → take n found ≡ map (λ (x : Slot). x.at) (slots_of s)
  there found out l q = places_so s count e n found out counted-there l q

  found_length : (found : List ℕ) → length found ≡ 512 → length (take n found) ≡ n
  found_length found l = length-take-le _ _ (omega (arith, most, l))

pub overflow_mul-n : goal.overflow_mul-n
overflow_mul-n c =
    omega (arith, most _ _ _ _ c.u16_at-count.ensures c.open_group.ensures.answer c.in_ok-n.was)

pub returns-then-slots-n : goal.returns-then-slots-n
returns-then-slots-n c =
    let called = c.open_group in
    short-so _ _ c.requires.0 _ (counted-there _ _ _ _ c.u16_at-count.ensures called.ensures.answer c.in_ok-n.was)
    c.if-slots-n.true

pub slice_bounds-places-end : goal.slice_bounds-places-end
slice_bounds-places-end c =
    let called = c.open_group in
    omega (arith, most _ _ _ _ c.u16_at-count.ensures called.ensures.answer c.in_ok-n.was, called.auto.places)

pub slice_bounds-put_slots-end : goal.slice_bounds-put_slots-end
slice_bounds-put_slots-end c =
    let called = c.open_group in
    sym (found_length _ _ _ _ c.u16_at-count.ensures called.ensures.answer c.in_ok-n.was _ called.auto.places)

pub put_slots-requires : goal.put_slots-requires
put_slots-requires c =
    let a = c.args in
    let count = c.u16_at-count.ensures in
    let called = c.open_group in
    let answer = called.ensures.answer in (
      found_within a.groups.now a.slots.now c.requires.0 _ (counted-there _ _ _ _ count answer c.in_ok-n.was) _
          (there _ _ _ _ count answer c.in_ok-n.was _ _ (search rules) called.ensures.places),
      omega (arith, found_length _ _ _ _ count answer c.in_ok-n.was _ called.auto.places, c.if-slots-n.false),
    )

pub returns-in_err-n : goal.returns-in_err-n
returns-in_err-n c =
    let a = c.args in
    let p = err_from_is_err_and c.from_residual.result c.from_residual.ensures.1 in
    rw (p.1, p.2)
    (over_so a.groups.now a.slots.now c.requires.0 _
    (counted_so a.groups.now c.u16_at-count.result c.u16_at-count.ensures _ c.open_group.ensures.answer ∙ c.in_err-n.was))

pub returns : goal.returns
returns c =
    let a = c.args in
    let count = c.u16_at-count.ensures in
    let called = c.open_group in
    let answer = called.ensures.answer in
    wrote_so a.groups.now a.slots.now c.requires.0 _ (counted-there _ _ _ _ count answer c.in_ok-n.was) _
    (there _ _ _ _ count answer c.in_ok-n.was _ _ (search rules) called.ensures.places) c.if-slots-n.false _ c.put_slots.ensures
