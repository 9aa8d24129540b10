-- `sheet_sections::judge_lent` meets its contract: the tests in their order.
use Prim.Native.Nat.{ℕ, ◌-◌, ◌*◌, ◌/◌, ◌%◌}
use native.Mathlib.Nat.{div-add-mod'}
use native.Mathlib.Omega.{arith}
use mathlib.Core.Bool.{not}
use mathlib.Core.Path.{◌≡◌}
use mathlib.Core.List.{List}
use lib.Dec.{ltb, eqb}
use lib.ListN.{length}
use borrow.Author.Tests.{lt-ltb, le-ltb, eq-eqb, ne_eqb}
use Rattle.std.proofs.lemmas.Result.{err_from_is_err_and}
use Rattle.ray_tracing.specs.declared.Version.{Version}
use Rattle.ray_tracing.specs.Layout.{layout, layout_in, size_in}
use Rattle.ray_tracing.specs.Reading.{refused, judged_when, ◌and_next◌, adds_up, judge_table, by_record, judge_lent}
use Rattle.ray_tracing.proofs.Versions.{most_same}
use Rattle.std.specs.Result.{MatchResult, IsErrAnd}
use Rattle.std.specs.Prelude.{Result, Ok, Err}
use Rattle.std.proofs.Common.{rules}
use Rattle.ray_tracing.specs.declared.SheetRefusal.{SheetRefusal}
use Rattle.ray_tracing.specs.Code.{judged_of}
use Rattle.sheet_sections.proofs.judge_lent.Goals.{After-map_err}
use Rattle.sheet_sections.proofs.judge_lent.Goals as goal

-- a table of n whole records, under a limit that is the same in either version
counted :
    (v : Version) (k w : ℕ) (t s : List ℕ) (n most size : ℕ)
    → size ≡ size_in v k
    → n ≡ length s / size
    → most ≡ (layout k).most
    → judge_lent k (layout_in v k) w t s
    ≡ (judged_when (ltb most n) (refused 4 0)
    and_next judged_when (not (adds_up k t n)) (refused 5 0)
    and_next by_record size (judge_table k (layout_in v k).fields w t s 0 n)
    and_next judged_when (not (eqb (length s % size) 0)) (refused 5 n))
unfolding judge_lent
counted v k w t s n most size e f m =
    rw (← e, ← f, most_same v k, ← m)

-- the bytes of the whole records, and those that are left
module _ (n l w : ℕ) (e : n ≡ l / w) where
  part_left : (n * w ≡ l → ⊥) → l % w ≡ 0 → ⊥
  part_left h z = h (rw e (omega (arith, div-add-mod' l w)))

  none_left : n * w ≡ l → l % w ≡ 0
  none_left h = let k = rw e at h in omega (arith, div-add-mod' l w)

-- a refusal's place becomes its record's number
mapped :
    (j r : Result Unit SheetRefusal) (w : ℕ) (P : SheetRefusal → SheetRefusal → Type 0)
    → ((e d : SheetRefusal) → P e d → d ≡ record { error = e.error; place = e.place / w })
    → MatchResult j (λ x. r ≡ Ok x) (λ e. IsErrAnd r (P e))
    → judged_of r ≡ by_record w (judged_of j)
mapped (Ok x) r w P p h = rw h
mapped (Err e) r w P p h = let k = err_from_is_err_and r h in rw (k.1, p e k.0 k.2)

pub returns-then-most_of-n : goal.returns-then-most_of-n
returns-then-most_of-n c =
    let a = c.args in
    rw (
      counted a.version a.section _ a.before.now a.table.now _ _ _ c.size_of-size.ensures c.records_in-n.ensures c.most_of.ensures,
      lt-ltb c.most_of.result c.records_in-n.result (omega arith),
    )

pub returns-then-not-adds_up : goal.returns-then-not-adds_up
returns-then-not-adds_up c =
    let a = c.args in
    rw (
      counted a.version a.section _ a.before.now a.table.now _ _ _ c.size_of-size.ensures c.records_in-n.ensures c.most_of.ensures,
      le-ltb c.most_of.result c.records_in-n.result (omega arith),
      ← c.adds_up.ensures,
      c.if-not-adds_up.true,
    )

-- what is left once the table is judged
judged :
    (c : After-map_err)
    → judge_lent c.args.section (layout_in c.args.version c.args.section) (size_in c.args.version (c.args.section - 1)) c.args.before.now c.args.table.now
    ≡ (judged_of c.map_err.result and_next judged_when (not (eqb (length c.args.table.now % c.size_of-size.result) 0)) (refused 5 c.records_in-n.result))
judged c =
    let a = c.args in
    rw (
      counted a.version a.section _ a.before.now a.table.now _ _ _ c.size_of-size.ensures c.records_in-n.ensures c.most_of.ensures,
      le-ltb c.most_of.result c.records_in-n.result (omega arith),
      ← c.adds_up.ensures,
      c.if-not-adds_up.false,
      ← c.size_of-each.ensures,
      ← c.judge_table.ensures,
      ← mapped c.judge_table.result c.map_err.result c.size_of-size.result _ (λ e d l. search rules) c.map_err.ensures.cases,
    )

pub returns-in_err-map_err : goal.returns-in_err-map_err
returns-in_err-map_err c =
    let e = err_from_is_err_and c.from_residual.result c.from_residual.ensures.1 in
    rw (judged (goal.at.returns-in_err-map_err c).After-map_err, c.in_err-map_err.was, e.1, e.2)

pub returns-then-n-size : goal.returns-then-n-size
returns-then-n-size c =
    rw (
      judged (goal.at.returns-then-n-size c).After-map_err,
      c.in_ok-map_err.was,
      ne_eqb (length c.args.table.now % c.size_of-size.result) 0 (part_left _ _ _ c.records_in-n.ensures (omega arith)),
    )

pub returns : goal.returns
returns c =
    rw (
      judged (goal.at.returns c).After-map_err,
      c.in_ok-map_err.was,
      eq-eqb (length c.args.table.now % c.size_of-size.result) 0 (none_left _ _ _ c.records_in-n.ensures (omega arith)),
    )
