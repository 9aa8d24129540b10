-- `instance_read::read_instances` meets its contract: what judging finds is the answer, and what was judged fine is found and has room.
use Rattle.std.proofs.Common.{◌≡◌, ℕ, ◌*◌, List, length, refl, sym, ap, ◌∙◌, arith}
use Rattle.std.proofs.lemmas.List.Edits.{sets}
use Rattle.std.proofs.lemmas.Grind.{common_steps}
use Rattle.std.proofs.lemmas.Result.{err_from_is_err_and}
use Rattle.ray_tracing.specs.AppendMany.{lent_size}
use Rattle.ray_tracing.specs.Plan.{Verdict}
use Rattle.ray_tracing.specs.ReadInstances.{record_count, items_bytes, ReadingInstances, judge_read, read_outcome, read_instances_rule, read_after, read_instances_bytes, ReadsInstances}
use Rattle.ray_tracing.proofs.ReadInstances.{judged_fine}
use Rattle.instance_read.specs.Judged.{read_judged_of}
use Rattle.instance_read.proofs.read_instances.Goals as goal

-- a call by what judging finds

module _ (records blases b : List ℕ) where
  abbrev after : ReadingInstances → List ℕ
  after a = read_after a (sets b 0 (items_bytes records blases (record_count records))) b

  by_verdict :
      {v : Verdict} {a : ReadingInstances} {p : List ℕ}
      → judge_read records blases (length b) ≡ v
      → a ≡ read_outcome v (lent_size * record_count records)
      → p ≡ after a
      → ReadsInstances records blases b a p
  unfolding read_instances_rule read_instances_bytes
  by_verdict j e l =
      let answer = e ∙ ap (λ (v : Verdict). read_outcome v (lent_size * record_count records)) (sym j) in
      record { answer = answer; left = l ∙ ap after answer }

pub put_items-requires-clause-by_index : goal.put_items-requires-clause-by_index
put_items-requires-clause-by_index c k h =
    let a = c.args in
    let may = judged_fine a.records.now c.new-index.result.blases.now (length a.items.now) (sym c.judge_records.ensures ∙ ap read_judged_of c.in_ok-judge_records.was) in
    record { one = (may.each k h).known }

pub put_items-requires-clause-record_size_in_bounds :
    goal.put_items-requires-clause-record_size_in_bounds
put_items-requires-clause-record_size_in_bounds c =
    let a = c.args in
    grind (arith, common_steps, judged_fine a.records.now c.new-index.result.blases.now (length a.items.now))

pub returns-in_err-judge_records : goal.returns-in_err-judge_records
returns-in_err-judge_records c =
    let a = c.args in
    let p = err_from_is_err_and c.from_residual.result c.from_residual.ensures.1 in
    rw (p.1, p.2)
    (by_verdict a.records.now a.blases.now a.items.now (rw c.new-index.ensures at (sym c.judge_records.ensures) ∙ ap read_judged_of c.in_err-judge_records.was) refl refl)

pub returns : goal.returns
returns c =
    let a = c.args in
    by_verdict a.records.now a.blases.now a.items.now (rw c.new-index.ensures at (sym c.judge_records.ensures) ∙ ap read_judged_of c.in_ok-judge_records.was) refl (rw c.new-index.ensures at c.put_items.ensures)
