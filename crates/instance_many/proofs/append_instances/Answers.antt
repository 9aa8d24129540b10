-- `instance_many::append_instances` meets its contract: what judging finds is the answer, and what was judged fine may be written.
use Rattle.std.proofs.Common.{◌≡◌, ℕ, ◌+◌, ◌*◌, List, length, refl, sym, ap, ◌∙◌, arith}
use Rattle.std.proofs.lemmas.List.Edits.{sets}
use Rattle.std.proofs.lemmas.Grind.{common_steps}
use Rattle.std.proofs.lemmas.Result.{err_from_is_err_and}
use Rattle.ray_tracing.specs.declared.TlasId.{TlasId}
use Rattle.ray_tracing.specs.Mentions.{tlas_of}
use Rattle.ray_tracing.specs.Code.{verdict_of}
use Rattle.ray_tracing.specs.Plan.{Verdict}
use Rattle.ray_tracing.specs.AppendMany.{lent_count, lent_instance, many_bytes, judge_many, AppendingMany, all_in_use, many_outcome, append_many_rule, many_after, append_many_bytes, AppendsMany}
use Rattle.ray_tracing.proofs.AppendMany.{judged_fine}
use Rattle.ray_tracing.proofs.Instances.{inside-narrow}
use Rattle.instance_many.proofs.append_instances.Goals as goal

-- a call by what judging finds

module _ (tlases blases : List ℕ) (tlas : TlasId) (items b : List ℕ) (used : ℕ) where
  abbrev new : List ℕ
  new = sets b used (many_bytes blases items (lent_count items))

  by_verdict :
      {v : Verdict} {a : AppendingMany} {p : List ℕ}
      → judge_many tlases blases tlas items (length b) used ≡ v
      → a ≡ many_outcome v (used + 64 * lent_count items)
      → p ≡ many_after a new b
      → AppendsMany tlases blases tlas items b used a p
  unfolding append_many_rule append_many_bytes
  by_verdict j e l =
      let answer = e ∙ ap (λ (v : Verdict). many_outcome v (used + 64 * lent_count items)) (sym j) in
      record { answer = answer; left = l ∙ ap (λ (a : AppendingMany). many_after a new b) answer }

-- what judging shows where it refuses nothing: they may be written

pub put_many-requires-clause-lent_size_in_bounds :
    goal.put_many-requires-clause-lent_size_in_bounds
put_many-requires-clause-lent_size_in_bounds c =
    let a = c.args in
    grind (arith, common_steps, judged_fine a.tlases.now a.blases.now a.tlas a.items.now (length a.instances.now) a.used)

pub put_many-requires-clause-by_index : goal.put_many-requires-clause-by_index
put_many-requires-clause-by_index c k h =
    let a = c.args in
    let may = judged_fine a.tlases.now a.blases.now a.tlas a.items.now (length a.instances.now) a.used
    (sym c.judge_many.ensures ∙ ap verdict_of c.in_ok-judge_many.was) in
    let both = inside-narrow (tlas_of a.tlases.now a.tlas.0) a.blases.now (lent_instance a.items.now k) (may.each k h) in
    record { inside = both.0; narrow = both.1 }

pub overflow_add-end : goal.overflow_add-end
overflow_add-end c =
    let a = c.args in
    grind (arith, common_steps, judged_fine a.tlases.now a.blases.now a.tlas a.items.now (length a.instances.now) a.used)

pub returns-in_err-judge_many : goal.returns-in_err-judge_many
returns-in_err-judge_many c =
    let a = c.args in
    let p = err_from_is_err_and c.from_residual.result c.from_residual.ensures.1 in
    rw (p.1, p.2)
    (by_verdict a.tlases.now a.blases.now a.tlas a.items.now a.instances.now a.used
    (sym c.judge_many.ensures ∙ ap verdict_of c.in_err-judge_many.was)
    refl
    refl)

pub returns : goal.returns
returns c =
    let a = c.args in
    by_verdict a.tlases.now a.blases.now a.tlas a.items.now a.instances.now a.used
    (sym c.judge_many.ensures ∙ ap verdict_of c.in_ok-judge_many.was)
    (ap all_in_use (omega arith))
    c.put_many.ensures
