-- `instance::append_instance` meets its contract: each way out is a case of `append_rule`, and what was judged fine may be written.
use Rattle.std.proofs.Common.{ℕ, ap, ◌∙◌, arith}
use Rattle.std.proofs.lemmas.List.Edits.{sets}
use Rattle.std.proofs.lemmas.Result.{err_from_is_err_and}
use Rattle.ray_tracing.specs.Instances.{instance_bytes}
use Rattle.instance.proofs.Laws.{appends-refused, named-inside, appends_short, appends-done}
use Rattle.instance.proofs.append_instance.Goals as goal

pub returns-in_err-check_named_tlas : goal.returns-in_err-check_named_tlas
returns-in_err-check_named_tlas c =
    let a = c.args in
    let p = err_from_is_err_and c.from_residual.result c.from_residual.ensures.1 in
    rw (p.1, p.2)
    (appends-refused a.tlases.now a.blases.now a.tlas a.instance a.instances.now a.used _ c.check_named_tlas.ensures c.in_err-check_named_tlas.was)

pub address_of-address-requires : goal.address_of-address-requires
address_of-address-requires c =
    let a = c.args in
    (named-inside a.tlases.now a.blases.now a.tlas a.instance a.instances.now a.used c.check_named_tlas.ensures c.in_ok-check_named_tlas.was).0

pub put_instance-requires : goal.put_instance-requires
put_instance-requires c =
    let a = c.args in (
      omega arith,
      (named-inside a.tlases.now a.blases.now a.tlas a.instance a.instances.now a.used c.check_named_tlas.ensures c.in_ok-check_named_tlas.was).1,
    )

pub returns-then-instances-used : goal.returns-then-instances-used
returns-then-instances-used c =
    let a = c.args in
    appends_short a.tlases.now a.blases.now a.tlas a.instance a.instances.now a.used c.check_named_tlas.ensures c.in_ok-check_named_tlas.was
    (grind arith)

pub returns : goal.returns
returns c =
    let a = c.args in
    appends-done a.tlases.now a.blases.now a.tlas a.instance a.instances.now a.used c.check_named_tlas.ensures c.in_ok-check_named_tlas.was
    (omega arith)
    (c.put_instance.ensures
    ∙ ap (λ (x : ℕ). sets a.instances.now a.used (instance_bytes a.instance x)) c.address_of-address.ensures)
