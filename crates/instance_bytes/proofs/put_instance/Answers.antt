-- `instance_bytes::put_instance` meets its contract: two writes end to end are one.
use Rattle.std.proofs.Common.{◌≡◌, ℕ, ◌+◌, length, sym, ap, rules}
use Rattle.ray_tracing.specs.Instances.{words, patterns, tail_bytes, instance_bytes}
use Rattle.ray_tracing.proofs.Instances.{transform-length}
use Rattle.instance_bytes.proofs.Laws.{sets_then}
use Rattle.instance_bytes.proofs.put_instance.Goals as goal

pub returns : goal.returns
unfolding instance_bytes
returns c =
    let a = c.args in
    let i = a.instance in
    let lx : length i.transform ≡ 12 = search rules in
    let ln : length i.nan_bits ≡ 12 = search rules in
    sets_then a.out.now a.at (a.at + 48)
    (words (patterns i.transform i.nan_bits))
    (tail_bytes i.custom_data i.mask a.address)
    c.put_transform.ensures
    c.put_tail.ensures
    (ap (λ (n : ℕ). a.at + n) (sym (transform-length i.transform i.nan_bits lx ln)))
