-- `instance_bytes::put_lent` meets its contract: four writes end to end are one.
use Rattle.std.proofs.Common.{ℕ, ◌+◌, ap}
use Rattle.wire.specs.Wire.{le_bytes}
use Rattle.wire.proofs.Laws.{length-le_bytes}
use Rattle.ray_tracing.specs.Instances.{words, patterns}
use Rattle.ray_tracing.specs.ReadInstances.{lent_bytes}
use Rattle.instance_bytes.proofs.Laws.{sets_four}
use Rattle.instance_bytes.proofs.put_lent.Goals as goal

pub returns : goal.returns
unfolding lent_bytes
returns c =
    let a = c.args in
    let i = a.instance in
    sets_four a.out.now a.at 2 6 7
    (le_bytes 2 i.blas.0)
    (le_bytes 4 i.custom_data)
    (le_bytes 1 i.mask)
    (words (patterns i.transform i.nan_bits))
    c.put_u16.ensures
    c.put_u32.ensures
    c.put_u8.ensures
    c.put_transform.ensures
    (length-le_bytes 2 i.blas.0)
    (ap (λ (n : ℕ). 2 + n) (length-le_bytes 4 i.custom_data))
    (ap (λ (n : ℕ). 6 + n) (length-le_bytes 1 i.mask))
