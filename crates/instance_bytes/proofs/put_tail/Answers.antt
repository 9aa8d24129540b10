-- `instance_bytes::put_tail` meets its contract: three writes end to end are one.
use Rattle.std.proofs.Common.{ℕ, ◌+◌, ◌*◌, ◌^◌, ap}
use Rattle.wire.specs.Wire.{le_bytes}
use Rattle.wire.proofs.Laws.{length-le_bytes}
use Rattle.instance_bytes.proofs.Laws.{sets_three}
use Rattle.instance_bytes.proofs.put_tail.Goals as goal

pub returns : goal.returns
returns c =
    let a = c.args in
    sets_three a.out.now a.at 4 8 (le_bytes 4 (a.custom_data + 2 ^ 24 * a.mask)) (le_bytes 4 0) (le_bytes 8 a.address)
    (rw c.from.ensures at c.put_u32.ensures)
    c.put_u32-2.ensures
    c.put_u64.ensures
    (length-le_bytes 4 _)
    (ap (λ (n : ℕ). 4 + n) (length-le_bytes 4 0))
