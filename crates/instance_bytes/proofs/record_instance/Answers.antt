-- `instance_bytes::record_instance` meets its contract: each field is what was read of it, custom data and mask of one u32.
use Rattle.std.proofs.Common.{◌/◌, ◌%◌, ◌^◌}
use Rattle.ray_tracing.specs.ReadInstances.{record_instance}
use Rattle.instance_bytes.proofs.record_instance.Goals as goal

pub returns : goal.returns
unfolding record_instance
returns c =
    let word = c.u32_at-word.ensures in
    λ j. record {
      transform = c.numbers_at-numbers.ensures.0 j;
      nan_bits = c.numbers_at-numbers.ensures.1 j;
      custom_data = word j % 2 ^ 24;
      mask = word j / 2 ^ 24;
      blas = c.args.blas;
    }
