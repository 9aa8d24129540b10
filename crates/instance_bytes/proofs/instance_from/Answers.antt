-- `instance_bytes::instance_from` meets its contract: each field is what was read of it.
use Rattle.ray_tracing.specs.Instances.{instance_from}
use Rattle.instance_bytes.proofs.instance_from.Goals as goal

pub returns : goal.returns
unfolding instance_from
returns c =
    λ j. record {
      transform = c.numbers_at-numbers.ensures.0 j;
      nan_bits = c.numbers_at-numbers.ensures.1 j;
      custom_data = c.u32_at.ensures j;
      mask = c.u8_at.ensures j;
      blas = record { 0 = c.u16_at.ensures j };
    }
