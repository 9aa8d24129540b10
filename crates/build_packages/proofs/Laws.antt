-- A slot whose Blas was judged.
use Rattle.std.proofs.Common.{◌≡◌, ℕ, ◌*◌, ◌/◌, ◌<◌, Bool, true, false, cond, List, length, refl}
use borrow.Author.Tests.{lt-leb}
use Rattle.ray_tracing.specs.Guard.{refuse}
use Rattle.ray_tracing.specs.Mentions.{blas_mention}
use Rattle.ray_tracing.specs.Instances.{slot_mention}
use Rattle.ray_tracing.specs.Layout.{size}
use Rattle.ray_tracing.specs.Plan.{slot_present, slot_blas}

-- a slot whose Blas is inside if it is present is not refused for it
pub slot-named :
    (blases slots : List ℕ) (s : ℕ)
    → (slot_present slots s ≡ true → slot_blas slots s < length blases / size 2)
    → slot_mention blases slots (s * size 8) ≡ 0
unfolding refuse
slot-named blases slots s h = go (slot_present slots s) h
  where
    go : (b : Bool) → (b ≡ true → slot_blas slots s < length blases / size 2) → cond b (blas_mention blases (slot_blas slots s)) 0 ≡ 0
    go true h = rw (lt-leb (length blases / size 2) (slot_blas slots s) (h refl))
    go false h = refl
