-- What a scratch size that is told says of the judging.
use Rattle.std.proofs.Common.{◌≡◌, ℕ, refl, arith}
use Rattle.ray_tracing.specs.Causes.{Cause}
use Rattle.ray_tracing.specs.Plan.{Verdict, passed, refused}
use Rattle.build_final.specs.Sized.{sized, reached, sized_unless}

pub told-reached : (v : Verdict) (n e f : ℕ) (c : Cause) → sized_unless v n ≡ reached e f c → v ≡ refused e f c
told-reached passed n e f c h = let z : ◌≡◌ {A = ℕ} 0 1 = cc in absurd (omega arith)
told-reached (refused i j d) n e f c h = cc

pub told-sized : (v : Verdict) (n k : ℕ) → sized k ≡ sized_unless v n → (v ≡ passed) × (k ≡ n)
told-sized passed n k h = let same : k ≡ n = cc in (refl, same)
told-sized (refused e f c) n k h = let z : ◌≡◌ {A = ℕ} 0 1 = cc in absurd (omega arith)
