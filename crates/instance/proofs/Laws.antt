-- Laws of appending one instance, by its cases.
use mathlib.Core.Path.{◌≡◌, refl, sym, ap, ◌∙◌, subst}
use mathlib.Core.List.{List}
use Prim.Native.Nat.{ℕ, zero, suc, ◌+◌, ◌/◌, ◌^◌, ◌≤◌, ◌<◌}
use native.Mathlib.Omega.{arith}
use lib.ListN.{length}
use lib.Seq.{sets}
use borrow.Author.Tests.{lt-ltb}
use Rattle.std.specs.Prelude.{Result, Ok, Err}
use Rattle.ray_tracing.specs.declared.TlasId.{TlasId}
use Rattle.ray_tracing.specs.declared.TlasInstance.{TlasInstance}
use Rattle.ray_tracing.specs.declared.BuildAccelerationStructureError.{BuildAccelerationStructureError}
use Rattle.ray_tracing.specs.Guard.{refuse}
use Rattle.ray_tracing.specs.Causes.{Cause, bare, build_cause}
use Rattle.ray_tracing.specs.Mentions.{◌else◌, tlas_mention, tlas_of}
use Rattle.ray_tracing.specs.Instances.{instance_bytes, named_instance_rule, address_for, Appending, in_use, refused, named_tlas_rule, room_rule, outcome, append_rule, bytes_after, append_bytes, Appends}
use Rattle.ray_tracing.specs.Code.{instance_cause}
use Rattle.ray_tracing.proofs.Causes.{positive}
use Rattle.ray_tracing.proofs.Mentions.{else_zero}
use Rattle.ray_tracing.proofs.Instances.{inside-narrow}
use Rattle.ray_tracing.proofs.AppendMany.{when_done}

outcome-refused : (n room used : ℕ) → 0 < n → refused (bare n) ≡ outcome (n else room) used
outcome-refused zero room used h = absurd (omega arith)
outcome-refused (suc n) room used h = refl

module _ (tlases blases : List ℕ) (tlas : TlasId) (i : TlasInstance) (b : List ℕ) (used : ℕ) where
  abbrev its : Result Unit BuildAccelerationStructureError → Type 0
  its r = instance_cause r ≡ bare (named_tlas_rule tlases blases tlas i)

  pub appends-refused : {r : Result Unit BuildAccelerationStructureError} (e : BuildAccelerationStructureError) → its r → r ≡ Err e
      → Appends tlases blases tlas i b used (refused (build_cause e)) b
  unfolding append_rule append_bytes
  appends-refused e judged told =
      let n = named_tlas_rule tlases blases tlas i in
      let new = sets b used (instance_bytes i (address_for blases i)) in
      let is : build_cause e ≡ bare n = sym (ap instance_cause told) ∙ judged in
      let out = ap refused is ∙ outcome-refused n (room_rule (length b) used) used (subst (λ (c : Cause). 0 < c.number) is (positive e)) in
      record { answer = out; left = ap (λ (o : Appending). bytes_after o new b) out }

  module _ {r : Result Unit BuildAccelerationStructureError} {x : Unit} (judged : its r) (fine : r ≡ Ok x) where
    no_cause : named_tlas_rule tlases blases tlas i ≡ 0
    no_cause = ap (λ (c : Cause). c.number) (sym judged ∙ ap instance_cause fine)

    -- what was judged fine may be written
    pub named-inside : (i.blas.0 < length blases / 28) × (i.custom_data < 2 ^ 24)
    unfolding named_tlas_rule
    named-inside =
        let t = tlas_of tlases tlas.0 in
        inside-narrow t blases i (else_zero (tlas_mention tlases tlas.0) (named_instance_rule t blases i) no_cause).1

    pub appends_short : length b < used + 64 → Appends tlases blases tlas i b used (refused (bare 39)) b
    unfolding append_rule append_bytes refuse
    appends_short h =
        let t = lt-ltb (length b) (used + 64) h in
        record { answer = rw (no_cause, t); left = rw (no_cause, t) }

    pub appends-done : {p : List ℕ} → used + 64 ≤ length b → p ≡ sets b used (instance_bytes i (address_for blases i))
        → Appends tlases blases tlas i b used (in_use (used + 64)) p
    appends-done h e =
        let w = when_done tlases blases tlas i b used no_cause h in
        record { answer = w.0; left = e ∙ w.1 }
