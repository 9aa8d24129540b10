-- What each part of judging shows for the next, and how the scratch and the final checks end it.
use Rattle.std.proofs.Common.{ℕ, ◌≡◌, ◌∙◌, sym, cond, arith}
use lib.Dec.{eqb}
use borrow.Author.Tests.{eq-eqb, ne_eqb}
use Rattle.ray_tracing.specs.Causes.{Cause}
use Rattle.ray_tracing.specs.Plan.{Tables, passed, refused, scratch_size, judge_scratch, judge_states, judge_final}
use Rattle.ray_tracing.proofs.Verdicts.{refused_not_passed}
use Rattle.ray_tracing.proofs.Running.{refused-size}
use Rattle.ray_tracing.proofs.Inside.{Inside, inside}
use Rattle.build_packages.specs.Within.{PackagesInside}
use Rattle.build_final.specs.Sized.{sized, reached, scratch_of}
use Rattle.build_final.proofs.Shared.{told-reached, told-sized}
use Rattle.build_judge.specs.Judging.{to_refuse, to_record_nothing, to_record, judged_unless, judge_to_packages, judge_build}
use Rattle.build_judge.proofs.Answer.{records_passed}

module _ (x : Tables) where
  pub packages-inside : Inside x → PackagesInside x
  packages-inside h =
      record { few = h.most 8 (omega arith) (omega arith); tlas = h.package_tlas; drawn = h.slots; blas = h.slot-blas }

  module _ (h : passed ≡ judge_to_packages x) where
    pub records_inside : Inside x
    records_inside = let p = records_passed x (sym h) in inside x p.tables p.ids

    -- 37 has its place after the zero test: where it is drawn the size is not 0
    pub build_reached : {e f : ℕ} {c : Cause} → reached e f c ≡ scratch_of x → to_refuse e f c ≡ judge_build x
    unfolding judge_build judge_final
    build_reached {e} {f} {c} q =
        let t = told-reached (judge_scratch x) (scratch_size x) e f c (sym q) in
        let some = refused-size x (λ r. refused_not_passed e f c (sym t ∙ r)) in
        rw (← h, ne_eqb (scratch_size x) 0 (λ z. omega (arith, some, z)), t)

    -- else the size decides, and the final checks
    module _ {n : ℕ} (s : sized n ≡ scratch_of x) where
      by_size : cond (eqb n 0) to_record_nothing (judged_unless (judge_states x) (to_record n)) ≡ judge_build x
      unfolding judge_build judge_final
      by_size =
          let t = told-sized (judge_scratch x) (scratch_size x) n s in
          rw (← h, t.0, ← t.1)

      pub build_nothing : n ≡ 0 → to_record_nothing ≡ judge_build x
      build_nothing z = rw (eq-eqb n 0 z) at by_size

      module _ (z : n ≡ 0 → ⊥) where
        pub build_final : {e f : ℕ} {c : Cause} → refused e f c ≡ judge_states x → to_refuse e f c ≡ judge_build x
        build_final r = rw (ne_eqb n 0 z, ← r) at by_size

        pub build_recorded : passed ≡ judge_states x → to_record n ≡ judge_build x
        build_recorded r = rw (ne_eqb n 0 z, ← r) at by_size

-- what closes the ends of judging
pub ruleset ends = (build_reached, build_nothing, build_final, build_recorded)
