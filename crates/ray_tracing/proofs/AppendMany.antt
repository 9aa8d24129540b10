-- Laws of appending. A call for one is accepted where it is judged fine and there is room. A call for many is one call after another; else
-- the first bad one decides, and nothing is written.
use Prim.Native.Nat.{ℕ, zero, suc, ◌+◌, ◌*◌, ◌/◌, ◌%◌, ◌^◌, ◌≤◌, ◌<◌}
use native.Mathlib.Nat.{zero-add}
use native.Mathlib.Omega.{arith}
use mathlib.Core.Path.{◌≡◌, refl, sym, ap, ◌∙◌}
use mathlib.Core.Bool.{Bool, true, false}
use mathlib.Core.List.{List, [], ◌++◌}
use lib.Dec.{ltb}
use lib.ListN.{length, take, drop}
use lib.Seq.{sets, length-sets}
use borrow.Author.Tests.{le-ltb, ltb-false, eq-eqb}
use Rattle.wire.proofs.Laws.{sets-append}
use Rattle.ray_tracing.specs.declared.TlasId.{TlasId}
use Rattle.ray_tracing.specs.declared.TlasInstance.{TlasInstance}
use Rattle.ray_tracing.specs.Guard.{refuse, neb}
use Rattle.ray_tracing.specs.Layout.{size}
use Rattle.ray_tracing.specs.Causes.{Cause, bare}
use Rattle.ray_tracing.specs.Mentions.{◌else◌, tlas_mention, tlas_of}
use Rattle.ray_tracing.specs.Instances.{
  instance_bytes,
  address_for,
  named_instance_rule,
  named_tlas_rule,
  room_rule,
  Appending,
  in_use,
  refused,
  outcome,
  append_rule,
  bytes_after,
  append_bytes,
  Appends,
}
use Rattle.ray_tracing.specs.Plan as plan
use Rattle.ray_tracing.specs.Plan.{Verdict, passed, on, ◌or◌, at_e, first_of}
use Rattle.ray_tracing.specs.AppendMany.{
  lent_size,
  lent_count,
  lent_instance,
  many_bytes,
  judge_instance,
  judge_many,
  AppendingMany,
  all_in_use,
  none_appended,
  many_outcome,
  append_many_rule,
  many_after,
  append_many_bytes,
  AppendsMany,
  Called,
  call_next,
  one_by_one,
}
use Rattle.ray_tracing.proofs.Mentions.{else_rest, else_zero}
use Rattle.ray_tracing.proofs.Verdicts.{or-passed, on-passed, none-at_e, each-passed, all-passed, first-refused}
use Rattle.ray_tracing.proofs.Instances.{from-length, inside-narrow}
use Rattle.ray_tracing.proofs.EndToEnd.{joined_length, joined_at, joined-are}

-- ---- a call for one

outcome_zero : (k used m : ℕ) → in_use m ≡ outcome k used → k ≡ 0
outcome_zero zero used m e = refl
outcome_zero (suc k) used m e = let z : ◌≡◌ {A = ℕ} 0 1 = cc in absurd (omega arith)

room_zero : (room used : ℕ) → room_rule room used ≡ 0 → used + 64 ≤ room
unfolding refuse
room_zero room used e = ltb-false room (used + 64) (go (ltb room (used + 64)) e)
  where
    go : (t : Bool) → ◌≡◌ {A = ℕ} (refuse t 39 0) 0 → t ≡ false
    go false e = refl
    go true e = let z : ◌≡◌ {A = ℕ} 39 0 = e in absurd (omega arith)

module _ (tlases blases : List ℕ) (tlas : TlasId) (i : TlasInstance) where
  pub accepted_alone :
      (room used : ℕ) {m : ℕ}
      → in_use m ≡ append_rule tlases blases tlas i room used
      → (named_tlas_rule tlases blases tlas i ≡ 0) × (used + 64 ≤ room)
  unfolding append_rule
  accepted_alone room used {m} e =
      let both = else_zero (named_tlas_rule tlases blases tlas i) (room_rule room used) (outcome_zero _ used m e) in
      (both.0, room_zero room used both.1)

  -- with room, a refusal is what is judged of it
  refused_alone :
      (room used : ℕ) {c : Cause}
      → used + 64 ≤ room
      → refused c ≡ append_rule tlases blases tlas i room used
      → (c ≡ bare (named_tlas_rule tlases blases tlas i)) × (0 < named_tlas_rule tlases blases tlas i)
  unfolding append_rule refuse
  refused_alone room used {c} h e =
      go (named_tlas_rule tlases blases tlas i) (ap (λ (t : Bool). outcome (named_tlas_rule tlases blases tlas i else refuse t 39 0) used) (le-ltb room (used + 64) h)) e
    where
      go : (n : ℕ) {o : Appending} → o ≡ outcome (n else 0) used → refused c ≡ o → (c ≡ bare n) × (0 < n)
      go zero p e = let z : ◌≡◌ {A = ℕ} 0 1 = cc in absurd (omega arith)
      go (suc n) p e = (cc, omega arith)

  pub when_done :
      (b : List ℕ) (used : ℕ)
      → named_tlas_rule tlases blases tlas i ≡ 0
      → used + 64 ≤ length b
      → (in_use (used + 64) ≡ append_rule tlases blases tlas i (length b) used)
      × (sets b used (instance_bytes i (address_for blases i)) ≡ append_bytes tlases blases tlas i b used)
  unfolding append_rule append_bytes refuse
  when_done b used fine h =
      let t = le-ltb (length b) (used + 64) h in
      (rw (fine, t), rw (fine, t))

-- what it was judged for, and what it wrote
module _ (tlases blases : List ℕ) (tlas : TlasId) (i : TlasInstance) (b : List ℕ) (used : ℕ) {m : ℕ} {p : List ℕ} (call : Appends tlases blases tlas i b used (in_use m) p) where
  pub alone_inside : (i.blas.0 < length blases / size 2) × (i.custom_data < 2 ^ 24)
  unfolding named_tlas_rule
  alone_inside =
      inside-narrow (tlas_of tlases tlas.0) blases i
      (else_zero (tlas_mention tlases tlas.0) _ (accepted_alone tlases blases tlas i (length b) used call.answer).0).1

  pub alone_wrote : p ≡ sets b used (instance_bytes i (address_for blases i))
  unfolding append_bytes
  alone_wrote = call.left ∙ ap (λ (a : Appending). bytes_after a (sets b used (instance_bytes i (address_for blases i))) b) (sym call.answer)

-- ---- what is judged of many

module _ (tlases blases : List ℕ) (tlas : TlasId) (items : List ℕ) where
  abbrev named : ℕ → ℕ
  named k = named_instance_rule (tlas_of tlases tlas.0) blases (lent_instance items k)

  abbrev alone : ℕ → ℕ
  alone k = named_tlas_rule tlases blases tlas (lent_instance items k)

  -- what judging shows where it refuses nothing
  pub record Fine (room used : ℕ) : Type 0 where
    pub mentioned : tlas_mention tlases tlas.0 ≡ 0
    pub each : (k : ℕ) → k < lent_count items → named k ≡ 0
    pub whole : neb (length items % lent_size) 0 ≡ false
    pub fits : used + 64 * lent_count items ≤ room

  module _ (room used : ℕ) where
    pub judged_fine : judge_many tlases blases tlas items room used ≡ passed → Fine room used
    unfolding judge_many
    judged_fine e =
        let one = or-passed _ _ e in
        let two = or-passed _ _ one.1 in
        let three = or-passed _ _ two.1 in
        record {
          mentioned = none-at_e 0 0 _ one.0;
          each = λ k h. none-at_e _ _ _ (rw zero-add at (each-passed (judge_instance tlases blases tlas items) (lent_count items) 0 two.0 k h));
          whole = on-passed _ 0 _ (bare 5) three.0;
          fits = ltb-false _ _ (on-passed _ 0 0 (bare 39) three.1);
        }

    judged_so : Fine room used → judge_many tlases blases tlas items room used ≡ passed
    unfolding judge_many
    judged_so x =
        let each : first_of (judge_instance tlases blases tlas items) 0 (lent_count items) ≡ passed =
        all-passed (judge_instance tlases blases tlas items) (lent_count items) 0 (λ k h. rw zero-add (ap (at_e _ _) (x.each k h))) in
        rw (x.mentioned, each, x.whole, le-ltb room (used + 64 * lent_count items) x.fits)

    fine-alone : Fine room used → (k : ℕ) → k < lent_count items → alone k ≡ 0
    unfolding named_tlas_rule
    fine-alone x k h = sym (else_rest _ _ x.mentioned) ∙ x.each k h

  -- the Tlas and the k-th
  alone_both : (k : ℕ) → alone k ≡ 0 → (tlas_mention tlases tlas.0 ≡ 0) × (named k ≡ 0)
  unfolding named_tlas_rule
  alone_both k e = else_zero (tlas_mention tlases tlas.0) (named k) e

  -- what the first bad one would give alone, at 0 and its position
  bad_found :
      (room used k : ℕ)
      → k < lent_count items
      → ((j : ℕ) → j < k → alone j ≡ 0)
      → 0 < alone k
      → judge_many tlases blases tlas items room used ≡ plan.refused 0 k (bare (alone k))
  unfolding judge_many named_tlas_rule
  bad_found room used k l before bad = go (tlas_mention tlases tlas.0) refl
    where
      rest : Verdict
      rest =
          on (neb (length items % lent_size) 0) (plan.refused 0 (lent_count items) (bare 5))
          or on (ltb room (used + 64 * lent_count items)) (plan.refused 0 0 (bare 39))

      at-k : (n : ℕ) → named k ≡ n → 0 < n → judge_instance tlases blases tlas items k ≡ plan.refused 0 k (bare n)
      at-k zero e h = absurd (omega arith)
      at-k (suc n) e h = ap (at_e 0 k) e

      go : (t : ℕ) → tlas_mention tlases tlas.0 ≡ t → judge_many tlases blases tlas items room used ≡ plan.refused 0 k (bare (alone k))
      go zero e =
          let same : named k ≡ alone k = else_rest _ _ e in
          let found : first_of (judge_instance tlases blases tlas items) 0 (lent_count items) ≡ plan.refused 0 k (bare (alone k)) =
          first-refused (judge_instance tlases blases tlas items) 0 k (bare (alone k)) (lent_count items) 0 k l
          (λ j h. rw zero-add (ap (at_e _ _) (alone_both j (before j h)).1))
          (rw zero-add (at-k (alone k) same bad)) in
          ap (λ (m : ℕ). at_e 0 0 m or first_of (judge_instance tlases blases tlas items) 0 (lent_count items) or rest) e
          ∙ ap (λ (v : Verdict). v or rest) found
      go (suc t) e = first k before
        where
          first : (k : ℕ) → ((j : ℕ) → j < k → alone j ≡ 0) → judge_many tlases blases tlas items room used ≡ plan.refused 0 k (bare (alone k))
          first zero h = rw e
          first (suc k) h =
              let none = (alone_both 0 (h 0 (omega arith))).0 in
              absurd (omega arith)

-- ---- one call after another

module _ (blases items : List ℕ) where
  -- the k-th's
  abbrev one-bytes : ℕ → List ℕ
  one-bytes k = instance_bytes (lent_instance items k) (address_for blases (lent_instance items k))

  many_none : many_bytes blases items 0 ≡ []
  unfolding many_bytes
  many_none = refl

  many_more : (n : ℕ) → many_bytes blases items (suc n) ≡ many_bytes blases items n ++ one-bytes n
  unfolding many_bytes
  many_more n = refl

  one-length : (k : ℕ) → length (one-bytes k) ≡ 64
  one-length k = from-length items (k * lent_size) (address_for blases (lent_instance items k))

  pub many_length : (n : ℕ) → length (many_bytes blases items n) ≡ 64 * n
  many_length = joined_length 64 one-bytes (many_bytes blases items) many_none many_more one-length

  -- where each stands
  pub many_at : (n k : ℕ) → k < n → take 64 (drop (64 * k) (many_bytes blases items n)) ≡ one-bytes k
  many_at = joined_at 64 one-bytes (many_bytes blases items) many_none many_more one-length

  -- if each is a record of a list
  pub many_are : (s : List ℕ) (n : ℕ) → ((k : ℕ) → k < n → one-bytes k ≡ take 64 (drop (64 * k) s)) → many_bytes blases items n ≡ take (64 * n) s
  many_are = joined-are 64 one-bytes (many_bytes blases items) many_none many_more one-length

module _ (tlases blases : List ℕ) (tlas : TlasId) (items b : List ℕ) (used : ℕ) where
  one-by-one :
      (n : ℕ)
      → ((k : ℕ) → k < n → named_tlas_rule tlases blases tlas (lent_instance items k) ≡ 0)
      → used + 64 * n ≤ length b
      → one_by_one tlases blases tlas items b used n
      ≡ record { answer = in_use (used + 64 * n); bytes = sets b used (many_bytes blases items n) }
  unfolding one_by_one many_bytes
  one-by-one zero fine h =
      let e : used ≡ used + 64 * 0 = omega arith in
      λ j. record { answer = in_use (e j); bytes = b }
  one-by-one (suc n) fine h =
      let i = lent_instance items n in
      let old = many_bytes blases items n in
      let new = instance_bytes i (address_for blases i) in
      let long : length old ≡ 64 * n = many_length blases items n in
      let before = one-by-one n (λ k l. fine k (omega arith)) (omega arith) in
      let done = when_done tlases blases tlas i (sets b used old) (used + 64 * n) (fine n (omega arith)) (omega (arith, length-sets b used old)) in
      let end : used + 64 * n + 64 ≡ used + 64 * suc n = omega arith in
      let place : used + 64 * n ≡ used + length old = omega arith in
      let joined : sets (sets b used old) (used + 64 * n) new ≡ sets b used (old ++ new) =
      ap (λ (at : ℕ). sets (sets b used old) at new) place ∙ sets-append old new b used in
      ap (λ (c : Called). call_next tlases blases tlas i c.answer c.bytes) before
      ∙ (λ j. record { answer = (sym done.0 ∙ ap in_use end) j; bytes = (sym done.1 ∙ joined) j })

-- ---- of calls

all-used : (j : Verdict) (n v : ℕ) → all_in_use v ≡ many_outcome j n → (j ≡ passed) × (v ≡ n)
all-used passed n v e = (refl, cc)
all-used (plan.refused e f c) n v h = let z : ◌≡◌ {A = ℕ} 0 1 = cc in absurd (omega arith)

-- an answer for one, of many
abbrev pub told : Appending → AppendingMany
told (in_use n) = all_in_use n
told (refused c) = none_appended 0 0 c

module _
    (tlases blases : List ℕ)
    (tlas : TlasId)
    (items b : List ℕ)
    (used : ℕ)
    {a : AppendingMany}
    {p : List ℕ}
    (call : AppendsMany tlases blases tlas items b used a p)
  where
    left_by : (r : AppendingMany) → a ≡ r → p ≡ many_after r (sets b used (many_bytes blases items (lent_count items))) b
    unfolding append_many_bytes
    left_by r e =
        call.left
        ∙ ap (λ (r : AppendingMany). many_after r (sets b used (many_bytes blases items (lent_count items))) b) (sym call.answer ∙ e)

    -- "and writes nothing"
    pub refused-leaves : {e f : ℕ} {c : Cause} → a ≡ none_appended e f c → p ≡ b
    refused-leaves {e} {f} {c} h = left_by (none_appended e f c) h

    -- what is not refused was judged fine, and wrote
    pub accepted-wrote :
        {v : ℕ}
        → a ≡ all_in_use v
        → Fine tlases blases tlas items (length b) used
        × (v ≡ used + 64 * lent_count items)
        × (p ≡ sets b used (many_bytes blases items (lent_count items)))
    unfolding append_many_rule
    accepted-wrote {v} h =
        let judged = all-used (judge_many tlases blases tlas items (length b) used) (used + 64 * lent_count items) v (sym h ∙ call.answer) in
        (judged_fine tlases blases tlas items (length b) used judged.0, judged.1, left_by (all_in_use v) h)

    -- it is one call after another
    pub as-one-by-one :
        {v : ℕ}
        → a ≡ all_in_use v
        → one_by_one tlases blases tlas items b used (lent_count items) ≡ record { answer = in_use v; bytes = p }
    as-one-by-one {v} h =
        let done = accepted-wrote h in
        let fine = done.0 in
        one-by-one tlases blases tlas items b used (lent_count items) (fine-alone tlases blases tlas items (length b) used fine) fine.fits
        ∙ (λ j. record { answer = in_use (sym done.1 j); bytes = sym done.2 j })

    -- a call for one, lent any bytes that have room for it
    module _ (room taken : ℕ) (has : taken + 64 ≤ room) where
      abbrev by_itself : ℕ → Appending
      by_itself k = append_rule tlases blases tlas (lent_instance items k) room taken

      -- "With room for all, where each would be accepted alone": it is accepted
      pub accepted-all :
          0 < lent_count items
          → length items % lent_size ≡ 0
          → used + 64 * lent_count items ≤ length b
          → ((k : ℕ) → k < lent_count items → in_use (taken + 64) ≡ by_itself k)
          → a ≡ all_in_use (used + 64 * lent_count items)
      unfolding append_many_rule
      accepted-all some whole fits each =
          let both : (k : ℕ) → k < lent_count items → (tlas_mention tlases tlas.0 ≡ 0) × (named tlases blases tlas items k ≡ 0) =
          λ k h. alone_both tlases blases tlas items k (accepted_alone tlases blases tlas (lent_instance items k) room taken (each k h)).0 in
          let fine : Fine tlases blases tlas items (length b) used = record {
            mentioned = (both 0 some).0;
            each = λ k h. (both k h).1;
            whole = rw (eq-eqb (length items % lent_size) 0 whole);
            fits = fits;
          } in
          call.answer ∙ ap (λ (v : Verdict). many_outcome v (used + 64 * lent_count items)) (judged_so tlases blases tlas items (length b) used fine)

      -- "otherwise it gives the refusal that the first bad one would give alone, E being 0 and its position"
      pub first-bad :
          {c : Cause} (k : ℕ)
          → k < lent_count items
          → ((j : ℕ) → j < k → in_use (taken + 64) ≡ by_itself j)
          → refused c ≡ by_itself k
          → a ≡ none_appended 0 k c
      unfolding append_many_rule
      first-bad {c} k l before bad =
          let one = refused_alone tlases blases tlas (lent_instance items k) room taken has bad in
          call.answer
          ∙ ap (λ (v : Verdict). many_outcome v (used + 64 * lent_count items))
          (bad_found tlases blases tlas items (length b) used k l
          (λ j h. (accepted_alone tlases blases tlas (lent_instance items j) room taken (before j h)).0)
          one.1)
          ∙ ap (none_appended 0 k) (sym one.0)

    -- one is a call for one
    pub one-alone :
        length items ≡ lent_size
        → (a ≡ told (append_rule tlases blases tlas (lent_instance items 0) (length b) used))
        × (p ≡ append_bytes tlases blases tlas (lent_instance items 0) b used)
    unfolding append_many_rule judge_many first_of refuse append_rule named_tlas_rule append_bytes many_bytes
    one-alone e =
        let rule = append_rule tlases blases tlas (lent_instance items 0) (length b) used in
        let answer : a ≡ told rule = call.answer ∙ ap of_length e ∙ split (tlas_mention tlases tlas.0) (named tlases blases tlas items 0) (ltb (length b) (used + 64)) in
        (answer, left_by (told rule) answer ∙ ap (λ (n : ℕ). many_after (told rule) (sets b used (many_bytes blases items (n / lent_size))) b) e ∙ after rule)
      where
        of_length : ℕ → AppendingMany
        of_length n =
            many_outcome
            (at_e 0 0 (tlas_mention tlases tlas.0)
            or first_of (judge_instance tlases blases tlas items) 0 (n / lent_size)
            or on (neb (n % lent_size) 0) (plan.refused 0 (n / lent_size) (bare 5))
            or on (ltb (length b) (used + 64 * (n / lent_size))) (plan.refused 0 0 (bare 39)))
            (used + 64 * (n / lent_size))

        split :
            (m n : ℕ) (t : Bool)
            → many_outcome (at_e 0 0 m or (at_e 0 0 n or passed) or passed or on t (plan.refused 0 0 (bare 39))) (used + 64)
            ≡ told (outcome ((m else n) else refuse t 39 0) used)
        split (suc m) n t = refl
        split zero (suc n) t = refl
        split zero zero true = refl
        split zero zero false = refl

        after :
            (r : Appending)
            → many_after (told r) (sets b used (many_bytes blases items 1)) b
            ≡ bytes_after r (sets b used (instance_bytes (lent_instance items 0) (address_for blases (lent_instance items 0)))) b
        after (in_use n) = refl
        after (refused c) = refl
