-- Staging ranges are without gap, 64 bytes per present slot, and the record of each present slot stands where its range and its place say.
use mathlib.Core.Path.{◌≡◌, refl, sym, ap, ◌∙◌}
use mathlib.Core.Bool.{true}
use mathlib.Core.List.{List, ◌++◌}
use Prim.Native.Nat.{ℕ, ◌-◌, zero, suc, ◌+◌, ◌*◌, ◌<◌}
use native.Mathlib.Nat.{zero-add, add-zero, not-suc-le-zero, le_of_suc-le-suc}
use native.Mathlib.Omega.{arith}
use lib.ListN.{length, take, drop, get_or}
use lib.Seq.{take_at, drop_at, take-take}
use borrow.Author.Tests.{eqb-false, not-true}
use Rattle.ray_tracing.specs.Instances.{instance_at, address_for, instance_bytes, slot_bytes, slots_bytes, present_of}
use Rattle.ray_tracing.specs.Plan.{Tables, records_in, slot_count, slot_present, staging_from, plan_of}
use Rattle.ray_tracing.proofs.Inside.{Inside, slots_before, slots-none, slots_more}
use Rattle.ray_tracing.proofs.Instances.{Below, transform_back, from-length, slot-some, slots_length, slots-append, present-append, present_bound}

-- ---- staging ranges

module _ (x : Tables) where
  -- where package p's bytes begin: 64 for each present slot before its own
  abbrev staged_before : ℕ → ℕ
  staged_before p = 64 * present_of x.slots 0 (slots_before x p)

  staged_more : (p : ℕ) → staged_before (p + 1) ≡ staged_before p + 64 * present_of x.slots (slots_before x p) (slot_count x p)
  staged_more p =
      let e = rw zero-add at (present-append x.slots 0 (slots_before x p) (slot_count x p)) in
      rw (slots_more x p, e) (omega arith)

  staged_end :
      (p start s : ℕ)
      → s ≡ slots_before x p
      → start ≡ staged_before p
      → start + 64 * present_of x.slots s (slot_count x p) ≡ staged_before (p + 1)
  staged_end p start s e f =
      ap (λ (m : ℕ). start + 64 * present_of x.slots m (slot_count x p)) e ∙ omega (arith, staged_more p)

  double : (k : ℕ) → 2 * suc k ≡ suc (suc (2 * k))
  double k = omega arith

  double_more : (k : ℕ) → 2 * suc k + 1 ≡ suc (suc (2 * k + 1))
  double_more k = omega arith

  -- the first n packages from package p on
  staging-from :
      (n p start s k : ℕ)
      → s ≡ slots_before x p
      → start ≡ staged_before p
      → k < n
      → (get_or (staging_from x start p s n) (2 * k) 0 ≡ staged_before (p + k)) × (get_or (staging_from x start p s n) (2 * k + 1) 0 ≡ staged_before (p + k + 1))
  unfolding staging_from
  staging-from zero p start s k e f h = absurd (not-suc-le-zero h)
  staging-from (suc n) p start s zero e f h = (
    f ∙ ap staged_before (sym (add-zero p)),
    staged_end p start s e f ∙ ap (λ (q : ℕ). staged_before (q + 1)) (sym (add-zero p)),
  )
  staging-from (suc n) p start s (suc k) e f h =
      let count = slot_count x p in
      let end = start + 64 * present_of x.slots s count in
      let next : s + count ≡ slots_before x (p + 1) = rw e (sym (slots_more x p)) in
      let more = staging-from n (p + 1) end (s + count) k next (staged_end p start s e f) (le_of_suc-le-suc h) in
      let i : p + 1 + k ≡ p + suc k = omega arith in
      let l = staging_from x start p s (suc n) in (
        ap (λ (m : ℕ). get_or l m 0) (double k) ∙ more.0 ∙ ap staged_before i,
        ap (λ (m : ℕ). get_or l m 0) (double_more k) ∙ more.1 ∙ ap (λ (q : ℕ). staged_before (q + 1)) i,
      )

  staging_at :
      (p : ℕ)
      → p < records_in x 7
      → (get_or (plan_of x).staging_ranges (2 * p) 0 ≡ staged_before p) × (get_or (plan_of x).staging_ranges (2 * p + 1) 0 ≡ staged_before (p + 1))
  unfolding plan_of
  staging_at p h =
      let s = slots-none x in
      rw zero-add at (staging-from (records_in x 7) 0 0 0 p (sym s) (rw (s, present_zero) refl) h)
    where
      present_zero : present_of x.slots 0 0 ≡ 0
      present_zero = omega (arith, present_bound x.slots 0 0)

  staging_cells : (n start p s : ℕ) → length (staging_from x start p s n) ≡ 2 * n
  unfolding staging_from
  staging_cells zero start p s = refl
  staging_cells (suc n) start p s = omega (arith, staging_cells n (start + 64 * present_of x.slots s (slot_count x p)) (p + 1) (s + slot_count x p))

  pub staging_length : length (plan_of x).staging_ranges ≡ 2 * records_in x 7
  unfolding plan_of
  staging_length = staging_cells (records_in x 7) 0 0 0

  abbrev staging : ℕ → ℕ
  staging k = get_or (plan_of x).staging_ranges k 0

  -- the first range begins at 0, each at the end of the one before, and it has 64 bytes for each present slot
  pub staging_first : 0 < records_in x 7 → staging 0 ≡ 0
  staging_first h = (staging_at 0 h).0 ∙ rw (slots-none x) (omega (arith, present_bound x.slots 0 0))

  pub staging_gapless : (p : ℕ) → p + 1 < records_in x 7 → staging (2 * (p + 1)) ≡ staging (2 * p + 1)
  staging_gapless p h = (staging_at (p + 1) h).0 ∙ sym (staging_at p (omega arith)).1

  pub staging_size :
      (p : ℕ)
      → p < records_in x 7
      → staging (2 * p + 1) ≡ staging (2 * p) + 64 * present_of x.slots (slots_before x p) (slot_count x p)
  staging_size p h =
      (staging_at p h).1
      ∙ staged_more p
      ∙ ap (λ (n : ℕ). n + 64 * present_of x.slots (slots_before x p) (slot_count x p)) (sym (staging_at p h).0)

-- ---- the instances

module _ (x : Tables) (inside : Inside x) where
  pub staging_all : (p : ℕ) → p + 1 ≡ records_in x 7 → get_or (plan_of x).staging_ranges (2 * p + 1) 0 ≡ 64 * present_of x.slots 0 (records_in x 8)
  staging_all p h =
      (staging_at x p (omega arith)).1
      ∙ ap (λ (q : ℕ). 64 * present_of x.slots 0 (slots_before x q)) h
      ∙ ap (λ (s : ℕ). 64 * present_of x.slots 0 s) inside.slots-all

  pub instances-all : length (plan_of x).instances ≡ 64 * present_of x.slots 0 (records_in x 8)
  unfolding plan_of
  instances-all = slots_length x.blases x.slots 0 (records_in x 8)

  -- the k-th slot of package p, if it is present: as many bytes past its range's start as the present slots before it take
  module _ (p k : ℕ) (h : p < records_in x 7) (l : k < slot_count x p) (here : slot_present x.slots (slots_before x p + k) ≡ true) where
    abbrev slot : ℕ
    slot = slots_before x p + k

    abbrev record_of : List ℕ
    record_of = instance_bytes (instance_at x.slots (slot * 56)) (address_for x.blases (instance_at x.slots (slot * 56)))

    abbrev place : ℕ
    place = get_or (plan_of x).staging_ranges (2 * p) 0 + 64 * present_of x.slots (slots_before x p) k

    within : slot < records_in x 8
    within = omega (arith, inside.slots p h)

    place_is : length (slots_bytes x.blases x.slots 0 slot) ≡ place
    place_is =
        slots_length x.blases x.slots 0 slot
        ∙ omega (arith, rw zero-add at (present-append x.slots 0 (slots_before x p) k), (staging_at x p h).0)

    one-slot : slots_bytes x.blases x.slots slot 1 ≡ record_of
    unfolding slots_bytes
    one-slot =
        ap (λ (s : ℕ). slot_bytes x.blases x.slots (s * 56)) (add-zero slot)
        ∙ slot-some x.slots (slot * 56) x.blases (eqb-false _ 0 (not-true _ here))

    cut : slots_bytes x.blases x.slots 0 (records_in x 8) ≡ slots_bytes x.blases x.slots 0 slot ++ (record_of ++ slots_bytes x.blases x.slots (slot + 1) (records_in x 8 - (slot + 1)))
    cut =
        let rest = records_in x 8 - (slot + 1) in
        let e : records_in x 8 ≡ slot + (1 + rest) = omega (arith, within) in
        let a = slots_bytes x.blases x.slots 0 slot in
        ap (slots_bytes x.blases x.slots 0) e
        ∙ slots-append x.blases x.slots 0 slot (1 + rest)
        ∙ ap (λ (s : ℕ). a ++ slots_bytes x.blases x.slots s (1 + rest)) (zero-add slot)
        ∙ ap (λ (t : List ℕ). a ++ t) (slots-append x.blases x.slots slot 1 rest)
        ∙ ap (λ (t : List ℕ). a ++ (t ++ slots_bytes x.blases x.slots (slot + 1) rest)) one-slot

    pub slot_placed : take 64 (drop place (plan_of x).instances) ≡ record_of
    unfolding plan_of
    slot_placed =
        let a = slots_bytes x.blases x.slots 0 slot in
        let b = slots_bytes x.blases x.slots (slot + 1) (records_in x 8 - (slot + 1)) in
        ap (λ (t : List ℕ). take 64 (drop place t)) cut
        ∙ ap (take 64) (drop_at a (record_of ++ b) place place_is)
        ∙ take_at record_of b 64 (from-length x.slots (slot * 56 + 1) _)

    -- its first 48 bytes are the slot's own
    pub slot-transform : Below x.slots → take 48 (drop place (plan_of x).instances) ≡ take 48 (drop (slot * 56 + 8) x.slots)
    slot-transform b =
        let e : slot * 56 + 1 + 7 ≡ slot * 56 + 8 = omega arith in
        sym (take-take 48 64 (drop place (plan_of x).instances) (omega arith))
        ∙ ap (take 48) slot_placed
        ∙ transform_back x.slots (slot * 56 + 1) _ b (omega (arith, within))
        ∙ ap (λ (q : ℕ). take 48 (drop q x.slots)) e
