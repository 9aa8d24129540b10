-- Laws of what is written piece by piece: the next piece, what an entry adds, and where nothing is left.
use mathlib.Core.Path.{◌≡◌, sym, ap, ◌∙◌}
use mathlib.Core.List.{List, [], ◌∷◌}
use Prim.Native.Nat.{ℕ, ◌+◌, ◌-◌, ◌*◌, ◌/◌, ◌%◌, ◌^◌, ◌≤◌, ◌<◌}
use native.Mathlib.Omega.{arith}
use native.Mathlib.Numerals.{add-one}
use lib.ListN.{set}
use lib.Seq.{sets}
use borrow.Author.Tests.{eq-eqb, ne_eqb}
use Rattle.std.specs.Prelude.{Some}
use Rattle.ray_tracing.specs.declared.Blas.{Blas}
use Rattle.scratch.specs.Scratch.{reported, add_rounded}
use Rattle.scratch.proofs.Laws.{up_to}
use Rattle.ray_tracing.specs.Plan.{Tables, entry_of, slot_count, blas_of_entry, total_from, staging_from, compactable_from}
use Rattle.ray_tracing.proofs.Stretches.{total-none, total-step, total_upto}
use Rattle.ray_tracing.specs.Instances.{present_of}
use Rattle.ray_tracing.proofs.Inside.{slots-none}
use Rattle.build_ranges.proofs.Appending.{Next, starts, room, turn, done, counted}
use Rattle.build_plan.specs.Parts.{compactable_of}
use Rattle.ray_tracing.proofs.Plan.{left_more, left-none, offsets_length, offset_step, offset_done, staging_length}

-- ---- offsets: no total passes 2^64 - 1

pub sum_reported :
    (f : ℕ → ℕ) (a n i total : ℕ)
    → total ≡ total_from f a 0 0 i
    → i < n
    → total_from f a 0 0 n < 2 ^ 64 - 1
    → reported (add_rounded total (f i) a) ≡ Some (add_rounded total (f i) a)
sum_reported f a n i total t h b =
    sym (up_to (2 ^ 64 - 1) _ (omega (arith, total-step f a i t, total_upto f a (i + 1) n (omega arith), b)))

pub ruleset offsets = (sum_reported, total-none, total-step, offsets_length, offset_step, offset_done)

-- ---- staging ranges

module _ (x : Tables) where
  pub staging_more :
      {end count : ℕ} (start p s n : ℕ)
      → p < n
      → count ≡ slot_count x p
      → end ≡ start + 64 * present_of x.slots s count
      → Next (staging_from x start p s (n - p)) (start ∷ end ∷ []) (staging_from x end (p + 1) (s + count) (n - (p + 1)))
  unfolding staging_from
  staging_more start p s n h e f = record { cut = rw (left_more p n h, f, e) }

  pub staging_none : (start p s n : ℕ) → n ≤ p → staging_from x start p s (n - p) ≡ []
  unfolding staging_from
  staging_none start p s n h = rw (left-none p n h)

-- ---- the compactable list

module _ (x : Tables) where
  module _ (i : ℕ) {b : Blas} (e : b ≡ blas_of_entry x i) where
    pub compactable-some : b.flags / 4 % 2 ≡ 1 → compactable_of x i ≡ (entry_of x i).blas.0 ∷ []
    compactable-some h = rw (eq-eqb _ 1 (sym (ap (λ (b : Blas). b.flags / 4 % 2) e) ∙ h))

    pub compactable-not : (b.flags / 4 % 2 ≡ 1 → ⊥) → compactable_of x i ≡ []
    compactable-not h = rw (ne_eqb _ 1 (λ k. h (ap (λ (b : Blas). b.flags / 4 % 2) e ∙ k)))

  pub compactable_more :
      (i n : ℕ) → i < n → Next (compactable_from x i (n - i)) (compactable_of x i) (compactable_from x (i + 1) (n - (i + 1)))
  unfolding compactable_from
  compactable_more i n h = record { cut = rw (left_more i n h) }

  pub compactable-none : (i n : ℕ) → n ≤ i → compactable_from x i (n - i) ≡ []
  unfolding compactable_from
  compactable-none i n h = rw (left-none i n h)

pub pair_stored : (out : List ℕ) (at a b : ℕ) → set (set out at a) (at + 1) b ≡ sets out at (a ∷ b ∷ [])
pair_stored out at a b = rw add-one

-- what closes the goals of the loops
pub ruleset staging = (starts, done, slots-none, staging_length, staging_none)

pub ruleset listing = (room, starts, turn, done, counted, compactable_more, compactable-none)
