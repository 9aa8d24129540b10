-- Laws of what a recorded build writes: how many elements each list takes, and one offset more, as a loop counts.
use mathlib.Core.Path.{◌≡◌, refl, sym, ap, ◌∙◌}
use mathlib.Core.Bool.{Bool, true, false, cond}
use mathlib.Core.List.{List, [], ◌∷◌, ◌++◌}
use Prim.Native.Nat.{ℕ, zero, suc, ◌+◌, ◌-◌, ◌*◌, ◌≤◌, ◌<◌}
use native.Mathlib.Nat.{zero-add, add-zero}
use native.Mathlib.Numerals.{add-one, one-add}
use native.Mathlib.Omega.{arith}
use lib.ListN.{length, set, length-append}
use lib.Seq.{sets}
use Rattle.scratch.specs.Scratch.{add_rounded}
use Rattle.ray_tracing.specs.Instances.{present_of}
use Rattle.ray_tracing.specs.Plan.{Tables, package_of, slot_count, slot_present, slot_blas, offsets_from, staging_from, entry_blases, dependencies_from, package_lists}
use Rattle.ray_tracing.proofs.Inside.{slots_before, slots_more}
use Rattle.ray_tracing.proofs.Instances.{present-append}

-- ---- what is left of n from i on

pub left_more : (i n : ℕ) → i < n → n - i ≡ suc (n - (i + 1))
left_more i n h = omega arith

pub left-none : (i n : ℕ) → n ≤ i → n - i ≡ 0
left-none i n h = omega arith

-- ---- offsets

module _ (size_of : ℕ → ℕ) (alignment : ℕ) where
  pub offsets_length : (total i n : ℕ) → length (offsets_from size_of alignment total i n) ≡ n
  unfolding offsets_from
  offsets_length total i zero = refl
  offsets_length total i (suc n) = ap suc (offsets_length (add_rounded total (size_of i) alignment) (i + 1) n)

  pub offset_step :
      {next : ℕ} (out : List ℕ) (total i n : ℕ)
      → i < n
      → next ≡ add_rounded total (size_of i) alignment
      → sets (set out i total) (i + 1) (offsets_from size_of alignment next (i + 1) (n - (i + 1)))
      ≡ sets out i (offsets_from size_of alignment total i (n - i))
  unfolding offsets_from
  offset_step out total i n h e = rw (left_more i n h, add-one, e)

  pub offset_done : (out : List ℕ) (total i n : ℕ) → n ≤ i → sets out i (offsets_from size_of alignment total i (n - i)) ≡ out
  unfolding offsets_from
  offset_done out total i n h = rw (left-none i n h)

-- ---- how many cells the other lists take

module _ (x : Tables) where
  pub staging_length : (start p s n : ℕ) → length (staging_from x start p s n) ≡ 2 * n
  unfolding staging_from
  staging_length start p s zero = refl
  staging_length start p s (suc n) =
      omega (arith, staging_length (start + 64 * present_of x.slots s (slot_count x p)) (p + 1) (s + slot_count x p) n)

  pub blases-length : (i n : ℕ) → length (entry_blases x i n) ≡ n
  unfolding entry_blases
  blases-length i zero = refl
  blases-length i (suc n) = ap suc (blases-length (i + 1) n)

module _ (slots : List ℕ) where
  pub present_zero : (s : ℕ) → present_of slots s 0 ≡ 0
  unfolding present_of
  present_zero s = refl

  present-one : (s : ℕ) → present_of slots s 1 ≡ cond (slot_present slots s) 1 0
  unfolding present_of
  present-one s = simp (zero-add, add-zero)

  dependency_length : (b : Bool) (v : ℕ) → length (cond b (v ∷ []) []) ≡ cond b 1 0
  dependency_length true v = refl
  dependency_length false v = refl

  -- one for each present slot
  pub dependencies-length : (s n : ℕ) → length (dependencies_from slots s n) ≡ present_of slots s n
  unfolding dependencies_from
  dependencies-length s zero = sym (present_zero s)
  dependencies-length s (suc n) =
      length-append (cond (slot_present slots s) (slot_blas slots s ∷ []) []) (dependencies_from slots (s + 1) n)
      ∙ omega (
        arith,
        dependency_length (slot_present slots s) (slot_blas slots s),
        dependencies-length (s + 1) n,
        present-one s,
        present-append slots s 1 n,
        ap (present_of slots s) (one-add n),
      )

length_plus : (xs ys : List ℕ) (k : ℕ) → length (xs ++ ys) + k ≡ length xs + length ys + k
length_plus xs ys k = ap (λ (n : ℕ). n + k) (length-append xs ys)

module _ (x : Tables) where
  -- two cells for each package, and one for each present slot
  pub packages-length :
      (p s n : ℕ)
      → s ≡ slots_before x p
      → length (package_lists x p s n) + present_of x.slots 0 s ≡ 2 * n + present_of x.slots 0 (slots_before x (p + n))
  unfolding package_lists
  packages-length p s zero e = rw (add-zero p, ← e) (omega arith)
  packages-length p s (suc n) e =
      let count = slot_count x p in
      let next : s + count ≡ slots_before x (p + 1) = rw e (sym (slots_more x p)) in
      let after : p + 1 + n ≡ p + suc n = omega arith in
      let more = rw after at (packages-length (p + 1) (s + count) n next) in
      let here = rw zero-add at (present-append x.slots 0 s count) in
      let list = (package_of x p).tlas.0 ∷ present_of x.slots s count ∷ dependencies_from x.slots s count in
      length_plus list (package_lists x (p + 1) (s + count) n) (present_of x.slots 0 s)
      ∙ omega (arith, more, here, dependencies-length x.slots s count)
