-- Tables that passed judging: their plan is what is written from the sections that it looks at, and all that writing it asks holds.
use mathlib.Core.Path.{◌≡◌, refl, sym, ap}
use mathlib.Core.Bool.{Bool, true, false, cond}
use mathlib.Core.List.{List, [], ◌∷◌, ◌++◌}
use Prim.Native.Nat.{ℕ, zero, suc, ◌+◌, ◌-◌, ◌*◌, ◌/◌, ◌%◌, ◌≤◌, ◌<◌}
use native.Mathlib.Nat.{zero-add, add-zero, not-suc-le-zero}
use native.Mathlib.Numerals.{add-one}
use native.Mathlib.Omega.{arith}
use lib.Dec.{eqb, ltb}
use lib.ListN.{get_or}
use borrow.Author.Tests.{ne_eqb, ltb-true, ltb-false}
use Rattle.ray_tracing.specs.Records.{field_at}
use Rattle.instance.specs.Writable.{Writable}
use Rattle.ray_tracing.specs.Instances.{present_of, slots_bytes}
use Rattle.ray_tracing.specs.Plan.{Tables, passed, records_in, entry_of, geometry_of, geometry_count, slot_count, slot_present, blas_of_entry, checked_at, checked_e, asked, judge_entry, judge_entries, judge_packages, judge_scratch, blas_scratch, tlas_scratch, offsets_from, staging_from, ranges_of_entry, ranges_from, compactable_from, entry_blases, package_lists, plan_of}
use Rattle.ray_tracing.proofs.Verdicts.{each-passed, each-drawing}
use Rattle.ray_tracing.proofs.Running.{totals_below}
use Rattle.ray_tracing.proofs.Inside.{Inside, drawn_before, drawn-none, drawn_more, slots_before, slots-none, slots_more}
use Rattle.ray_tracing.specs.Parts.{of_entries, of_packages}
use Rattle.build_lists.specs.Lists.{package_list, Drawn}
use Rattle.build_plan.specs.Parts.{AllWritable}
use Rattle.build_ranges.specs.Ranges.{geometry_ranges, entry_ranges, all_ranges, AllFit, DrawnFit}
use Rattle.build_plan.specs.Planned.{planned, Plannable}
use Rattle.ray_tracing.proofs.Vulkan.{slot-narrow}
use Rattle.build_plan.proofs.Asked.{asked_is, asked-fits}

-- ---- the sections that a list looks at

module _ (x : Tables) where
  compactable_part : (n i : ℕ) → compactable_from x i n ≡ compactable_from (of_entries x.blases x.entries) i n
  unfolding compactable_from
  compactable_part zero i = refl
  compactable_part (suc n) i =
      ap (λ (l : List ℕ). cond (eqb ((blas_of_entry x i).flags / 4 % 2) 1) ((entry_of x i).blas.0 ∷ []) [] ++ l) (compactable_part n (i + 1))

  blases_part : (n i : ℕ) → entry_blases x i n ≡ entry_blases (of_entries [] x.entries) i n
  unfolding entry_blases
  blases_part zero i = refl
  blases_part (suc n) i = ap (λ (l : List ℕ). (entry_of x i).blas.0 ∷ l) (blases_part n (i + 1))

  staging_part : (n start p s : ℕ) → staging_from x start p s n ≡ staging_from (of_packages [] x.packages x.slots) start p s n
  unfolding staging_from
  staging_part zero start p s = refl
  staging_part (suc n) start p s =
      let end = start + 64 * present_of x.slots s (slot_count x p) in
      ap (λ (l : List ℕ). start ∷ end ∷ l) (staging_part n end (p + 1) (s + slot_count x p))

  packages-part : (n p s : ℕ) → package_lists x p s n ≡ package_lists (of_packages [] x.packages x.slots) p s n
  unfolding package_lists
  packages-part zero p s = refl
  packages-part (suc n) p s =
      ap (λ (l : List ℕ). package_list x p s ++ l) (packages-part n (p + 1) (s + slot_count x p))

-- ---- entries that passed

module _ (x : Tables) (e : judge_entries x ≡ passed) where
  entry-passed : (i : ℕ) → i < records_in x 5 → judge_entry x i (drawn_before x i) ≡ passed
  unfolding judge_entries
  entry-passed i h =
      rw zero-add at (each-drawing (judge_entry x) (geometry_count x) (drawn_before x) (drawn_more x) (records_in x 5) 0 (rw (drawn-none x) e) i h)

  geometry-passed :
      (i j : ℕ) → i < records_in x 5 → j < geometry_count x i → checked_e i j (checked_at x i j (drawn_before x i + j)) ≡ passed
  geometry-passed i j h k =
      rw zero-add at (each-passed (λ (j : ℕ). checked_e i j (checked_at x i j (drawn_before x i + j))) (geometry_count x i) 0 (entry-passed i h) j k)

  entry-ranges :
      (i n j g : ℕ)
      → ((k : ℕ) → k < n → asked (checked_at x i (j + k) (g + k)) ≡ geometry_ranges (entry_of x i).kind (geometry_of x (g + k)))
      → ranges_of_entry x i j g n ≡ entry_ranges x.version x.geometries (entry_of x i).kind g n
  unfolding ranges_of_entry entry_ranges
  entry-ranges i zero j g h = refl
  entry-ranges i (suc n) j g h =
      let here : asked (checked_at x i j g) ≡ geometry_ranges (entry_of x i).kind (geometry_of x g) = rw (add-zero j, add-zero g) at (h 0 (omega arith)) in
      let more = entry-ranges i n (j + 1) (g + 1) (λ k l. rw (next j k, next g k) (h (suc k) (omega arith))) in
      λ p. here p ++ more p
    where
      next : (a k : ℕ) → a + 1 + k ≡ a + suc k
      next a k = omega arith

  ranges_part :
      (n i g : ℕ) → g ≡ drawn_before x i → i + n ≤ records_in x 5 → ranges_from x i g n ≡ all_ranges x.version x.entries x.geometries i g n
  unfolding ranges_from all_ranges
  ranges_part zero i g f h = refl
  ranges_part (suc n) i g f h =
      let here = entry-ranges i (geometry_count x i) 0 g (λ k l. rw (zero-add k, f) (asked_is x i k (drawn_before x i + k) (geometry-passed i k (omega arith) l))) in
      let more = ranges_part n (i + 1) (g + geometry_count x i) (rw f (sym (drawn_more x i))) (omega arith) in
      λ p. here p ++ more p

  -- the plan
  pub plan_is :
      plan_of x ≡ planned x
  unfolding plan_of
  plan_is =
      λ p. record {
        blas_offsets = offsets_from (blas_scratch x) x.alignment 0 0 (records_in x 5);
        tlas_offsets = offsets_from (tlas_scratch x) x.alignment 0 0 (records_in x 7);
        staging_ranges = staging_part x (records_in x 7) 0 0 0 p;
        instances = slots_bytes x.blases x.slots 0 (records_in x 8);
        init_ranges = ranges_part (records_in x 5) 0 0 (sym (drawn-none x)) (rw zero-add (omega arith)) p;
        compactable = compactable_part x (records_in x 5) 0 p;
        lists = blases_part x (records_in x 5) 0 p ++ packages-part x (records_in x 7) 0 0 p;
      }

-- ---- packages that passed

-- the package of slot s, and its place there
record Found (x : Tables) (s : ℕ) : Type 0 where
  package-of : ℕ
  place_of : ℕ
  among : package-of < records_in x 7
  drawn : place_of < slot_count x package-of
  here : slots_before x package-of + place_of ≡ s

module _ (x : Tables) where
  found_last : (s n : ℕ) → n < records_in x 7 → s < slots_before x (n + 1) → (s < slots_before x n → Found x s) → Found x s
  found_last s n h l more = go (ltb s (slots_before x n)) refl
    where
      go : (b : Bool) → ltb s (slots_before x n) ≡ b → Found x s
      go true z = more (ltb-true s (slots_before x n) z)
      go false z =
          let m : slots_before x n ≤ s = ltb-false s (slots_before x n) z in
          record {
            package-of = n;
            place_of = s - slots_before x n;
            among = h;
            drawn = omega (arith, slots_more x n);
            here = omega arith;
          }

  find : (s n : ℕ) → n ≤ records_in x 7 → s < slots_before x n → Found x s
  find s zero h l = absurd (not-suc-le-zero (rw (slots-none x) at l))
  find s (suc n) h l = found_last s n h (rw (add-one n) l) (find s n (omega arith))

module _ (x : Tables) (e : judge_packages x ≡ passed) where
  module _ (i : Inside x) where
    writable-at : (s : ℕ) → s < records_in x 8 → slot_present x.slots s ≡ true → Writable x.blases (field_at 8 x.slots (s * 56) 1) (field_at 8 x.slots (s * 56) 2)
    writable-at s h z =
        let f = find x s (records_in x 7) (omega arith) (rw i.slots-all h) in
        let p = f.package-of in
        let j = f.place_of in
        let y : slot_present x.slots (slots_before x p + j) ≡ true = rw f.here z in
        record {
          inside = rw (← f.here) (i.slot-blas p j f.among f.drawn y);
          narrow = rw (← f.here) (slot-narrow x e p j f.among f.drawn y);
        }

    all-writable : AllWritable x.blases x.slots
    all-writable s h z = writable-at s h (rw (ne_eqb _ 0 z))

-- ---- all that writing asks

module _ (x : Tables) (i : Inside x) (e : judge_entries x ≡ passed) (bytes : (k : ℕ) → get_or x.buffers k 0 < 256) where
  geometries-fit :
      (k : ℕ) → k < records_in x 5 → AllFit x.version x.geometries (entry_of x k).kind (drawn_before x k) (geometry_count x k)
  geometries-fit k h g l m =
      let j = g - drawn_before x k in
      let f : drawn_before x k + j ≡ g = omega arith in
      rw (← f) (asked-fits x k j (drawn_before x k + j) (geometry-passed x e k j h (omega arith)) bytes)

  pub geometries-drawn : DrawnFit x.version x.entries x.geometries
  unfolding drawn_before
  geometries-drawn = record { drawn = i.drawn; most = i.most 6 (omega arith) (omega arith); fit = geometries-fit }

  pub slots-drawn : Drawn x.packages x.slots
  unfolding slots_before
  slots-drawn = record { all = i.slots-all; drawn = i.slots; most = i.most 8 (omega arith) (omega arith) }

  pub plannable :
      judge_packages x ≡ passed
      → judge_scratch x ≡ passed
      → Plannable x
  plannable p s =
      record {
        aligned = i.aligned;
        entry-blases = i.entry-blas;
        blas-below = (totals_below x s).0;
        package_tlases = i.package_tlas;
        tlas-below = (totals_below x s).1;
        slots-drawn = slots-drawn;
        writable = all-writable x p i;
        geometries-drawn = geometries-drawn;
      }
