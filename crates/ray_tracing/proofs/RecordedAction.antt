-- The lists of a recorded build, decoded as a submission decodes them, are the entries' Blases and the packages' Tlases with their Blases; and
-- what a submission judges of them before it acts.
use mathlib.Core.Path.{◌≡◌, refl, sym, ap, ◌∙◌}
use mathlib.Core.Bool.{Bool, true, false, ◌&&◌, cond}
use mathlib.Core.Option.{Option, none, some}
use mathlib.Core.List.{List, [], ◌∷◌, ◌++◌, append_assoc}
use Prim.Native.Nat.{ℕ, zero, suc, ◌+◌, ◌/◌, ◌≤◌, ◌<◌}
use native.Mathlib.Nat.{zero-add, add-zero}
use native.Mathlib.Omega.{arith}
use lib.Dec.{eqb, ltb, leb}
use lib.ListN.{length, take, drop, get_or, length-append, length-drop}
use lib.Seq.{take_at, drop_at, get_or-drop, drop-drop}
use borrow.Author.Tests.{ne_eqb, le-leb}
use Rattle.ray_tracing.specs.Causes.{Cause, cause, bare}
use Rattle.ray_tracing.specs.Instances.{present_of}
use Rattle.ray_tracing.specs.Plan.{Tables, records_in, entry_of, package_of, blas_of_entry, slot_count, slot_present, slot_blas, entry_blases, dependencies_from, package_lists}
use Rattle.ray_tracing.specs.Submission as submission
use Rattle.ray_tracing.specs.Submission.{Lent, Package, past_package, packages_at, packages_lent, action}
use Rattle.ray_tracing.proofs.Inside.{Inside, slots_before, slots-none, slots_more}
use Rattle.ray_tracing.proofs.Instances.{present_bound}
use Rattle.ray_tracing.proofs.Plan.{blases-length, dependencies-length}
use Rattle.ray_tracing.proofs.Firsts.{none_or, inside-none, within_none}

-- ---- the recorded action

-- the packages as a Build lists them: each Tlas with its present slots' Blases in order
unfoldable pub recorded_packages : Tables → ℕ → ℕ → ℕ → List Package
recorded_packages x p s zero = []
recorded_packages x p s (suc n) =
    record { tlas = (package_of x p).tlas.0; dependencies = dependencies_from x.slots s (slot_count x p) }
    ∷ recorded_packages x (p + 1) (s + slot_count x p) n

-- the lists of n packages, from a cell on
module _ (x : Tables) (lists post : List ℕ) where
  module _ (p s at : ℕ) (rest : List ℕ) (e : drop at lists ≡ (package_of x p).tlas.0 ∷ present_of x.slots s (slot_count x p) ∷ (dependencies_from x.slots s (slot_count x p) ++ rest)) where
    abbrev count : ℕ
    count = present_of x.slots s (slot_count x p)

    abbrev listed : List ℕ
    listed = dependencies_from x.slots s (slot_count x p)

    tlas-there : get_or lists at 0 ≡ (package_of x p).tlas.0
    tlas-there = ap (λ (k : ℕ). get_or lists k 0) (sym (add-zero at)) ∙ sym (get_or-drop at lists 0 0) ∙ ap (λ (t : List ℕ). get_or t 0 0) e

    count_there : get_or lists (at + 1) 0 ≡ count
    count_there = sym (get_or-drop at lists 1 0) ∙ ap (λ (t : List ℕ). get_or t 1 0) e

    after : drop (at + 2) lists ≡ listed ++ rest
    after = sym (drop-drop 2 at lists) ∙ ap (drop 2) e

    listed-there : take count (drop (at + 2) lists) ≡ listed
    listed-there = ap (take count) after ∙ take_at listed rest count (dependencies-length x.slots s (slot_count x p))

    next-there : drop (at + 2 + count) lists ≡ rest
    next-there =
        sym (drop-drop count (at + 2) lists) ∙ ap (drop count) after ∙ drop_at listed rest count (dependencies-length x.slots s (slot_count x p))

    all_there : at + 2 + count ≤ length lists
    all_there =
        omega (arith, length-drop at lists, ap length e, length-append listed rest, dependencies-length x.slots s (slot_count x p))

  lent-step : {past : ℕ} (at n : ℕ) → past_package lists at ≡ past → past ≤ length lists → packages_lent lists past n ≡ true → packages_lent lists at (suc n) ≡ true
  unfolding packages_lent
  lent-step {past} at n e h k =
      ap (λ (q : ℕ). elim (leb q (length lists)) [ true ↦ packages_lent lists q n | false ↦ false ]) e
      ∙ ap (λ (b : Bool). elim b [ true ↦ packages_lent lists past n | false ↦ false ]) (le-leb past (length lists) h)
      ∙ k

  packages_decoded :
      (n p s at : ℕ)
      → drop at lists ≡ package_lists x p s n ++ post
      → (packages_lent lists at n ≡ true) × (packages_at lists at n ≡ recorded_packages x p s n)
  unfolding packages_lent packages_at package_lists recorded_packages
  packages_decoded zero p s at e = (refl, refl)
  packages_decoded (suc n) p s at e =
      let d = dependencies_from x.slots s (slot_count x p) in
      let more = package_lists x (p + 1) (s + slot_count x p) n in
      let f = e ∙ ap (λ (t : List ℕ). (package_of x p).tlas.0 ∷ present_of x.slots s (slot_count x p) ∷ t) (append_assoc d more post) in
      let ih = packages_decoded n (p + 1) (s + slot_count x p) (at + 2 + present_of x.slots s (slot_count x p)) (next-there p s at (more ++ post) f) in
      let c = count_there p s at (more ++ post) f in (
        lent-step at n (ap (λ (k : ℕ). at + 2 + k) c) (all_there p s at (more ++ post) f) ih.0,
        (λ j. record { tlas = tlas-there p s at (more ++ post) f j; dependencies = (ap (λ (k : ℕ). take k (drop (at + 2) lists)) c ∙ listed-there p s at (more ++ post) f) j } ∷ packages_at lists (at + 2 + c j) n)
            ∙ ap (λ (t : List Package). record { tlas = (package_of x p).tlas.0; dependencies = d } ∷ t) ih.1,
      )

build-there :
    (lists : List ℕ) (at b t : ℕ)
    → at + b ≤ length lists
    → packages_lent lists (at + b) t ≡ true
    → action lists 1 at b t ≡ submission.build (take b (drop at lists)) (packages_at lists (at + b) t)
unfolding action
build-there lists at b t h e =
    let found = submission.build (take b (drop at lists)) (packages_at lists (at + b) t) in
    ap (λ (c : Bool). elim (c && packages_lent lists (at + b) t) [ true ↦ found | false ↦ submission.malformed ]) (le-leb (at + b) (length lists) h)
    ∙ ap (λ (c : Bool). elim c [ true ↦ found | false ↦ submission.malformed ]) e

-- the lists as a recorded build writes them, and what else stands after them
pub action_decoded :
    (x : Tables) (lists post : List ℕ)
    → lists ≡ (entry_blases x 0 (records_in x 5) ++ package_lists x 0 0 (records_in x 7)) ++ post
    → action lists 1 0 (records_in x 5) (records_in x 7) ≡ submission.build (entry_blases x 0 (records_in x 5)) (recorded_packages x 0 0 (records_in x 7))
action_decoded x lists post e =
    let bs = entry_blases x 0 (records_in x 5) in
    let ps = package_lists x 0 0 (records_in x 7) in
    let n = records_in x 5 in
    let f : lists ≡ bs ++ (ps ++ post) = e ∙ append_assoc bs ps post in
    let g : drop n lists ≡ ps ++ post = ap (drop n) f ∙ drop_at bs (ps ++ post) n (blases-length x 0 n) in
    let h : take n lists ≡ bs = ap (take n) f ∙ take_at bs (ps ++ post) n (blases-length x 0 n) in
    let k = packages_decoded x lists post (records_in x 7) 0 0 n g in
    let l : n ≤ length lists = omega (arith, ap length f, length-append bs (ps ++ post), blases-length x 0 n) in
    let z = zero-add n in
    build-there lists 0 n (records_in x 7) (omega arith) (ap (λ (q : ℕ). packages_lent lists q (records_in x 7)) z ∙ k.0)
    ∙ (λ j. submission.build (h j) ((ap (λ (q : ℕ). packages_at lists q (records_in x 7)) z ∙ k.1) j))

-- ---- what a submission judges of it

none_after : (c : Option Cause) → submission.◌or_else◌ c none ≡ c
none_after none = refl
none_after (some c) = refl

module _ (x : Tables) (i : Inside x) (l : Lent) (b : l.blases ≡ x.blases) (t : l.tlases ≡ x.tlases) where
  blas-mentioned : (id : ℕ) → id < records_in x 2 → submission.mention_blas l id ≡ none
  blas-mentioned id h = inside-none (length l.blases / 28) id (rw b h)

  tlas-mentioned : (id : ℕ) → id < records_in x 4 → submission.mention_tlas l id ≡ none
  tlas-mentioned id h = inside-none (length l.tlases / 22) id (rw t h)

  -- what is none of each entry's Blas is none of the first of them
  entries_none :
      (f : ℕ → Option Cause) → ((k : ℕ) → k < records_in x 5 → f (entry_of x k).blas.0 ≡ none) → (n k : ℕ) → k + n ≤ records_in x 5 → submission.first f (entry_blases x k n) ≡ none
  unfolding entry_blases
  entries_none f h zero k m = refl
  entries_none f h (suc n) k m = none_or (h k (omega arith)) (entries_none f h n (k + 1) (omega arith))

  slot-mentioned :
      (q : Bool) (id : ℕ) (rest : List ℕ)
      → (q ≡ true → id < records_in x 2)
      → submission.first (submission.mention_blas l) rest ≡ none
      → submission.first (submission.mention_blas l) (cond q (id ∷ []) [] ++ rest) ≡ none
  slot-mentioned false id rest h e = e
  slot-mentioned true id rest h e = none_or (blas-mentioned id (h refl)) e

  dependencies-mentioned :
      (n s : ℕ)
      → ((j : ℕ) → j < n → slot_present x.slots (s + j) ≡ true → slot_blas x.slots (s + j) < records_in x 2)
      → submission.first (submission.mention_blas l) (dependencies_from x.slots s n) ≡ none
  unfolding dependencies_from
  dependencies-mentioned zero s h = refl
  dependencies-mentioned (suc n) s h =
      slot-mentioned (slot_present x.slots s) (slot_blas x.slots s) (dependencies_from x.slots (s + 1) n)
      (rw add-zero at (h 0 (omega arith)))
      (dependencies-mentioned n (s + 1) (λ j k. let e : s + 1 + j ≡ s + suc j = omega arith in rw e (h (suc j) (omega arith))))

  -- the first of n packages from package p on, of a cause that is none of each
  packages-none :
      (f : Package → Option Cause)
      → ((p : ℕ) → p < records_in x 7 → f (record { tlas = (package_of x p).tlas.0; dependencies = dependencies_from x.slots (slots_before x p) (slot_count x p) }) ≡ none)
      → (n p s : ℕ)
      → s ≡ slots_before x p
      → p + n ≤ records_in x 7
      → submission.first f (recorded_packages x p s n) ≡ none
  unfolding recorded_packages
  packages-none f h zero p s e m = refl
  packages-none f h (suc n) p s e m =
      none_or
      (ap (λ (q : ℕ). f (record { tlas = (package_of x p).tlas.0; dependencies = dependencies_from x.slots q (slot_count x p) })) e ∙ h p (omega arith))
      (packages-none f h n (p + 1) (s + slot_count x p) (rw e (sym (slots_more x p))) (omega arith))

  packages_count : (n p s : ℕ) → length (recorded_packages x p s n) ≡ n
  unfolding recorded_packages
  packages_count zero p s = refl
  packages_count (suc n) p s = ap suc (packages_count n (p + 1) (s + slot_count x p))

  package_mentioned :
      (p : ℕ)
      → p < records_in x 7
      → submission.mention_package l (record { tlas = (package_of x p).tlas.0; dependencies = dependencies_from x.slots (slots_before x p) (slot_count x p) }) ≡ none
  package_mentioned p h =
      none_or (tlas-mentioned _ (i.package_tlas p h)) (dependencies-mentioned (slot_count x p) (slots_before x p) (λ j k. i.slot-blas p j h k))

  few : (p : ℕ) → p < records_in x 7 → length (dependencies_from x.slots (slots_before x p) (slot_count x p)) ≤ 512
  few p h =
      omega (
        arith,
        dependencies-length x.slots (slots_before x p) (slot_count x p),
        present_bound x.slots (slots_before x p) (slot_count x p),
        i.slots p h,
        i.most 8 (omega arith) (omega arith),
      )

  module _ (kept : (k : ℕ) → k < records_in x 5 → (blas_of_entry x k).compacted_state ≡ 3 → ⊥) where
    not-compacted : (k : ℕ) → k < records_in x 5 → submission.compacted l (entry_of x k).blas.0 ≡ none
    unfolding submission.blas_in
    not-compacted k h = rw b (ap (λ (q : Bool). submission.cause_when q (cause 41 (entry_of x k).blas.0 0 0)) (ne_eqb (blas_of_entry x k).compacted_state 3 (kept k h)))

    abbrev blases-of : List ℕ
    blases-of = entry_blases x 0 (records_in x 5)

    abbrev packages-of : List Package
    packages-of = recorded_packages x 0 0 (records_in x 7)

    -- no 4, 6 or 41, and 40 if the counter is 0
    pub only-counter : submission.before l (submission.build blases-of packages-of) ≡ submission.cause_when (eqb l.counter 0) (bare 40)
    unfolding submission.before
    only-counter =
        let s = sym (slots-none x) in
        let few-blases = within_none 64 (length blases-of) (bare 4) (omega (arith, blases-length x 0 (records_in x 5), i.most 5 (omega arith) (omega arith))) in
        let few-tlases = within_none 32 (length packages-of) (bare 4) (omega (arith, packages_count (records_in x 7) 0 0, i.most 7 (omega arith) (omega arith))) in
        let few-each = packages-none (λ p. submission.cause_when (ltb 512 (length p.dependencies)) (bare 4)) (λ p h. within_none 512 _ (bare 4) (few p h)) (records_in x 7) 0 0 s (omega arith) in
        let blases = entries_none (submission.mention_blas l) (λ k h. blas-mentioned _ (i.entry-blas k h)) (records_in x 5) 0 (omega arith) in
        let packages = packages-none (submission.mention_package l) package_mentioned (records_in x 7) 0 0 s (omega arith) in
        let compacted = entries_none (submission.compacted l) not-compacted (records_in x 5) 0 (omega arith) in
        rw (few-blases, few-tlases, few-each, blases, packages, compacted) (none_after (submission.cause_when (eqb l.counter 0) (bare 40)))
