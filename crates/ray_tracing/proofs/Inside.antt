-- What judging the tables and the ids of a build shows: every record that is read after it lies within its table.
use Prim.Native.Nat.{ℕ, zero, suc, ◌+◌, ◌-◌, ◌*◌, ◌/◌, ◌≤◌, ◌<◌}
use native.Mathlib.Nat.{zero-add, add-zero, zero-mul, suc-mul, not-suc-le-zero, le_of_suc-le-suc}
use native.Mathlib.Omega.{arith}
use mathlib.Core.Bool.{Bool, true, false, not, ◌||◌}
use mathlib.Core.Path.{◌≡◌, refl}
use mathlib.Core.List.{List, ◌∷◌}
use lib.ListN.{length}
use lib.Dec.{eqb, ltb}
use borrow.Author.Tests.{eqb-true, eqb-false, ltb-true, ltb-false, leb-true, not-false, eq-eqb, ne_eqb}
use Rattle.wire.specs.Wire.{le_at}
use Rattle.ray_tracing.specs.Layout.{Seen, Field, Layout, layout, layout_in, size, size_in, total, fits}
use Rattle.ray_tracing.specs.Records.{field_at}
use Rattle.ray_tracing.specs.Reading.{sum_of_counts, judge_field, judge_fields, judge_records, judge_table, judge_lent, begin, by_record, adds_up}
use Rattle.ray_tracing.specs.Reading as reading
use Rattle.ray_tracing.specs.Plan.{Tables, passed, on, first_of, first_drawing, table_of, records_in, entry_of, geometry_of, package_of, geometry_count, slot_count, slot_present, slot_blas, by_section, judge_lent_section, judge_tables, optional_mention, geometry_ids, entry_ids, slot_ids, package_ids, judge_ids}
use Rattle.ray_tracing.proofs.Reading.{or_fine, on_fine}
use Rattle.ray_tracing.proofs.Mentions.{mention-inside}
use Rattle.ray_tracing.proofs.Verdicts.{or-passed, on-passed, on_true, none-at_e, none-cond, each-passed, each-drawing, from_start_drawing, found-drawing, onward-drawing, ended-drawing}

-- the geometries that the entries before entry i draw, and the slots that the packages before package p draw
unfoldable pub drawn_before : Tables → ℕ → ℕ
drawn_before x i = sum_of_counts x.entries (size 5) 3 i

unfoldable pub slots_before : Tables → ℕ → ℕ
slots_before x p = sum_of_counts x.packages (size 7) 2 p

-- an id that is none names no record
abbrev pub Named : ℕ → ℕ → Type 0
Named id n = (id ≡ 65535 → ⊥) → id < n

pub record Inside (x : Tables) : Type 0 where
  pub aligned : 1 ≤ x.alignment
  -- limits
  pub most : (k : ℕ) → 1 ≤ k → k ≤ 8 → records_in x k ≤ (layout_in x.version k).most
  -- a declared geometry's Blas
  pub declared-blas : (d : ℕ) → d < records_in x 3 → field_at 3 x.declared (d * size 3) 0 < records_in x 2
  -- entries, and the geometries that they draw
  pub entry_kind : (i : ℕ) → i < records_in x 5 → (entry_of x i).kind ≤ 1
  pub entry-blas : (i : ℕ) → i < records_in x 5 → (entry_of x i).blas.0 < records_in x 2
  pub drawn-all : drawn_before x (records_in x 5) ≡ records_in x 6
  pub drawn : (i : ℕ) → i < records_in x 5 → drawn_before x i + geometry_count x i ≤ records_in x 6
  pub data_buffer :
      (i j : ℕ)
      → i < records_in x 5
      → j < geometry_count x i
      → (geometry_of x (drawn_before x i + j)).buffer.0 < records_in x 1
  pub index_buffer :
      (i j : ℕ)
      → i < records_in x 5
      → j < geometry_count x i
      → (entry_of x i).kind ≡ 0
      → Named (geometry_of x (drawn_before x i + j)).index_buffer.0 (records_in x 1)
  pub transform_buffer :
      (i j : ℕ)
      → i < records_in x 5
      → j < geometry_count x i
      → (entry_of x i).kind ≡ 0
      → Named (geometry_of x (drawn_before x i + j)).transform_buffer.0 (records_in x 1)
  -- packages, and the slots that they draw
  pub package_tlas : (p : ℕ) → p < records_in x 7 → (package_of x p).tlas.0 < records_in x 4
  pub slots-all : slots_before x (records_in x 7) ≡ records_in x 8
  pub slots : (p : ℕ) → p < records_in x 7 → slots_before x p + slot_count x p ≤ records_in x 8
  pub slot-blas :
      (p j : ℕ)
      → p < records_in x 7
      → j < slot_count x p
      → slot_present x.slots (slots_before x p + j) ≡ true
      → slot_blas x.slots (slots_before x p + j) < records_in x 2

-- ---- sums of drawn counts

module _ (t : List ℕ) (w : ℕ) where
  pub sum-next : (n q : ℕ) → sum_of_counts t w q (n + 1) ≡ sum_of_counts t w q n + le_at 2 t (q + n * w)
  unfolding sum_of_counts
  sum-next zero q = rw (zero-mul, add-zero q) (omega arith)
  sum-next (suc n) q =
      let e : q + w + n * w ≡ q + suc n * w = rw suc-mul (omega arith) in
      let k : suc n + 1 ≡ suc (n + 1) = omega arith in
      rw (k, ← e) (omega (arith, sum-next n (q + w)))

  pub sum_mono : (n m q : ℕ) → m ≤ n → sum_of_counts t w q m ≤ sum_of_counts t w q n
  unfolding sum_of_counts
  sum_mono n zero q h = omega arith
  sum_mono zero (suc m) q h = absurd (not-suc-le-zero h)
  sum_mono (suc n) (suc m) q h = omega (arith, sum_mono n m (q + w) (le_of_suc-le-suc h))

  -- what one draws lies within what all draw
  pub sum_within : (n m q : ℕ) → m < n → sum_of_counts t w q m + le_at 2 t (q + m * w) ≤ sum_of_counts t w q n
  sum_within n m q h = omega (arith, sum-next m q, sum_mono n (m + 1) q (omega arith))

module _ (x : Tables) where
  pub drawn-none : drawn_before x 0 ≡ 0
  unfolding drawn_before sum_of_counts
  drawn-none = refl

  pub drawn_more : (i : ℕ) → drawn_before x (i + 1) ≡ drawn_before x i + geometry_count x i
  unfolding drawn_before
  drawn_more i =
      let e : 3 + i * 5 ≡ i * 5 + 3 = omega arith in
      rw e at (sum-next x.entries 5 i 3)

  pub slots-none : slots_before x 0 ≡ 0
  unfolding slots_before sum_of_counts
  slots-none = refl

  pub slots_more : (p : ℕ) → slots_before x (p + 1) ≡ slots_before x p + slot_count x p
  unfolding slots_before
  slots_more p =
      let e : 2 + p * 4 ≡ p * 4 + 2 = omega arith in
      rw e at (sum-next x.packages 4 p 2)

  pub drawn_within : (n i : ℕ) → i < n → drawn_before x i + geometry_count x i ≤ drawn_before x n
  unfolding drawn_before
  drawn_within n i h =
      let e : 3 + i * 5 ≡ i * 5 + 3 = omega arith in
      rw e at (sum_within x.entries 5 n i 3 h)

  pub slots_within : (n p : ℕ) → p < n → slots_before x p + slot_count x p ≤ slots_before x n
  unfolding slots_before
  slots_within n p h =
      let e : 2 + p * 4 ≡ p * 4 + 2 = omega arith in
      rw e at (sum_within x.packages 4 n p 2 h)

-- ---- records that are judged fine

or_else : (b : Bool) → (b || false) ≡ true → b ≡ true
or_else true e = refl
or_else false e = e

pub field_fits :
    (f : Field) (fs : List Field) (c : Seen) (s : List ℕ) (p : ℕ)
    → judge_fields c s p (f ∷ fs) ≡ reading.fine
    → (fits f c (le_at f.width s p) ≡ true) × (judge_fields (f.after c (le_at f.width s p)) s (p + f.width) fs ≡ reading.fine)
unfolding judge_fields
field_fits f fs c s p e =
    let x = or_fine (judge_field c s p f) _ e in
    let y = or_fine (reading.judged_when (ltb (length s) (p + f.width)) (reading.refused 2 p)) _ x.0 in
    (not-false (fits f c (le_at f.width s p)) (on_fine _ 5 p y.1), x.1)

pub records_each :
    (c : Seen) (fs : List Field) (s : List ℕ) (n p : ℕ)
    → judge_records c fs s p n ≡ reading.fine
    → (k : ℕ)
    → k < n
    → judge_fields c s (p + k * total fs) fs ≡ reading.fine
unfolding judge_records
records_each c fs s zero p e k h = absurd (not-suc-le-zero h)
records_each c fs s (suc n) p e zero h = rw (zero-mul, add-zero) (or_fine (judge_fields c s p fs) _ e).0
records_each c fs s (suc n) p e (suc k) h =
    let m : p + total fs + k * total fs ≡ p + suc k * total fs = rw suc-mul (omega arith) in
    rw m at (records_each c fs s n (p + total fs) (or_fine (judge_fields c s p fs) _ e).1 k (le_of_suc-le-suc h))

-- ---- lent tables that are judged fine

by_fine : (w : ℕ) (j : reading.Judged) → by_record w j ≡ reading.fine → j ≡ reading.fine
by_fine w reading.fine e = refl
by_fine w (reading.refused n p) e =
    let z : ◌≡◌ {A = ℕ} 0 1 = cc in
    absurd (omega arith)

section_passed : (k : ℕ) (j : reading.Judged) → by_section k j ≡ passed → j ≡ reading.fine
section_passed k reading.fine e = refl
section_passed k (reading.refused n p) e =
    let z : ◌≡◌ {A = ℕ} 0 1 = cc in
    absurd (omega arith)

module _ (k : ℕ) (l : Layout) (w : ℕ) (t s : List ℕ) (f : judge_lent k l w t s ≡ reading.fine) where
  lent-parts :
      (length s / total l.fields ≤ l.most)
      × (adds_up k t (length s / total l.fields) ≡ true)
      × (judge_table k l.fields w t s 0 (length s / total l.fields) ≡ reading.fine)
  unfolding judge_lent
  lent-parts =
      let n = length s / total l.fields in
      let x = or_fine (reading.judged_when (ltb l.most n) (reading.refused 4 0)) _ f in
      let y = or_fine (reading.judged_when (not (adds_up k t n)) (reading.refused 5 0)) _ x.1 in
      let z = or_fine (by_record (total l.fields) (judge_table k l.fields w t s 0 n)) _ y.1 in (
        ltb-false l.most n (on_fine _ 4 0 x.0),
        not-false (adds_up k t n) (on_fine _ 5 0 y.0),
        by_fine (total l.fields) _ z.0,
      )

module _ (x : Tables) (t : judge_tables x ≡ passed) where
  table_parts : (eqb x.alignment 0 ≡ false) × (first_of (judge_lent_section x) 1 8 ≡ passed)
  unfolding judge_tables
  table_parts =
      let y = or-passed (on (eqb x.alignment 0) _) _ t in
      (on-passed (eqb x.alignment 0) 0 0 _ y.0, y.1)

  lent-fine : (k : ℕ) → k < 8 → judge_lent (1 + k) (layout_in x.version (1 + k)) (size_in x.version (1 + k - 1)) (table_of x (1 + k - 1)) (table_of x (1 + k)) ≡ reading.fine
  lent-fine k h = section_passed (1 + k) _ (each-passed (judge_lent_section x) 8 1 table_parts.1 k h)

  tables-most : (k : ℕ) → 1 ≤ k → k ≤ 8 → records_in x k ≤ (layout_in x.version k).most
  tables-most k a b =
      let e : 1 + (k - 1) ≡ k = omega arith in
      rw e at (lent-parts (1 + (k - 1)) (layout_in x.version (1 + (k - 1))) _ _ _ (lent-fine (k - 1) (omega arith))).0

  pub tables-drawn : drawn_before x (records_in x 5) ≡ records_in x 6
  unfolding drawn_before
  tables-drawn = eqb-true _ (records_in x 6) (lent-parts 6 (layout_in x.version 6) _ _ _ (lent-fine 5 (omega arith))).1

  pub tables-slots : slots_before x (records_in x 7) ≡ records_in x 8
  unfolding slots_before
  tables-slots = eqb-true _ (records_in x 8) (lent-parts 8 (layout 8) _ _ _ (lent-fine 7 (omega arith))).1

  tables-declared : (d : ℕ) → d < records_in x 3 → field_at 3 x.declared (d * size 3) 0 < records_in x 2
  tables-declared d h =
      let r = records_each (begin (size 2) x.blases false) (layout 3).fields x.declared (records_in x 3) 0 (lent-parts 3 (layout 3) _ _ _ (lent-fine 2 (omega arith))).2 d h in
      let f = (field_fits _ _ _ _ _ (rw zero-add at r)).0 in
      ltb-true _ _ (or_else _ f)

  tables_kind : (i : ℕ) → i < records_in x 5 → (entry_of x i).kind ≤ 1
  tables_kind i h =
      let r = records_each (begin (size 4) x.tlases false) (layout 5).fields x.entries (records_in x 5) 0 (lent-parts 5 (layout 5) _ _ _ (lent-fine 4 (omega arith))).2 i h in
      let f = (field_fits _ _ _ _ _ (field_fits _ _ _ _ _ (rw zero-add at r)).1).0 in
      leb-true _ 1 (or_else _ f)

-- ---- ids that are judged to pass

optional_inside : (x : Tables) (id : ℕ) → optional_mention x id ≡ 0 → Named id (records_in x 1)
optional_inside x id e n = mention-inside 9 x.buffers id (rw (ne_eqb id 65535 n) at e)

module _ (x : Tables) (i j g : ℕ) (e : geometry_ids x i j g ≡ passed) where
  geometry_parts : ((geometry_of x g).buffer.0 < records_in x 1)
      × ((entry_of x i).kind ≡ 0 → Named (geometry_of x g).index_buffer.0 (records_in x 1))
      × ((entry_of x i).kind ≡ 0 → Named (geometry_of x g).transform_buffer.0 (records_in x 1))
  geometry_parts =
      let y = or-passed _ _ e in
      let z = or-passed _ _ y.1 in (
        mention-inside 9 x.buffers _ (none-at_e i j _ y.0),
        λ k. optional_inside x _ (none-at_e i j _ (on_true _ _ z.0 (eq-eqb _ _ k))),
        λ k. optional_inside x _ (none-at_e i j _ (on_true _ _ z.1 (eq-eqb _ _ k))),
      )

module _ (x : Tables) (v : judge_ids x ≡ passed) where
  entries-passed : (i : ℕ) → i < records_in x 5 → entry_ids x i (drawn_before x i) ≡ passed
  unfolding judge_ids
  entries-passed i h =
      let e = (or-passed (first_drawing (entry_ids x) (geometry_count x) 0 0 (records_in x 5)) _ v).0 in
      rw zero-add at (each-drawing (entry_ids x) (geometry_count x) (drawn_before x) (drawn_more x) (records_in x 5) 0 (rw drawn-none e) i h)

  packages-passed : (p : ℕ) → p < records_in x 7 → package_ids x p (slots_before x p) ≡ passed
  unfolding judge_ids
  packages-passed p h =
      let e = (or-passed (first_drawing (entry_ids x) (geometry_count x) 0 0 (records_in x 5)) _ v).1 in
      rw zero-add at (each-drawing (package_ids x) (slot_count x) (slots_before x) (slots_more x) (records_in x 7) 0 (rw slots-none e) p h)

  geometry-passed : (i j : ℕ) → i < records_in x 5 → j < geometry_count x i → geometry_ids x i j (drawn_before x i + j) ≡ passed
  geometry-passed i j h k =
      let e = (or-passed (first_of (λ (j : ℕ). geometry_ids x i j (drawn_before x i + j)) 0 (geometry_count x i)) _ (entries-passed i h)).0 in
      rw zero-add at (each-passed (λ (j : ℕ). geometry_ids x i j (drawn_before x i + j)) (geometry_count x i) 0 e j k)

  slot-passed : (p j : ℕ) → p < records_in x 7 → j < slot_count x p → slot_ids x p j (slots_before x p + j) ≡ passed
  slot-passed p j h k =
      let e = (or-passed (first_of (λ (j : ℕ). slot_ids x p j (slots_before x p + j)) 0 (slot_count x p)) _ (packages-passed p h)).0 in
      rw zero-add at (each-passed (λ (j : ℕ). slot_ids x p j (slots_before x p + j)) (slot_count x p) 0 e j k)

-- what judging shows
pub inside : (x : Tables) → judge_tables x ≡ passed → judge_ids x ≡ passed → Inside x
inside x t v =
    record {
      aligned = omega (arith, eqb-false x.alignment 0 (table_parts x t).0);
      most = tables-most x t;
      declared-blas = tables-declared x t;
      entry_kind = tables_kind x t;
      entry-blas = λ i h. mention-inside 28 x.blases _ (none-at_e i 0 _ (or-passed (first_of (λ (j : ℕ). geometry_ids x i j (drawn_before x i + j)) 0 (geometry_count x i)) _ (entries-passed x v i h)).1);
      drawn-all = tables-drawn x t;
      drawn = λ i h. rw (tables-drawn x t) at (drawn_within x (records_in x 5) i h);
      data_buffer = λ i j h k. (geometry_parts x i j (drawn_before x i + j) (geometry-passed x v i j h k)).0;
      index_buffer = λ i j h k. (geometry_parts x i j (drawn_before x i + j) (geometry-passed x v i j h k)).1;
      transform_buffer = λ i j h k. (geometry_parts x i j (drawn_before x i + j) (geometry-passed x v i j h k)).2;
      package_tlas = λ p h. mention-inside 22 x.tlases _ (none-at_e p 0 _ (or-passed (first_of (λ (j : ℕ). slot_ids x p j (slots_before x p + j)) 0 (slot_count x p)) _ (packages-passed x v p h)).1);
      slots-all = tables-slots x t;
      slots = λ p h. rw (tables-slots x t) at (slots_within x (records_in x 7) p h);
      slot-blas = λ p j h k s. mention-inside 28 x.blases _ (none-cond _ _ (none-at_e p j _ (slot-passed x v p j h k)) s);
    }

-- what closes the goals of a loop over many that draw in turn, to the first that is refused
pub ruleset drawing = (from_start_drawing, found-drawing, onward-drawing, ended-drawing, drawn-none, slots-none)
