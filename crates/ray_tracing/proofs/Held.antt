-- The records of a table, one by one: each is judged as the table is, and a table made of canonical records has them as its records.
use Prim.Native.Nat.{ℕ, zero, suc, ◌+◌, ◌*◌, ◌≤◌}
use native.Mathlib.Nat.{add-zero, zero-mul, suc-mul}
use native.Mathlib.Omega.{arith}
use mathlib.Core.Bool.{Bool, true, false, cond}
use mathlib.Core.Path.{◌≡◌, refl, sym, ap, ◌∙◌, subst}
use mathlib.Core.List.{List, [], ◌∷◌, ◌++◌, map, flatten, append_assoc, map-append}
use lib.Dec.{eqb}
use lib.ListN.{length, take, drop, length-append, length-drop}
use lib.Seq.{length-take-le, take-append-le, drop-append-le, take_at, drop_at, drop-drop}
use Rattle.wire.specs.Wire.{le_at}
use Rattle.ray_tracing.specs.declared.Version.{Version}
use Rattle.ray_tracing.specs.Layout.{Seen, Field, geometries, total, size, size_in}
use Rattle.ray_tracing.specs.Reading.{fine, judge_fields, judge_records, judge_drawn, sum_of_counts, begin, of_boxes, drawn_count}
use Rattle.ray_tracing.specs.Meaning.{Held, records_from, drawn_from, of_blas, by_blas, record_meaning}
use Rattle.ray_tracing.specs.Canonical.{canonical_record}
use Rattle.ray_tracing.proofs.Reading.{or_fine, fields_whole, records_whole}
use Rattle.ray_tracing.proofs.Windows.{moved, window_part, fields_window}
use Rattle.ray_tracing.proofs.Sheets.{moved_fine}
use Rattle.ray_tracing.proofs.Zeroed.{Alike, canonical-length, means_kept, fine-kept}

-- ---- lists of records

abbrev pub All : (Held → Type 0) → List Held → Type 0
All P [] = Unit {0}
All P (x ∷ xs) = P x × All P xs

module _ (P : Held → Type 0) where
  pub all_append : (xs ys : List Held) → All P xs → All P ys → All P (xs ++ ys)
  all_append [] ys a b = b
  all_append (x ∷ xs) ys a b = (a.0, all_append xs ys a.1 b)

  pub all_left : (xs ys : List Held) → All P (xs ++ ys) → All P xs
  all_left [] ys a = tt
  all_left (x ∷ xs) ys a = (a.0, all_left xs ys a.1)

  pub all_right : (xs ys : List Held) → All P (xs ++ ys) → All P ys
  all_right [] ys a = a
  all_right (x ∷ xs) ys a = all_right xs ys a.1

  pub all_of : (b : ℕ) (xs : List Held) → All P xs → All P (of_blas b xs)
  unfolding of_blas
  all_of b [] a = tt
  all_of b (x ∷ xs) a = go (eqb (le_at 2 x.bytes 0) b) (all_of b xs a.1)
    where
      go : (t : Bool) → All P (of_blas b xs) → All P (cond t (x ∷ of_blas b xs) (of_blas b xs))
      go true r = (a.0, r)
      go false r = r

  pub all_by : (xs : List Held) → All P xs → (b n : ℕ) → All P (flatten (by_blas xs b n))
  unfolding by_blas flatten
  all_by xs a b zero = tt
  all_by xs a b (suc n) = all_append (of_blas b xs) (flatten (by_blas xs (b + 1) n)) (all_of b xs a) (all_by xs a (b + 1) n)

pub flatten_map :
    {A B : Type 0} (f : A → List B) (xs ys : List A) → flatten (map f (xs ++ ys)) ≡ flatten (map f xs) ++ flatten (map f ys)
unfolding flatten
flatten_map f [] ys = refl
flatten_map f (x ∷ xs) ys = rw (flatten_map f xs ys, append_assoc)

-- ---- judged one by one

abbrev pub Fine : List Field → Held → Type 0
Fine fs x = judge_fields x.seen x.bytes 0 fs ≡ fine

module _ (fs : List Field) where
  pub fine_whole : (x : Held) → Fine fs x → total fs ≤ length x.bytes
  fine_whole x e = omega (arith, fields_whole fs x.seen x.bytes 0 (omega arith) e)

  record_apart :
      (c : Seen) (s : List ℕ) (at : ℕ)
      → at + total fs ≤ length s
      → judge_fields c s at fs ≡ moved at (judge_fields c (take (total fs) (drop at s)) 0 fs)
  record_apart c s at h =
      let l : length (take (total fs) (drop at s)) ≡ total fs = length-take-le (total fs) (drop at s) (rw length-drop (omega arith)) in
      rw add-zero at (fields_window (window_part at (total fs) s h) fs c 0 (omega arith))

  module _ (c : Seen) where
    pub records_each :
        (n : ℕ) (s : List ℕ) (at : ℕ)
        → at ≤ length s
        → judge_records c fs s at n ≡ fine
        → All (Fine fs) (records_from c (total fs) (drop at s) n)
    unfolding judge_records records_from
    records_each zero s at h e = tt
    records_each (suc n) s at h e =
        let x = or_fine (judge_fields c s at fs) _ e in
        let w = fields_whole fs c s at h x.0 in (
          moved_fine at _ (sym (record_apart c s at w) ∙ x.0),
          rw drop-drop (records_each n s (at + total fs) w x.1),
        )

    pub records-all :
        (n : ℕ) (s : List ℕ) (at : ℕ)
        → at + n * total fs ≤ length s
        → All (Fine fs) (records_from c (total fs) (drop at s) n)
        → judge_records c fs s at n ≡ fine
    unfolding judge_records records_from
    records-all zero s at h a = refl
    records-all (suc n) s at h a =
        let h' = rw suc-mul at h in
        rw (record_apart c s at (omega arith), a.0) (records-all n s (at + total fs) (omega arith) (rw drop-drop at a.1))

    pub records_count : (n : ℕ) (s : List ℕ) → length (records_from c (total fs) s n) ≡ n
    unfolding records_from
    records_count zero s = refl
    records_count (suc n) s = ap suc (records_count n (drop (total fs) s))

    pub records-seen : (n : ℕ) (s : List ℕ) → All (λ x. x.seen ≡ c) (records_from c (total fs) s n)
    unfolding records_from
    records-seen zero s = tt
    records-seen (suc n) s = (refl, records-seen n (drop (total fs) s))

-- the geometries that entries draw
abbrev geometry_fields : Version → List Field
geometry_fields v = (geometries v).fields

module _ (v : Version) (t : List ℕ) where
  pub drawn-each :
      (n q : ℕ) (s : List ℕ) (at : ℕ)
      → at ≤ length s
      → judge_drawn (geometry_fields v) t q s at n ≡ fine
      → All (Fine (geometry_fields v)) (drawn_from v t q (drop at s) n)
  unfolding judge_drawn drawn_from
  drawn-each zero q s at h e = tt
  drawn-each (suc n) q s at h e =
      let c = begin (size 5) t (of_boxes t q) in
      let x = or_fine (judge_records c (geometry_fields v) s at (drawn_count t q)) _ e in
      let w = records_whole c (geometry_fields v) s (drawn_count t q) at h x.0 in
      all_append (Fine (geometry_fields v)) (records_from c (size_in v 6) (drop at s) (drawn_count t q)) _
      (records_each (geometry_fields v) c (drawn_count t q) s at h x.0)
      (rw drop-drop (drawn-each n (q + size 5) s (at + drawn_count t q * size_in v 6) w x.1))

  pub drawn-all :
      (n q : ℕ) (s : List ℕ) (at : ℕ)
      → at + sum_of_counts t (size 5) (q + 3) n * size_in v 6 ≤ length s
      → All (Fine (geometry_fields v)) (drawn_from v t q (drop at s) n)
      → judge_drawn (geometry_fields v) t q s at n ≡ fine
  unfolding judge_drawn drawn_from sum_of_counts
  drawn-all zero q s at h a = refl
  drawn-all (suc n) q s at h a =
      let c = begin (size 5) t (of_boxes t q) in
      let e : q + 3 + 5 ≡ q + 5 + 3 = omega arith in
      let h' = rw e at h in
      let xs = records_from c (size_in v 6) (drop at s) (drawn_count t q) in
      let ys = drawn_from v t (q + size 5) (drop (drawn_count t q * size_in v 6) (drop at s)) n in
      rw (records-all (geometry_fields v) c (drawn_count t q) s at (omega arith) (all_left (Fine (geometry_fields v)) xs ys a))
      (drawn-all n (q + size 5) s (at + drawn_count t q * size_in v 6) (omega arith)
      (rw drop-drop at (all_right (Fine (geometry_fields v)) xs ys a)))

-- the records of a table are as long as they are asked to be, if it has so many
pub records_sized :
    (c : Seen) (w n : ℕ) (s : List ℕ) → n * w ≤ length s → All (λ x. length x.bytes ≡ w) (records_from c w s n)
unfolding records_from
records_sized c w zero s h = tt
records_sized c w (suc n) s h =
    let h' = rw suc-mul at h in
    (length-take-le w s (omega arith), records_sized c w n (drop w s) (rw length-drop (omega arith)))

-- those of its first bytes
pub records_first :
    (c : Seen) (w n : ℕ) (u r : List ℕ) → n * w ≤ length u → records_from c w (u ++ r) n ≡ records_from c w u n
unfolding records_from
records_first c w zero u r h = refl
records_first c w (suc n) u r h =
    let h' = rw suc-mul at h in
    rw (take-append-le w u r (omega arith), drop-append-le w u r (omega arith), records_first c w n (drop w u) r (rw length-drop (omega arith)))

pub drawn-first :
    (v : Version) (t : List ℕ) (n q : ℕ) (u r : List ℕ)
    → sum_of_counts t (size 5) (q + 3) n * size_in v 6 ≤ length u
    → drawn_from v t q (u ++ r) n ≡ drawn_from v t q u n
unfolding drawn_from sum_of_counts
drawn-first v t zero q u r h = refl
drawn-first v t (suc n) q u r h =
    let m = drawn_count t q in
    let e : q + 3 + 5 ≡ q + 5 + 3 = omega arith in
    let h' = rw e at h in
    rw (
      records_first (begin (size 5) t (of_boxes t q)) (size_in v 6) m u r (omega arith),
      drop-append-le (m * size_in v 6) u r (omega arith),
      drawn-first v t n (q + size 5) (drop (m * size_in v 6) u) r (rw length-drop (omega arith)),
    )

-- what g makes of each, w bytes each
pub flat_length :
    (w : ℕ) (g : Held → List ℕ) (xs : List Held) → All (λ x. length (g x) ≡ w) xs → length (flatten (map g xs)) ≡ length xs * w
unfolding flatten
flat_length w g [] l = rw zero-mul
flat_length w g (x ∷ xs) l = rw (length-append, l.0, flat_length w g xs l.1, suc-mul) (omega arith)

-- a table made of what g makes of each, w bytes each, and more
pub cut_at :
    (w : ℕ) (g : Held → List ℕ) (c : Seen) (xs : List Held) (rest : List ℕ)
    → All (λ x. x.seen ≡ c) xs
    → All (λ x. length (g x) ≡ w) xs
    → records_from c w (flatten (map g xs) ++ rest) (length xs) ≡ map (λ x. record { seen = x.seen; bytes = g x }) xs
unfolding records_from flatten
cut_at w g c [] rest s l = refl
cut_at w g c (x ∷ xs) rest s l =
    let t = flatten (map g xs) ++ rest in
    rw (append_assoc, take_at (g x) t w l.0, drop_at (g x) t w l.0, cut_at w g c xs rest s.1 l.1)
    (ap (λ (d : Seen). record { seen = d; bytes = g x } ∷ map (λ y. record { seen = y.seen; bytes = g y }) xs) (sym s.0))

-- ---- canonical records

module _ (fs : List Field) where
  abbrev pub bytes_in : Held → List ℕ
  bytes_in x = canonical_record fs x.seen x.bytes

  abbrev pub remade : Held → Held
  remade x = record { seen = x.seen; bytes = bytes_in x }

  whole_bytes : (xs : List Held) → All (Fine fs) xs → All (λ x. length (bytes_in x) ≡ total fs) xs
  whole_bytes [] a = tt
  whole_bytes (x ∷ xs) a = (canonical-length fs x.seen x.bytes (fine_whole fs x a.0), whole_bytes xs a.1)

  pub bytes-length : (xs : List Held) → All (Fine fs) xs → length (flatten (map bytes_in xs)) ≡ length xs * total fs
  bytes-length xs a = flat_length (total fs) bytes_in xs (whole_bytes xs a)

  -- a table made of them, and more
  pub cut :
      (c : Seen) (xs : List Held) (rest : List ℕ)
      → All (λ x. x.seen ≡ c) xs
      → All (Fine fs) xs
      → records_from c (total fs) (flatten (map bytes_in xs) ++ rest) (length xs) ≡ map remade xs
  cut c xs rest s a = cut_at (total fs) bytes_in c xs rest s (whole_bytes xs a)

  module _ (alike : (c : Seen) → Alike fs c c) where
    pub remade-fine : (xs : List Held) → All (Fine fs) xs → All (Fine fs) (map remade xs)
    remade-fine [] a = tt
    remade-fine (x ∷ xs) a = (fine-kept fs x.seen x.seen x.bytes (alike x.seen) a.0, remade-fine xs a.1)

    pub remade-means :
        (xs : List Held)
        → All (Fine fs) xs
        → map (λ x. record_meaning fs x.seen x.bytes) (map remade xs) ≡ map (λ x. record_meaning fs x.seen x.bytes) xs
    remade-means [] a = refl
    remade-means (x ∷ xs) a =
        rw (means_kept fs x.seen x.seen x.bytes (fine_whole fs x a.0) (alike x.seen), remade-means xs a.1)

-- the geometries that entries draw, of which g makes some of another version, whose size they have
pub cut_drawn_at :
    (v w : Version) (t : List ℕ) (g : Held → List ℕ) (n q : ℕ) (s rest : List ℕ)
    → All (λ x. length (g x) ≡ size_in w 6) (drawn_from v t q s n)
    → drawn_from w t q (flatten (map g (drawn_from v t q s n)) ++ rest) n
    ≡ map (λ x. record { seen = x.seen; bytes = g x }) (drawn_from v t q s n)
unfolding drawn_from
cut_drawn_at v w t g zero q s rest a = refl
cut_drawn_at v w t g (suc n) q s rest a =
    let c = begin (size 5) t (of_boxes t q) in
    let xs = records_from c (size_in v 6) s (drawn_count t q) in
    let ys = drawn_from v t (q + size 5) (drop (drawn_count t q * size_in v 6) s) n in
    let f : List Held → List ℕ = λ l. flatten (map g l) in
    let made : List Held → List Held = map (λ x. record { seen = x.seen; bytes = g x }) in
    let a₁ = all_left (λ x. length (g x) ≡ size_in w 6) xs ys a in
    let m : length xs ≡ drawn_count t q = records_count (geometry_fields v) c (drawn_count t q) s in
    let e : f (xs ++ ys) ++ rest ≡ f xs ++ (f ys ++ rest) = rw (flatten_map g xs ys) (append_assoc (f xs) (f ys) rest) in
    let l : length (f xs) ≡ drawn_count t q * size_in w 6 = flat_length (size_in w 6) g xs a₁ ∙ ap (λ (k : ℕ). k * size_in w 6) m in
    let r : records_from c (size_in w 6) (f xs ++ (f ys ++ rest)) (drawn_count t q) ≡ made xs =
    subst (λ (k : ℕ). records_from c (size_in w 6) (f xs ++ (f ys ++ rest)) k ≡ made xs) m
    (cut_at (size_in w 6) g c xs (f ys ++ rest) (records-seen (geometry_fields v) c (drawn_count t q) s) a₁) in
    rw (e, r, drop_at (f xs) (f ys ++ rest) (drawn_count t q * size_in w 6) l, cut_drawn_at v w t g n (q + size 5) (drop (drawn_count t q * size_in v 6) s) rest (all_right (λ x. length (g x) ≡ size_in w 6) xs ys a))
    (sym (map-append (λ x. record { seen = x.seen; bytes = g x }) xs ys))

-- made canonical
pub cut_drawn :
    (v : Version) (t : List ℕ) (n q : ℕ) (s rest : List ℕ)
    → All (Fine (geometry_fields v)) (drawn_from v t q s n)
    → drawn_from v t q (flatten (map (bytes_in (geometry_fields v)) (drawn_from v t q s n)) ++ rest) n
    ≡ map (remade (geometry_fields v)) (drawn_from v t q s n)
cut_drawn v t n q s rest a =
    cut_drawn_at v v t (bytes_in (geometry_fields v)) n q s rest (whole_bytes (geometry_fields v) (drawn_from v t q s n) a)
