-- Geometries in the other version: they are judged as they were, they are the same geometries, and converted back they have their bytes.
use Prim.Native.Nat.{ℕ, zero, suc, ◌+◌, ◌*◌, ◌/◌, ◌^◌, ◌≤◌, ◌<◌}
use native.Mathlib.Nat.{add-zero, zero-add, zero-mul, suc-mul, mul-div_cancel, mul-mod_left, mul-le-mul_right, div-add-mod'}
use native.Mathlib.Decide.{dec_lt}
use native.Mathlib.Omega.{arith}
use mathlib.Core.Path.{◌≡◌, refl, sym, ap, ◌∙◌}
use mathlib.Core.List.{List, [], ◌∷◌, ◌++◌, map, flatten, append_assoc, append-nil}
use lib.ListN.{length, take, drop, length-append, length-drop, take-append-drop, drop_of_length-le}
use lib.Seq.{length-take-le, drop-drop, take_at, drop_at, take-add, take_all, take-nil}
use borrow.Author.Tests.{le-ltb, eqb-true}
use Rattle.wire.specs.Wire.{le_at, le_bytes}
use Rattle.wire.proofs.Laws.{le_drop, le_take, le_of_bytes, le_bytes-at, length-le_bytes}
use Rattle.ray_tracing.specs.declared.Version.{Version}
use Rattle.ray_tracing.specs.declared.Version.TheVariants as version
use Rattle.ray_tracing.specs.declared.BlasGeometry.{BlasGeometry}
use Rattle.ray_tracing.specs.Layout.{Seen, Field, always, any, u8, u32, wide, geometries, offset_width, size, size_in, total, place_of, width_of}
use Rattle.ray_tracing.specs.Reading.{fine, judge_field, judge_fields, judge_lent, sum_of_counts, begin, of_boxes, drawn_count}
use Rattle.ray_tracing.specs.Records.{field_of, geometry_at}
use Rattle.ray_tracing.specs.Meaning.{Held, records_from, drawn_from}
use Rattle.ray_tracing.specs.Conversion.{converted_record, converted_records, converted_table}
use Rattle.ray_tracing.proofs.Instances.{Below}
use Rattle.ray_tracing.proofs.Reading.{or_fine}
use Rattle.ray_tracing.proofs.Sheets.{Lent, lent_tells, lent_of, moved_fine}
use Rattle.ray_tracing.proofs.Windows.{moved}
use Rattle.ray_tracing.proofs.Versions.{geometry-size}
use Rattle.ray_tracing.proofs.Each.{size-positive}
use Rattle.ray_tracing.proofs.Zeroed.{le_zero, rest_judged}
use Rattle.ray_tracing.proofs.Held.{All, all_append, Fine, records_sized, drawn-each, drawn-all, flatten_map, cut_drawn_at}
use Rattle.ray_tracing.proofs.TableMeaning.{below-take, below-drop}

-- ---- a field by its record

width_within : (fs : List Field) (j : ℕ) → total (take j fs) + width_of fs j ≤ total fs
width_within [] zero = omega arith
width_within [] (suc j) = omega arith
width_within (f ∷ fs) zero = omega arith
width_within (f ∷ fs) (suc j) = omega (arith, width_within fs j)

field_part : (fs : List Field) (t : List ℕ) (at j : ℕ) → field_of fs t at j ≡ field_of fs (take (total fs) (drop at t)) 0 j
field_part fs t at zero =
    sym (le_take (width_of fs 0) (total fs) (drop at t) 0 (omega (arith, width_within fs 0)) ∙ le_drop (width_of fs 0) at t 0 ∙ rw add-zero)
field_part fs t at (suc j) =
    rw zero-add
    (sym
    (le_take (width_of fs (suc j)) (total fs) (drop at t) (total (take (suc j) fs)) (omega (arith, width_within fs (suc j)))
    ∙ le_drop (width_of fs (suc j)) at t (total (take (suc j) fs))))

-- a geometry by its bytes
geometry_part : (v : Version) (t : List ℕ) (at : ℕ) → geometry_at v t at ≡ geometry_at v (take (size_in v 6) (drop at t)) 0
geometry_part v t at =
    let f = field_part (geometries v).fields t at in
    λ i. record {
      flags = f 0 i;
      count = f 1 i;
      first = f 2 i;
      stride = f 3 i;
      buffer = record { 0 = f 4 i };
      vertex_format = f 5 i;
      index_format = f 6 i;
      index_buffer = record { 0 = f 7 i };
      index_count_present = f 8 i;
      index_count = f 9 i;
      first_index_present = f 10 i;
      first_index = f 11 i;
      transform_buffer = record { 0 = f 12 i };
      transform_buffer_offset_present = f 13 i;
      transform_buffer_offset = f 14 i;
    }

-- past the end there are zeros
abbrev no_geometry : BlasGeometry
no_geometry =
    record {
      flags = 0;
      count = 0;
      first = 0;
      stride = 0;
      buffer = record { 0 = 0 };
      vertex_format = 0;
      index_format = 0;
      index_buffer = record { 0 = 0 };
      index_count_present = 0;
      index_count = 0;
      first_index_present = 0;
      first_index = 0;
      transform_buffer = record { 0 = 0 };
      transform_buffer_offset_present = 0;
      transform_buffer_offset = 0;
    }

le_nil : (w at : ℕ) → le_at w [] at ≡ 0
le_nil w at = le_zero w [] at (λ i. refl)

past_end : (v : Version) (t : List ℕ) (at : ℕ) → length t ≤ at → geometry_at v t at ≡ no_geometry
past_end v t at h =
    geometry_part v t at
    ∙ ap (λ (u : List ℕ). geometry_at v (take (size_in v 6) u) 0) (drop_of_length-le t h)
    ∙ ap (λ (u : List ℕ). geometry_at v u 0) (take-nil (size_in v 6))
    ∙ (λ i. record {
      flags = le_nil 1 0 i;
      count = le_nil 4 1 i;
      first = le_nil (offset_width v) 5 i;
      stride = le_nil 8 (place_of (geometries v).fields 0 3) i;
      buffer = record { 0 = le_nil 2 (place_of (geometries v).fields 0 4) i };
      vertex_format = le_nil 1 (place_of (geometries v).fields 0 5) i;
      index_format = le_nil 1 (place_of (geometries v).fields 0 6) i;
      index_buffer = record { 0 = le_nil 2 (place_of (geometries v).fields 0 7) i };
      index_count_present = le_nil 1 (place_of (geometries v).fields 0 8) i;
      index_count = le_nil 4 (place_of (geometries v).fields 0 9) i;
      first_index_present = le_nil 1 (place_of (geometries v).fields 0 10) i;
      first_index = le_nil 4 (place_of (geometries v).fields 0 11) i;
      transform_buffer = record { 0 = le_nil 2 (place_of (geometries v).fields 0 12) i };
      transform_buffer_offset_present = le_nil 1 (place_of (geometries v).fields 0 13) i;
      transform_buffer_offset = le_nil 8 (place_of (geometries v).fields 0 14) i;
    })

-- ---- one geometry

-- a geometry's fields up to its offset, and after it, which are the same in either version
abbrev up_to : Version → List Field → List Field
up_to v fs = u8 always any ∷ u32 always any ∷ wide (offset_width v) always any ∷ fs

abbrev later : List Field
later = drop 3 (geometries version.One).fields

-- those up to it may have any value
up_to-after : (v : Version) (c : Seen) (r : List ℕ) (fs : List Field) → judge_fields c r 0 (up_to v fs) ≡ fine → judge_fields c r (5 + offset_width v) fs ≡ fine
unfolding judge_fields
up_to-after v c r fs e =
    let x = or_fine (judge_field c r 0 (u8 always any)) _ e in
    let y = or_fine (judge_field c r 1 (u32 always any)) _ x.1 in
    (or_fine (judge_field c r 5 (wide (offset_width v) always any)) _ y.1).1

up_to-before :
    (v : Version) (c : Seen) (r : List ℕ) (fs : List Field)
    → 5 + offset_width v ≤ length r
    → judge_fields c r (5 + offset_width v) fs ≡ fine
    → judge_fields c r 0 (up_to v fs) ≡ fine
unfolding judge_fields
up_to-before v c r fs h e =
    rw (le-ltb (length r) 1 (omega arith), le-ltb (length r) 5 (omega arith), le-ltb (length r) (5 + offset_width v) h) e

-- u is r with its offset in w's width
record Beside (v w : Version) (r u : List ℕ) : Type 0 where
  front : take 5 u ≡ take 5 r
  value : le_at (offset_width w) u 5 ≡ le_at (offset_width v) r 5
  rest : drop (5 + offset_width w) u ≡ drop (5 + offset_width v) r

module _ (v w : Version) (r : List ℕ) (h : length r ≡ size_in v 6) where
  front_length : length (take 5 r) ≡ 5
  front_length = length-take-le 5 r (omega (arith, h, geometry-size v))

  pub record_length : length (converted_record v w r) ≡ size_in w 6
  unfolding converted_record
  record_length =
      rw (length-append, length-append, front_length, length-le_bytes, length-drop, h)
      (omega (arith, geometry-size v, geometry-size w))

  abbrev after : List ℕ
  after = drop (5 + offset_width v) r

  past_front : drop 5 (converted_record v w r) ≡ le_bytes (offset_width w) (le_at (offset_width v) r 5) ++ after
  unfolding converted_record
  past_front = drop_at (take 5 r) _ 5 front_length

  record_rest : drop (5 + offset_width w) (converted_record v w r) ≡ after
  record_rest =
      sym (drop-drop (offset_width w) 5 (converted_record v w r))
      ∙ ap (drop (offset_width w)) past_front
      ∙ drop_at (le_bytes (offset_width w) (le_at (offset_width v) r 5)) after (offset_width w) (length-le_bytes (offset_width w) (le_at (offset_width v) r 5))

  record_beside : le_at (offset_width v) r 5 < 256 ^ offset_width w → Beside v w r (converted_record v w r)
  record_beside l =
      record {
        front = unfold converted_record in take_at (take 5 r) _ 5 front_length;
        value =
            sym (le_drop (offset_width w) 5 (converted_record v w r) 0)
            ∙ ap (λ (x : List ℕ). le_at (offset_width w) x 0) past_front
            ∙ le_of_bytes (offset_width w) (le_at (offset_width v) r 5) after l;
        rest = record_rest;
      }

  -- the other way
  back : (u : List ℕ) → Beside v w r u → Below r → converted_record w v u ≡ r
  unfolding converted_record
  back u e b =
      rw (e.front, e.value, e.rest, le_bytes-at (offset_width v) r 5 b (omega (arith, h, geometry-size v)))
      (ap (λ (x : List ℕ). take 5 r ++ x)
      (ap (λ (x : List ℕ). take (offset_width v) (drop 5 r) ++ x) (sym (drop-drop (offset_width v) 5 r))
      ∙ take-append-drop (offset_width v) (drop 5 r))
      ∙ take-append-drop 5 r)

  -- it is judged as it was
  pub record_fine :
      (c : Seen)
      → judge_fields c r 0 (geometries v).fields ≡ fine
      → judge_fields c (converted_record v w r) 0 (geometries w).fields ≡ fine
  record_fine c e =
      let l = record_length in
      let k : judge_fields c after 0 later ≡ fine =
      moved_fine (5 + offset_width v) _
      (sym (rest_judged later c (5 + offset_width v) r (omega (arith, h, geometry-size v))) ∙ up_to-after v c r later e) in
      up_to-before w c (converted_record v w r) later (omega (arith, l, geometry-size w))
      (rest_judged later c (5 + offset_width w) (converted_record v w r) (omega (arith, l, geometry-size w))
      ∙ ap (λ (x : List ℕ). moved (5 + offset_width w) (judge_fields c x 0 later)) record_rest
      ∙ ap (moved (5 + offset_width w)) k)

-- ---- the geometry itself

module _ (v w : Version) (r u : List ℕ) (e : Beside v w r u) where
  -- a number before the offset, and field j, which stands d bytes after it
  before_same : (x p : ℕ) → p + x ≤ 5 → le_at x u p ≡ le_at x r p
  before_same x p h = sym (le_take x 5 u p h) ∙ ap (λ (y : List ℕ). le_at x y p) e.front ∙ le_take x 5 r p h

  abbrev place : Version → ℕ → ℕ
  place x j = place_of (geometries x).fields 0 j

  after_same :
      (x j d : ℕ) → place w j ≡ 5 + offset_width w + d → place v j ≡ 5 + offset_width v + d → le_at x u (place w j) ≡ le_at x r (place v j)
  after_same x j d a b =
      ap (le_at x u) a
      ∙ sym (le_drop x (5 + offset_width w) u d)
      ∙ ap (λ (y : List ℕ). le_at x y d) e.rest
      ∙ le_drop x (5 + offset_width v) r d
      ∙ sym (ap (le_at x r) b)

  geometry_beside : geometry_at w u 0 ≡ geometry_at v r 0
  geometry_beside =
      λ i. record {
        flags = before_same 1 0 (omega arith) i;
        count = before_same 4 1 (omega arith) i;
        first = e.value i;
        stride = after_same 8 3 0 (omega arith) (omega arith) i;
        buffer = record { 0 = after_same 2 4 8 (omega arith) (omega arith) i };
        vertex_format = after_same 1 5 10 (omega arith) (omega arith) i;
        index_format = after_same 1 6 11 (omega arith) (omega arith) i;
        index_buffer = record { 0 = after_same 2 7 12 (omega arith) (omega arith) i };
        index_count_present = after_same 1 8 14 (omega arith) (omega arith) i;
        index_count = after_same 4 9 15 (omega arith) (omega arith) i;
        first_index_present = after_same 1 10 19 (omega arith) (omega arith) i;
        first_index = after_same 4 11 20 (omega arith) (omega arith) i;
        transform_buffer = record { 0 = after_same 2 12 24 (omega arith) (omega arith) i };
        transform_buffer_offset_present = after_same 1 13 26 (omega arith) (omega arith) i;
        transform_buffer_offset = after_same 8 14 27 (omega arith) (omega arith) i;
      }

-- ---- many

-- what is made of one
abbrev pub convert : Version → Version → Held → List ℕ
convert v w x = converted_record v w x.bytes

module _ (v w : Version) where
  abbrev each : ℕ
  each = size_in v 6

  pub records_split :
      (a b : ℕ) (s : List ℕ)
      → converted_records v w s (a + b) ≡ converted_records v w s a ++ converted_records v w (drop (a * each) s) b
  unfolding converted_records
  records_split zero b s = rw (zero-add, zero-mul)
  records_split (suc a) b s =
      let e : suc a + b ≡ suc (a + b) = omega arith in
      let d : each + a * each ≡ suc a * each = omega (arith, suc-mul a each) in
      rw (e, records_split a b (drop each s), drop-drop, d)
      (sym (append_assoc (converted_record v w (take each s)) (converted_records v w (drop each s) a) (converted_records v w (drop (suc a * each) s) b)))

  records-of : (c : Seen) (n : ℕ) (s : List ℕ) → converted_records v w s n ≡ flatten (map (convert v w) (records_from c each s n))
  unfolding converted_records records_from flatten
  records-of c zero s = refl
  records-of c (suc n) s = rw (records-of c n (drop each s))

  drawn_of :
      (t : List ℕ) (n q : ℕ) (s : List ℕ)
      → converted_records v w s (sum_of_counts t (size 5) (q + 3) n) ≡ flatten (map (convert v w) (drawn_from v t q s n))
  unfolding drawn_from sum_of_counts
  drawn_of t zero q s = unfold converted_records flatten in refl
  drawn_of t (suc n) q s =
      let c = begin (size 5) t (of_boxes t q) in
      let m = drawn_count t q in
      let e : q + 3 + 5 ≡ q + 5 + 3 = omega arith in
      rw (e, records_split m (sum_of_counts t (size 5) (q + 5 + 3) n) s, records-of c m s, drawn_of t n (q + 5) (drop (m * each) s))
      (sym (flatten_map (convert v w) (records_from c each s m) (drawn_from v t (q + 5) (drop (m * each) s) n)))

  -- as long as they are asked to be
  drawn-sized :
      (t : List ℕ) (n q : ℕ) (s : List ℕ)
      → sum_of_counts t (size 5) (q + 3) n * each ≤ length s
      → All (λ x. length x.bytes ≡ each) (drawn_from v t q s n)
  unfolding drawn_from sum_of_counts
  drawn-sized t zero q s h = tt
  drawn-sized t (suc n) q s h =
      let c = begin (size 5) t (of_boxes t q) in
      let m = drawn_count t q in
      let e : q + 3 + 5 ≡ q + 5 + 3 = omega arith in
      let h' = rw e at h in
      all_append (λ x. length x.bytes ≡ each) (records_from c each s m) _
      (records_sized c each m s (omega arith))
      (drawn-sized t n (q + 5) (drop (m * each) s) (rw length-drop (omega arith)))

  convert_sized : (xs : List Held) → All (λ x. length x.bytes ≡ each) xs → All (λ x. length (convert v w x) ≡ size_in w 6) xs
  convert_sized [] a = tt
  convert_sized (x ∷ xs) a = (record_length v w x.bytes a.0, convert_sized xs a.1)

  convert_fine :
      (xs : List Held)
      → All (λ x. length x.bytes ≡ each) xs
      → All (Fine (geometries v).fields) xs
      → All (Fine (geometries w).fields) (map (λ x. record { seen = x.seen; bytes = convert v w x }) xs)
  convert_fine [] a f = tt
  convert_fine (x ∷ xs) a f = (record_fine v w x.bytes a.0 x.seen f.0, convert_fine xs a.1 f.1)

  records_length : (n : ℕ) (s : List ℕ) → n * each ≤ length s → length (converted_records v w s n) ≡ n * size_in w 6
  unfolding converted_records
  records_length zero s h = rw zero-mul
  records_length (suc n) s h =
      let h' = rw suc-mul at h in
      rw (
        length-append,
        record_length v w (take each s) (length-take-le each s (omega arith)),
        records_length n (drop each s) (rw length-drop (omega arith)),
        suc-mul,
      )
      (omega arith)

  -- the g-th of them
  nth : (n : ℕ) (s : List ℕ) (g : ℕ) → n * each ≤ length s → g < n
      → take (size_in w 6) (drop (g * size_in w 6) (converted_records v w s n)) ≡ converted_record v w (take each (drop (g * each) s))
  unfolding converted_records
  nth zero s g h l = absurd (omega arith)
  nth (suc n) s zero h l =
      let h' = rw suc-mul at h in
      rw (zero-mul, zero-mul) (take_at (converted_record v w (take each s)) _ (size_in w 6) (record_length v w (take each s) (length-take-le each s (omega arith))))
  nth (suc n) s (suc g) h l =
      let h' = rw suc-mul at h in
      let a : suc g * size_in w 6 ≡ size_in w 6 + g * size_in w 6 = omega (arith, suc-mul g (size_in w 6)) in
      let b : suc g * each ≡ each + g * each = omega (arith, suc-mul g each) in
      let r = converted_record v w (take each s) in
      let u = converted_records v w (drop each s) n in
      rw (
        a,
        b,
        ← drop-drop (g * size_in w 6) (size_in w 6) (r ++ u),
        ← drop-drop (g * each) each s,
        drop_at r u (size_in w 6) (record_length v w (take each s) (length-take-le each s (omega arith))),
      )
      (nth n (drop each s) g (rw length-drop (omega arith)) (omega arith))

-- every offset of the n geometries of s fits into w's width
abbrev pub Fits : Version → Version → List ℕ → ℕ → Type 0
Fits v w s n = (g : ℕ) → g < n → le_at (offset_width v) s (g * size_in v 6 + 5) < 256 ^ offset_width w

module _ (v w : Version) (n : ℕ) (s : List ℕ) (h : n * size_in v 6 ≤ length s) (fit : Fits v w s n) where
  abbrev part : ℕ → List ℕ
  part g = take (size_in v 6) (drop (g * size_in v 6) s)

  part_length : (g : ℕ) → g < n → length (part g) ≡ size_in v 6
  part_length g l =
      length-take-le (size_in v 6) (drop (g * size_in v 6) s)
      (rw length-drop (omega (arith, suc-mul g (size_in v 6), mul-le-mul_right (size_in v 6) l)))

  part_fits : (g : ℕ) → g < n → le_at (offset_width v) (part g) 5 < 256 ^ offset_width w
  part_fits g l =
      rw (le_take (offset_width v) (size_in v 6) (drop (g * size_in v 6) s) 5 (omega (arith, geometry-size v)), le_drop) (fit g l)

  -- each is the same geometry
  pub geometry_same : (g : ℕ) → g < n → geometry_at w (converted_records v w s n) (g * size_in w 6) ≡ geometry_at v s (g * size_in v 6)
  geometry_same g l =
      geometry_part w (converted_records v w s n) (g * size_in w 6)
      ∙ ap (λ (x : List ℕ). geometry_at w x 0) (nth v w n s g h l)
      ∙ geometry_beside v w (part g) (converted_record v w (part g)) (record_beside v w (part g) (part_length g l) (part_fits g l))
      ∙ sym (geometry_part v s (g * size_in v 6))

-- converted back
pub records_back :
    (v w : Version) (n : ℕ) (s : List ℕ)
    → n * size_in v 6 ≤ length s
    → Fits v w s n
    → Below s
    → converted_records w v (converted_records v w s n) n ≡ take (n * size_in v 6) s
unfolding converted_records
records_back v w zero s h fit b = rw zero-mul
records_back v w (suc n) s h fit b =
    let each = size_in v 6 in
    let h' = rw suc-mul at h in
    let r = take each s in
    let u = converted_records v w (drop each s) n in
    let l = length-take-le each s (omega arith) in
    let m = record_length v w r l in
    let f : le_at (offset_width v) r 5 < 256 ^ offset_width w = rw zero-mul at (part_fits v w (suc n) s h fit 0 (omega arith)) in
    let e : suc n * each ≡ each + n * each = omega (arith, suc-mul n each) in
    rw (
      take_at (converted_record v w r) u (size_in w 6) m,
      drop_at (converted_record v w r) u (size_in w 6) m,
      back v w r l (converted_record v w r) (record_beside v w r l f) (below-take each s b),
      records_back v w n (drop each s) (rw length-drop (omega arith)) (fits_after v w n s fit) (below-drop each s b),
      e,
    )
    (sym (take-add each (n * each) s))
  where
    fits_after : (v w : Version) (n : ℕ) (s : List ℕ) → Fits v w s (suc n) → Fits v w (drop (size_in v 6) s) n
    fits_after v w n s fit g l =
        let e : size_in v 6 + (g * size_in v 6 + 5) ≡ suc g * size_in v 6 + 5 = omega (arith, suc-mul g (size_in v 6)) in
        rw (le_drop, e) (fit (suc g) (omega arith))

-- ---- a table

module _ (v w : Version) (t s : List ℕ) (f : judge_lent 6 (geometries v) (size 5) t s ≡ fine) where
  abbrev many : ℕ
  many = length s / size_in v 6

  lent : Lent 6 (geometries v) (size 5) t s
  lent = lent_tells 6 (geometries v) (size 5) t s f

  abbrev entries : ℕ
  entries = length t / size 5

  counted : sum_of_counts t (size 5) 3 entries ≡ many
  counted = eqb-true (sum_of_counts t (size 5) 3 entries) many lent.sum

  pub many_size : many * size_in v 6 ≡ length s
  many_size = omega (arith, lent.whole, div-add-mod' (length s) (size_in v 6))

  pub table-length : length (converted_table v w s) ≡ many * size_in w 6
  table-length = records_length v w many s (omega (arith, many_size))

  pub table_many : length (converted_table v w s) / size_in w 6 ≡ many
  table_many = rw table-length (mul-div_cancel many (size-positive w 6 (omega arith)))

  sized : All (λ x. length x.bytes ≡ size_in v 6) (drawn_from v t 0 s entries)
  sized = drawn-sized v w t entries 0 s (rw counted (omega (arith, many_size)))

  table-drawn : converted_table v w s ≡ flatten (map (convert v w) (drawn_from v t 0 s entries))
  table-drawn = ap (converted_records v w s) (sym counted) ∙ drawn_of v w t entries 0 s

  drawn_are :
      drawn_from w t 0 (converted_table v w s) entries
      ≡ map (λ x. record { seen = x.seen; bytes = convert v w x }) (drawn_from v t 0 s entries)
  drawn_are =
      ap (λ (u : List ℕ). drawn_from w t 0 u entries) (table-drawn ∙ sym (append-nil (flatten (map (convert v w) (drawn_from v t 0 s entries)))))
      ∙ cut_drawn_at v w t (convert v w) entries 0 s [] (convert_sized v w (drawn_from v t 0 s entries) sized)

  -- it draws no refusal
  pub table-lent : judge_lent 6 (geometries w) (size 5) t (converted_table v w s) ≡ fine
  table-lent =
      lent_of 6 (geometries w) (size 5) t (converted_table v w s)
      (record {
        few = rw table_many lent.few;
        sum = rw table_many lent.sum;
        records =
            drawn-all w t entries 0 (converted_table v w s) 0 (rw counted (omega (arith, table-length)))
            (rw drawn_are
            (convert_fine v w (drawn_from v t 0 s entries) sized (drawn-each v t entries 0 s 0 (omega arith) lent.records)));
        whole = rw table-length (mul-mod_left many (size_in w 6));
      })

  module _ (fit : Fits v w s many) where
    pub table-back : Below s → converted_table w v (converted_table v w s) ≡ s
    table-back b =
        ap (converted_records w v (converted_table v w s)) table_many
        ∙ records_back v w many s (omega (arith, many_size)) fit b
        ∙ take_all (many * size_in v 6) s (omega (arith, many_size))

    -- the same geometries, and none past them
    pub table_same : (g : ℕ) → geometry_at w (converted_table v w s) (g * size_in w 6) ≡ geometry_at v s (g * size_in v 6)
    table_same g =
        elim (dec_lt g many) [
          | yes l ↦ geometry_same v w many s (omega (arith, many_size)) fit g l
          | no l ↦ past_end w (converted_table v w s) (g * size_in w 6) (omega (arith, table-length, mul-le-mul_right (size_in w 6) (not-lt l)))
              ∙ sym (past_end v s (g * size_in v 6) (omega (arith, many_size, mul-le-mul_right (size_in v 6) (not-lt l))))
        ]
      where
        not-lt : ¬ (g < many) → many ≤ g
        not-lt l = omega arith
