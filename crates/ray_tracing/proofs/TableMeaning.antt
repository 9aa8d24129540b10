-- A canonical table means what the table did, and is the bytes of that meaning. A table whose fields are all used is canonical.
use Prim.Native.Nat.{ℕ, zero, suc, ◌+◌, ◌-◌, ◌*◌, ◌/◌, ◌<◌}
use native.Mathlib.Nat.{zero-mul, suc-mul, div-add-mod'}
use native.Mathlib.Decide.{dec_lt}
use native.Mathlib.Omega.{arith}
use mathlib.Core.Bool.{Bool, true, false, ◌||◌, cond, true≢false}
use mathlib.Core.Path.{◌≡◌, refl, sym, ap, ◌∙◌}
use mathlib.Core.List.{List, [], ◌∷◌, map, flatten}
use mathlib.Core.Option.{Option}
use lib.Dec.{eqb}
use lib.ListN.{length, take, drop, length-take, get_or-eq_default}
use lib.Seq.{take-take, take-add, take_all, get_or-take, get_or-drop}
use Rattle.wire.specs.Wire.{le_at}
use Rattle.wire.proofs.Laws.{le_append_left, le_take}
use Rattle.ray_tracing.specs.declared.Version.{Version}
use Rattle.ray_tracing.specs.declared.Version.TheVariants as version
use Rattle.ray_tracing.specs.Layout.{Seen, Field, layout, layout_in, total, size, size_in}
use Rattle.ray_tracing.specs.Reading.{fine, judge_lent, begin, of_boxes, drawn_count}
use Rattle.ray_tracing.specs.Meaning.{Held, records_from, drawn_from, records_of, of_blas, by_blas, declared_lists, held_meaning}
use Rattle.ray_tracing.specs.Canonical.{canonical_record, in_order, canonical_table}
use Rattle.ray_tracing.proofs.Each.{each}
use Rattle.ray_tracing.proofs.Instances.{Below}
use Rattle.ray_tracing.proofs.Sheets.{lent_tells}
use Rattle.ray_tracing.proofs.Zeroed.{layouts_alike, record_of, of_meaning}
use Rattle.ray_tracing.proofs.Held.{All, all_append, all_of, Fine, fine_whole, bytes_in, remade, remade-means, flatten_map}
use Rattle.ray_tracing.proofs.ByBlas.{blas_of, by_ordered, by_map}
use Rattle.ray_tracing.proofs.CanonicalTable.{Made}

-- ---- fields that are all used

-- the sections that have fields which may be unused
abbrev pub may_be_unused : ℕ → Bool
may_be_unused k = eqb k 3 || (eqb k 6 || (eqb k 8 || eqb k 9))

abbrev AllUsed : List Field → Type 0
AllUsed [] = Unit {0}
AllUsed (f ∷ fs) = ((c : Seen) → f.used c ≡ true) × AllUsed fs

used-kept : (fs : List Field) → AllUsed fs → (c : Seen) (r : List ℕ) → canonical_record fs c r ≡ take (total fs) r
unfolding canonical_record
used-kept [] u c r = refl
used-kept (f ∷ fs) u c r =
    rw (u.0 c, used-kept fs u.1 (f.after c (le_at f.width r 0)) (drop f.width r)) (sym (take-add f.width (total fs) r))

records_joined :
    (fs : List Field)
    → AllUsed fs
    → (c : Seen) (n : ℕ) (s : List ℕ)
    → flatten (map (bytes_in fs) (records_from c (total fs) s n)) ≡ take (n * total fs) s
unfolding records_from flatten
records_joined fs u c zero s = rw zero-mul
records_joined fs u c (suc n) s =
    let e : total fs + n * total fs ≡ n * total fs + total fs = omega arith in
    rw (used-kept fs u c (take (total fs) s), take-take (total fs) (total fs) s (omega arith), records_joined fs u c n (drop (total fs) s), suc-mul)
    (sym (take-add (total fs) (n * total fs) s) ∙ ap (λ (m : ℕ). take m s) e)

used-fields : (v : Version) (k : ℕ) → k < 10 → may_be_unused k ≡ false → AllUsed (layout_in v k).fields
used-fields v =
    each (λ (k : ℕ). may_be_unused k ≡ false → AllUsed (layout_in v k).fields) 10 (
      (λ e. (yes', (yes', tt))),
      (
        (λ e. (yes', (yes', tt))),
        (
          (λ e. (yes', (yes', (yes', (yes', (yes', (yes', (yes', tt)))))))),
          (
            (λ e. absurd (true≢false e)),
            (
              (λ e. (yes', (yes', (yes', (yes', (yes', tt)))))),
              (
                (λ e. (yes', (yes', (yes', tt)))),
                (
                  (λ e. absurd (true≢false e)),
                  (
                    (λ e. (yes', (yes', tt))),
                    ((λ e. absurd (true≢false e)), ((λ e. absurd (true≢false e)), tt)),
                  ),
                ),
              ),
            ),
          ),
        ),
      ),
    )
  where
    yes' : Seen → true ≡ true
    yes' c = refl

pub or_false : (a b : Bool) → (a || b) ≡ false → (a ≡ false) × (b ≡ false)
or_false false b e = (refl, e)
or_false true b e = absurd (true≢false e)

pub used-table :
    (v : Version) (k : ℕ)
    → k < 10
    → may_be_unused k ≡ false
    → (t s : List ℕ)
    → judge_lent k (layout_in v k) (size_in v (k - 1)) t s ≡ fine
    → canonical_table v k t s ≡ s
unfolding canonical_table
used-table v k h u t s f =
    let a = or_false (eqb k 3) _ u in
    let b = or_false (eqb k 6) _ a.1 in
    let l = lent_tells k (layout_in v k) (size_in v (k - 1)) t s f in
    let n = length s / size_in v k in
    let c = begin (size_in v (k - 1)) t false in
    let o : in_order v k t s ≡ records_from c (size_in v k) s n =
    ap (λ (x : Bool). cond x (flatten (declared_lists t s)) (records_of v k t s)) a.0
    ∙ ap (λ (x : Bool). cond x (drawn_from v t 0 s (length t / size 5)) (records_from c (size_in v k) s n)) b.0 in
    ap (λ (xs : List Held). flatten (map (bytes_in (layout_in v k).fields) xs)) o
    ∙ records_joined (layout_in v k).fields (used-fields v k h u) c n s
    ∙ take_all (n * size_in v k) s (omega (arith, l.whole, div-add-mod' (length s) (size_in v k)))

-- ---- what it means

module _ (v : Version) (k : ℕ) (h : k < 10) (t s : List ℕ) (m : Made v k t s) where
  pub table_means : eqb k 3 ≡ false → map (held_meaning v k) (records_of v k t (canonical_table v k t s)) ≡ map (held_meaning v k) (records_of v k t s)
  table_means e =
      let o : in_order v k t s ≡ records_of v k t s = rw e in
      rw (m.records', o) (remade-means (layout_in v k).fields (layouts_alike v k h) (records_of v k t s) m.held)

abbrev declared_fields : List Field
declared_fields = (layout 3).fields

blas-kept : (x : Held) → Fine declared_fields x → blas_of (remade declared_fields x) ≡ blas_of x
unfolding canonical_record
blas-kept x e =
    let l = fine_whole declared_fields x e in
    le_append_left 2 (take 2 x.bytes) _ 0 (rw length-take (omega arith)) ∙ le_take 2 2 x.bytes 0 (omega arith)

all_blas_kept : (xs : List Held) → All (Fine declared_fields) xs → All (λ x. blas_of (remade declared_fields x) ≡ blas_of x) xs
all_blas_kept [] a = tt
all_blas_kept (x ∷ xs) a = (blas-kept x a.0, all_blas_kept xs a.1)

lists_mean :
    (xs : List Held)
    → All (Fine declared_fields) xs
    → (n b : ℕ)
    → map (map (held_meaning version.One 3)) (map (map (remade declared_fields)) (by_blas xs b n)) ≡ map (map (held_meaning version.One 3)) (by_blas xs b n)
unfolding by_blas
lists_mean xs a zero b = refl
lists_mean xs a (suc n) b =
    rw (remade-means declared_fields (layouts_alike version.One 3 (omega arith)) (of_blas b xs) (all_of (Fine declared_fields) b xs a), lists_mean xs a n (b + 1))

pub declared_means :
    (v : Version) (t s : List ℕ)
    → Made v 3 t s
    → map (map (held_meaning version.One 3)) (declared_lists t (canonical_table v 3 t s)) ≡ map (map (held_meaning version.One 3)) (declared_lists t s)
declared_means v t s m =
    let xs = records_of v 3 t s in
    let n = length t / size 2 in
    rw (m.records', by_map (remade declared_fields) (in_order v 3 t s) (all_blas_kept (in_order v 3 t s) m.listed) 0 n, by_ordered xs n n 0 (omega arith))
    (lists_mean xs m.held n 0)

-- ---- the bytes of a meaning

pub below-take : (n : ℕ) (s : List ℕ) → Below s → Below (take n s)
below-take n s b k =
    elim (dec_lt k n) [
      | yes l ↦ rw (get_or-take n s k 0 l) (b k)
      | no l ↦ rw (get_or-eq_default (take n s) 0 {n = k} (rw length-take (omega arith))) (omega arith)
    ]

pub below-drop : (n : ℕ) (s : List ℕ) → Below s → Below (drop n s)
below-drop n s b k = rw get_or-drop (b (n + k))

abbrev BytesBelow : Held → Type 0
BytesBelow x = Below x.bytes

records_below : (c : Seen) (w n : ℕ) (s : List ℕ) → Below s → All BytesBelow (records_from c w s n)
unfolding records_from
records_below c w zero s b = tt
records_below c w (suc n) s b = (below-take w s b, records_below c w n (drop w s) (below-drop w s b))

drawn-below : (v : Version) (t : List ℕ) (n q : ℕ) (s : List ℕ) → Below s → All BytesBelow (drawn_from v t q s n)
unfolding drawn_from
drawn-below v t zero q s b = tt
drawn-below v t (suc n) q s b =
    all_append BytesBelow (records_from (begin (size 5) t (of_boxes t q)) (size_in v 6) s (drawn_count t q)) _
    (records_below (begin (size 5) t (of_boxes t q)) (size_in v 6) (drawn_count t q) s b)
    (drawn-below v t n (q + size 5) (drop (drawn_count t q * size_in v 6) s) (below-drop (drawn_count t q * size_in v 6) s b))

all-below : (v : Version) (k : ℕ) (t s : List ℕ) → Below s → All BytesBelow (records_of v k t s)
all-below v k t s b = go (eqb k 6)
  where
    go : (six : Bool) → All BytesBelow (cond six (drawn_from v t 0 s (length t / size 5)) (records_from (begin (size_in v (k - 1)) t false) (size_in v k) s (length s / size_in v k)))
    go true = drawn-below v t (length t / size 5) 0 s b
    go false = records_below (begin (size_in v (k - 1)) t false) (size_in v k) (length s / size_in v k) s b

-- of a list of records
abbrev pub bytes_of : Version → ℕ → List (List (Option ℕ)) → List ℕ
bytes_of v k m = flatten (map (record_of (layout_in v k).fields) m)

list_of :
    (v : Version) (k : ℕ) (xs : List Held)
    → All (Fine (layout_in v k).fields) xs
    → All BytesBelow xs
    → map (record_of (layout_in v k).fields) (map (held_meaning v k) xs) ≡ map (bytes_in (layout_in v k).fields) xs
list_of v k [] a b = refl
list_of v k (x ∷ xs) a b =
    rw (of_meaning (layout_in v k).fields x.seen x.bytes (fine_whole (layout_in v k).fields x a.0) b.0, list_of v k xs a.1 b.1)

pub table_of :
    (v : Version) (k : ℕ) (t s : List ℕ)
    → Made v k t s
    → Below s
    → eqb k 3 ≡ false
    → bytes_of v k (map (held_meaning v k) (records_of v k t s)) ≡ canonical_table v k t s
unfolding canonical_table
table_of v k t s m b e = rw e (ap flatten (list_of v k (records_of v k t s) m.held (all-below v k t s b)))

lists_of :
    (xs : List Held)
    → All (Fine declared_fields) xs
    → All BytesBelow xs
    → (n b : ℕ)
    → flatten (map (bytes_of version.One 3) (map (map (held_meaning version.One 3)) (by_blas xs b n))) ≡ flatten (map (bytes_in declared_fields) (flatten (by_blas xs b n)))
unfolding by_blas flatten
lists_of xs a c zero b = refl
lists_of xs a c (suc n) b =
    rw (
      list_of version.One 3 (of_blas b xs) (all_of (Fine declared_fields) b xs a) (all_of BytesBelow b xs c),
      lists_of xs a c n (b + 1),
    )
    (sym (flatten_map (bytes_in declared_fields) (of_blas b xs) (flatten (by_blas xs (b + 1) n))))

pub declared-of :
    (v : Version) (t s : List ℕ)
    → Made v 3 t s
    → Below s
    → flatten (map (bytes_of version.One 3) (map (map (held_meaning version.One 3)) (declared_lists t s))) ≡ canonical_table v 3 t s
unfolding canonical_table
declared-of v t s m b = lists_of (records_of v 3 t s) m.held (all-below v 3 t s b) (length t / size 2) 0
