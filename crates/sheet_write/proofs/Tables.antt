-- A table copied, or put by Blas, and then made canonical where it stands, is the canonical table written there.
use Prim.Native.Nat.{ℕ, zero, suc, ◌+◌, ◌-◌, ◌*◌, ◌/◌, ◌≤◌, ◌<◌}
use native.Mathlib.Nat.{zero-mul, suc-mul, div-add-mod'}
use native.Mathlib.Omega.{arith}
use mathlib.Core.Bool.{Bool, true, false, cond, false≢true}
use mathlib.Core.Path.{◌≡◌, refl, sym, ap, ◌∙◌, subst}
use mathlib.Core.List.{List, [], ◌∷◌, ◌++◌, append_assoc, map, flatten}
use lib.Dec.{eqb, ltb}
use lib.ListN.{length, take, drop, length-append}
use lib.Seq.{sets, sets-eq, length-sets, length-take-le, take_at, drop_at}
use borrow.Author.Tests.{lt-ltb}
use Rattle.wire.specs.Wire.{le_at}
use Rattle.wire.proofs.Laws.{le_take, le_drop}
use Rattle.ray_tracing.specs.declared.Version.{Version}
use Rattle.ray_tracing.specs.Layout.{Seen, layout, layout_in, size, size_in}
use Rattle.ray_tracing.specs.Reading.{fine, judge_lent, sum_of_counts, begin}
use Rattle.ray_tracing.specs.Meaning.{Held, records_from, drawn_from, records_of, by_blas, declared_lists}
use Rattle.ray_tracing.specs.Canonical.{held_canonical, in_order, canonical_table}
use Rattle.ray_tracing.proofs.Each.{each}
use Rattle.ray_tracing.proofs.Sheets.{lent_tells}
use Rattle.ray_tracing.proofs.Held.{All, all_by, Fine, records-seen, records_count, records_sized, records_first, drawn-first, flat_length, cut_at}
use Rattle.ray_tracing.proofs.ByBlas.{blas_of, ordered_length}
use Rattle.ray_tracing.proofs.CanonicalTable.{made_declared, made_drawn, made_as_read, all_and, inside-blases, all-drawn}
use Rattle.sheet_clear.specs.Cleared.{has_unused}

-- ---- bytes written over others

module _ (out : List ℕ) (at : ℕ) (u : List ℕ) (h : at + length u ≤ length out) where
  front : length (take at out) ≡ at
  front = length-take-le at out (omega arith)

  pub part : drop at (sets out at u) ≡ u ++ drop (at + length u) out
  part = rw (sets-eq u out at h, append_assoc) (drop_at (take at out) (u ++ drop (at + length u) out) at front)

  pub over : (v : List ℕ) → length v ≡ length u → sets (sets out at u) at v ≡ sets out at v
  over v l =
      let f : take at (sets out at u) ≡ take at out =
      rw (sets-eq u out at h, append_assoc) (take_at (take at out) (u ++ drop (at + length u) out) at front) in
      let d : drop (at + length v) (sets out at u) ≡ drop (at + length v) out =
      rw (sets-eq u out at h, l) (drop_at (take at out ++ u) (drop (at + length u) out) (at + length u) (rw (length-append, front))) in
      sets-eq v (sets out at u) at (rw (length-sets, l) h) ∙ rw (f, d) (sym (sets-eq v out at (rw l h)))

-- ---- records by their index

-- the Blas of the i-th of the records of a table
pub blas-at :
    (c : Seen) (w m n : ℕ) (u : List ℕ)
    → 2 ≤ w
    → All (λ x. blas_of x < m) (records_from c w u n)
    → (i : ℕ)
    → i < n
    → le_at 2 u (i * w) < m
unfolding records_from
blas-at c w m zero u h a i l = absurd (omega arith)
blas-at c w m (suc n) u h a zero l = rw zero-mul (rw (le_take 2 w u 0 (omega arith)) at a.0)
blas-at c w m (suc n) u h a (suc i) l =
    let e : w + i * w ≡ suc i * w = omega (arith, suc-mul i w) in
    rw (le_drop 2 w u (i * w), e) at (blas-at c w m n (drop w u) h a.1 i (omega arith))

-- ---- declared geometries

module _ (v : Version) (t s : List ℕ) (f : judge_lent 3 (layout 3) (size 2) t s ≡ fine) where
  abbrev n : ℕ
  n = length s / size 3

  abbrev m : ℕ
  m = length t / size 2

  abbrev c : Seen
  c = begin (size 2) t false

  abbrev xs : List Held
  xs = records_from c (size 3) s n

  abbrev ordered : List Held
  ordered = flatten (by_blas xs 0 m)

  abbrev placed : List ℕ
  placed = flatten (map (λ x. x.bytes) ordered)

  count_size : n * size 3 ≡ length s
  count_size = omega (arith, (lent_tells 3 (layout 3) (size 2) t s f).whole, div-add-mod' (length s) (size 3))

  seen : All (λ x. x.seen ≡ c) xs
  seen = records-seen (layout 3).fields c n s

  inside : All (λ x. blas_of x < m) xs
  inside = all_and (Fine (layout 3).fields) (λ x. x.seen ≡ c) (λ x. blas_of x < m) (inside-blases t) xs (made_declared v t s f).held seen

  pub blases-inside : (i : ℕ) → i < n → le_at 2 s (i * size 3) < m
  blases-inside = blas-at c (size 3) m n s (omega arith) inside

  sized : All (λ x. length x.bytes ≡ size 3) ordered
  sized = all_by (λ x. length x.bytes ≡ size 3) xs (records_sized c (size 3) n s (omega (arith, count_size))) 0 m

  many : length ordered ≡ n
  many = ordered_length m xs inside ∙ records_count (layout 3).fields c n s

  placed-length : length placed ≡ length s
  placed-length = flat_length (size 3) (λ x. x.bytes) ordered sized ∙ ap (λ (k : ℕ). k * size 3) many ∙ count_size

  -- put by Blas from `at` on
  module _ (out out₁ : List ℕ) (at : ℕ) (h : at + length s ≤ length out) (e : out₁ ≡ sets out at placed) where
    room : at + length placed ≤ length out
    room = rw placed-length h

    placed-records : records_from c (size 3) (drop at out₁) n ≡ ordered
    placed-records =
        subst (λ (i : ℕ). records_from c (size 3) (drop at out₁) i ≡ ordered) many
        (rw (e, part out at placed room)
        (cut_at (size 3) (λ x. x.bytes) c ordered (drop (at + length placed) out) (all_by (λ x. x.seen ≡ c) xs seen 0 m) sized
        ∙ map-self ordered))
      where
        map-self : (ys : List Held) → map (λ x. record { seen = x.seen; bytes = x.bytes }) ys ≡ ys
        map-self [] = refl
        map-self (y ∷ ys) = ap (λ (l : List Held). y ∷ l) (map-self ys)

    pub placed-room : at + n * size 3 ≤ length out₁
    placed-room = rw (e, length-sets, count_size) h

    pub placed-inside : (i : ℕ) → i < n → le_at 2 out₁ (at + i * size 3) < m
    placed-inside i l =
        rw (← le_drop 2 at out₁ (i * size 3))
        (blas-at c (size 3) m n (drop at out₁) (omega arith) (rw placed-records (all_by (λ x. blas_of x < m) xs inside 0 m)) i l)

    pub declared-written :
        (out₂ : List ℕ)
        → out₂ ≡ sets out₁ at (flatten (map (held_canonical v 3) (records_from c (size 3) (drop at out₁) n)))
        → out₂ ≡ sets out at (canonical_table v 3 t s)
    unfolding canonical_table
    declared-written out₂ g =
        g
        ∙ rw placed-records
        (ap (λ (o : List ℕ). sets o at (flatten (map (held_canonical v 3) ordered))) e
        ∙ over out at placed room (flatten (map (held_canonical v 3) ordered)) ((made_declared v t s f).length' ∙ sym placed-length))

-- ---- geometries

module _ (v : Version) (t s : List ℕ) (f : judge_lent 6 (layout_in v 6) (size 5) t s ≡ fine) (out out₁ : List ℕ) (at : ℕ) (h : at + length s ≤ length out) (e : out₁ ≡ sets out at s)
  where
    pub drawn-room : at + sum_of_counts t (size 5) 3 (length t / size 5) * size_in v 6 ≤ length out₁
    drawn-room = rw (e, length-sets, all-drawn v t s f) h

    pub geometries-written :
        (out₂ : List ℕ)
        → out₂ ≡ sets out₁ at (flatten (map (held_canonical v 6) (drawn_from v t 0 (drop at out₁) (length t / size 5))))
        → out₂ ≡ sets out at (canonical_table v 6 t s)
    unfolding canonical_table
    geometries-written out₂ g =
        g
        ∙ rw (e, part out at s h, drawn-first v t (length t / size 5) 0 s (drop (at + length s) out) (omega (arith, all-drawn v t s f)))
        (over out at s h (flatten (map (held_canonical v 6) (drawn_from v t 0 s (length t / size 5)))) (made_drawn v t s f).length')

-- ---- slots, actions

pub late :
    (k : ℕ) → 7 < k → k < 10 → ((eqb k 6 ≡ false) × (eqb k 3 ≡ false)) × (has_unused k ≡ true)
late k h l =
    each (λ (j : ℕ). ltb 7 j ≡ true → ((eqb j 6 ≡ false) × (eqb j 3 ≡ false)) × (has_unused j ≡ true)) 10
    (never, (never, (never, (never, (never, (never, (never, (never, ((λ e. ((refl, refl), refl)), ((λ e. ((refl, refl), refl)), tt))))))))))
    k l (lt-ltb 7 k h)
  where
    never : {A : Type 0} → false ≡ true → A
    never e = absurd (false≢true e)

module _
    (v : Version)
    (k : ℕ)
    (b : k < 10)
    (six : eqb k 6 ≡ false)
    (three : eqb k 3 ≡ false)
    (t s : List ℕ)
    (f : judge_lent k (layout_in v k) (size_in v (k - 1)) t s ≡ fine)
  where
    records-room : length s / size_in v k * size_in v k ≡ length s
    records-room = omega (arith, (lent_tells k (layout_in v k) (size_in v (k - 1)) t s f).whole, div-add-mod' (length s) (size_in v k))

    module _ (out out₁ : List ℕ) (at : ℕ) (h : at + length s ≤ length out) (e : out₁ ≡ sets out at s) where
      pub records-written :
          (out₂ : List ℕ)
          → out₂ ≡ sets out₁ at (flatten (map (held_canonical v k) (records_from (begin (size_in v (k - 1)) t false) (size_in v k) (drop at out₁) (length s / size_in v k))))
          → out₂ ≡ sets out at (canonical_table v k t s)
      unfolding canonical_table
      records-written out₂ g =
          let c = begin (size_in v (k - 1)) t false in
          let n = length s / size_in v k in
          let plain : in_order v k t s ≡ records_from c (size_in v k) s n =
          ap (λ (i : Bool). cond i (flatten (declared_lists t s)) (records_of v k t s)) three
          ∙ ap (λ (i : Bool). cond i (drawn_from v t 0 s (length t / size 5)) (records_from c (size_in v k) s n)) six in
          let l : length (flatten (map (held_canonical v k) (records_from c (size_in v k) s n))) ≡ length s =
          subst (λ (xs : List Held). length (flatten (map (held_canonical v k) xs)) ≡ length s) plain (made_as_read v k b six t s f three).length' in
          g
          ∙ rw (e, part out at s h, records_first c (size_in v k) n s (drop (at + length s) out) (omega (arith, records-room)))
          (over out at s h (flatten (map (held_canonical v k) (records_from c (size_in v k) s n))) l)
          ∙ ap (λ (xs : List Held). sets out at (flatten (map (held_canonical v k) xs))) (sym plain)
