-- A table that is judged fine, made canonical: it is as long, judged fine, and its records are the canonical ones in their order.
use Prim.Native.Nat.{ℕ, zero, suc, ◌+◌, ◌-◌, ◌*◌, ◌/◌, ◌<◌}
use native.Mathlib.Nat.{div-add-mod'}
use native.Mathlib.Decide.{ℕ_discrete}
use native.Mathlib.Omega.{arith}
use mathlib.Core.Bool.{Bool, false, cond}
use mathlib.Core.Path.{◌≡◌, refl, sym, ap, ◌∙◌, subst}
use mathlib.Core.List.{List, [], ◌∷◌, map, flatten, append-nil}
use lib.Dec.{eqb}
use lib.ListN.{length, drop, length-append}
use borrow.Author.Tests.{eqb-true, ne_eqb, ltb-true}
use Rattle.ray_tracing.specs.declared.Version.{Version}
use Rattle.ray_tracing.specs.Layout.{Seen, Field, always, inside, kind_known, u16, telling, geometries, layout, layout_in, size, size_in}
use Rattle.ray_tracing.specs.Reading.{fine, judge_field, judge_fields, judge_records, judge_drawn, judge_table, judge_lent, sum_of_counts, begin, of_boxes, drawn_count}
use Rattle.ray_tracing.specs.Meaning.{Held, records_from, drawn_from, records_of, by_blas, declared_lists}
use Rattle.ray_tracing.specs.Canonical.{in_order, canonical_table}
use Rattle.ray_tracing.proofs.Reading.{or_fine}
use Rattle.ray_tracing.proofs.Sheets.{Lent, lent_tells, lent_of, field-allowed}
use Rattle.ray_tracing.proofs.Zeroed.{layouts_alike}
use Rattle.ray_tracing.proofs.Held.{All, all_by, Fine, records_each, records-all, records_count, records-seen, drawn-each, drawn-all, bytes_in, remade, bytes-length, cut, cut_drawn, remade-fine}
use Rattle.ray_tracing.proofs.ByBlas.{blas_of, ordered_length}

-- what is known of the table s of section k, after the table t
pub record Made (v : Version) (k : ℕ) (t s : List ℕ) : Type 0 where
  -- its records are judged fine, in the order in which they are written too
  pub held : All (Fine (layout_in v k).fields) (records_of v k t s)
  pub listed : All (Fine (layout_in v k).fields) (in_order v k t s)
  -- of the canonical table
  pub length' : length (canonical_table v k t s) ≡ length s
  pub records' : records_of v k t (canonical_table v k t s) ≡ map (remade (layout_in v k).fields) (in_order v k t s)
  pub fine' : judge_lent k (layout_in v k) (size_in v (k - 1)) t (canonical_table v k t s) ≡ fine

-- ---- sections whose records begin alike

module _ (v : Version) (k : ℕ) (h : k < 10) (six : eqb k 6 ≡ false) (t s : List ℕ) (f : judge_lent k (layout_in v k) (size_in v (k - 1)) t s ≡ fine) where
  abbrev fs : List Field
  fs = (layout_in v k).fields

  abbrev c : Seen
  c = begin (size_in v (k - 1)) t false

  abbrev n : ℕ
  n = length s / size_in v k

  lent : Lent k (layout_in v k) (size_in v (k - 1)) t s
  lent = lent_tells k (layout_in v k) (size_in v (k - 1)) t s f

  count_size : n * size_in v k ≡ length s
  count_size = omega (arith, lent.whole, div-add-mod' (length s) (size_in v k))

  -- its records are not drawn
  plain_judged : (u : List ℕ) (m : ℕ) → judge_table k fs (size_in v (k - 1)) t u 0 m ≡ judge_records c fs u 0 m
  plain_judged u m = ap (λ (b : Bool). cond b (judge_drawn fs t 0 u 0 (length t / size 5)) (judge_records c fs u 0 m)) six

  plain_records : (u : List ℕ) → records_of v k t u ≡ records_from c (size_in v k) u (length u / size_in v k)
  plain_records u =
      ap (λ (b : Bool). cond b (drawn_from v t 0 u (length t / size 5)) (records_from c (size_in v k) u (length u / size_in v k))) six

  held_each : All (Fine fs) (records_from c (size_in v k) s n)
  held_each = records_each fs c n s 0 (omega arith) (sym (plain_judged s n) ∙ lent.records)

  -- what is shown of the records in the order in which they are written
  module _
      (ys : List Held)
      (seen : All (λ x. x.seen ≡ c) ys)
      (each-fine : All (Fine fs) ys)
      (many : length ys ≡ n)
    where
      abbrev table' : List ℕ
      table' = flatten (map (bytes_in fs) ys)

      as_long : length table' ≡ length s
      as_long = bytes-length fs ys each-fine ∙ ap (λ (m : ℕ). m * size_in v k) many ∙ count_size

      records_are : records_from c (size_in v k) table' (length table' / size_in v k) ≡ map (remade fs) ys
      records_are =
          rw (as_long, ← many)
          (subst (λ (u : List ℕ). records_from c (size_in v k) u (length ys) ≡ map (remade fs) ys) (append-nil table')
          (cut fs c ys [] seen each-fine))

      lent_again : judge_lent k (layout_in v k) (size_in v (k - 1)) t table' ≡ fine
      lent_again =
          lent_of k (layout_in v k) (size_in v (k - 1)) t table'
          (record {
            few = rw as_long lent.few;
            sum = rw as_long lent.sum;
            records =
                plain_judged table' (length table' / size_in v k)
                ∙ records-all fs c (length table' / size_in v k) table' 0 (rw as_long (omega (arith, count_size)))
                (rw records_are (remade-fine fs (layouts_alike v k h) ys each-fine));
            whole = rw as_long lent.whole;
          })

      made_of : in_order v k t s ≡ ys → Made v k t s
      unfolding canonical_table
      made_of e =
          record {
            held = rw (plain_records s) held_each;
            listed = rw e each-fine;
            length' = rw e as_long;
            records' = rw e (plain_records table' ∙ records_are);
            fine' = rw e lent_again;
          }

  -- in their old order
  pub made_as_read : eqb k 3 ≡ false → Made v k t s
  made_as_read three =
      made_of (records_from c (size_in v k) s n) (records-seen fs c n s) held_each (records_count fs c n s)
      (ap (λ (b : Bool). cond b (flatten (declared_lists t s)) (records_of v k t s)) three ∙ plain_records s)

-- ---- declared geometries, by Blas

pub all_and :
    (P Q R : Held → Type 0)
    → ((x : Held) → P x → Q x → R x)
    → (xs : List Held)
    → All P xs
    → All Q xs
    → All R xs
all_and P Q R g [] p q = tt
all_and P Q R g (x ∷ xs) p q = (g x p.0 q.0, all_and P Q R g xs p.1 q.1)

abbrev declared_fields : List Field
declared_fields = (layout 3).fields

abbrev blas_field : Field
blas_field = telling kind_known (u16 always inside)

-- a declared geometry that is judged fine names a Blas of the table t
pub inside-blases :
    (t : List ℕ) (x : Held)
    → Fine declared_fields x
    → x.seen ≡ begin (size 2) t false
    → blas_of x < length t / size 2
unfolding judge_fields
inside-blases t x e s =
    let f = rw s at e in
    let p = or_fine (judge_field (begin (size 2) t false) x.bytes 0 blas_field) _ f in
    ltb-true (blas_of x) (length t / size 2) (field-allowed (begin (size 2) t false) x.bytes 0 blas_field p.0 refl)

pub made_declared : (v : Version) (t s : List ℕ) → judge_lent 3 (layout 3) (size 2) t s ≡ fine → Made v 3 t s
made_declared v t s f =
    let c = begin (size 2) t false in
    let n = length s / size 3 in
    let xs = records_from c (size 3) s n in
    let m = length t / size 2 in
    let seen = records-seen declared_fields c n s in
    let good = held_each v 3 (omega arith) refl t s f in
    made_of v 3 (omega arith) refl t s f (flatten (by_blas xs 0 m)) (all_by (λ x. x.seen ≡ c) xs seen 0 m) (all_by (Fine declared_fields) xs good 0 m)
    (ordered_length m xs (all_and (Fine declared_fields) (λ x. x.seen ≡ c) (λ x. blas_of x < m) (inside-blases t) xs good seen)
    ∙ records_count declared_fields c n s)
    refl

-- ---- geometries, by the entries that draw them

drawn-count : (v : Version) (t : List ℕ) (n q : ℕ) (s : List ℕ) → length (drawn_from v t q s n) ≡ sum_of_counts t (size 5) (q + 3) n
unfolding drawn_from sum_of_counts
drawn-count v t zero q s = refl
drawn-count v t (suc n) q s =
    let e : q + 5 + 3 ≡ q + 3 + 5 = omega arith in
    rw (length-append, records_count (geometries v).fields (begin (size 5) t (of_boxes t q)) (drawn_count t q) s, drawn-count v t n (q + size 5) (drop (drawn_count t q * size_in v 6) s), e)

module _ (v : Version) (t s : List ℕ) (f : judge_lent 6 (geometries v) (size 5) t s ≡ fine) where
  abbrev entries : ℕ
  entries = length t / size 5

  abbrev drawn : List Held
  drawn = drawn_from v t 0 s entries

  lent_6 : Lent 6 (geometries v) (size 5) t s
  lent_6 = lent_tells 6 (geometries v) (size 5) t s f

  drawn-fine : All (Fine (geometries v).fields) drawn
  drawn-fine = drawn-each v t entries 0 s 0 (omega arith) lent_6.records

  abbrev drawn' : List ℕ
  drawn' = flatten (map (bytes_in (geometries v).fields) drawn)

  pub all-drawn : sum_of_counts t (size 5) 3 entries * size_in v 6 ≡ length s
  all-drawn =
      let e = eqb-true (sum_of_counts t (size 5) 3 entries) (length s / size_in v 6) lent_6.sum in
      rw e (omega (arith, lent_6.whole, div-add-mod' (length s) (size_in v 6)))

  drawn-length : length drawn' ≡ length s
  drawn-length =
      bytes-length (geometries v).fields drawn drawn-fine ∙ ap (λ (m : ℕ). m * size_in v 6) (drawn-count v t entries 0 s) ∙ all-drawn

  drawn_are : drawn_from v t 0 drawn' entries ≡ map (remade (geometries v).fields) drawn
  drawn_are =
      subst (λ (u : List ℕ). drawn_from v t 0 u entries ≡ map (remade (geometries v).fields) drawn) (append-nil drawn')
      (cut_drawn v t entries 0 s [] drawn-fine)

  drawn-lent : judge_lent 6 (geometries v) (size 5) t drawn' ≡ fine
  drawn-lent =
      lent_of 6 (geometries v) (size 5) t drawn'
      (record {
        few = rw drawn-length lent_6.few;
        sum = rw drawn-length lent_6.sum;
        records =
            drawn-all v t entries 0 drawn' 0 (omega (arith, all-drawn, drawn-length))
            (rw drawn_are (remade-fine (geometries v).fields (layouts_alike v 6 (omega arith)) drawn drawn-fine));
        whole = rw drawn-length lent_6.whole;
      })

  pub made_drawn : Made v 6 t s
  unfolding canonical_table
  made_drawn = record { held = drawn-fine; listed = drawn-fine; length' = drawn-length; records' = drawn_are; fine' = drawn-lent }

-- ---- any section

pub made : (v : Version) (k : ℕ) → k < 10 → (t s : List ℕ) → judge_lent k (layout_in v k) (size_in v (k - 1)) t s ≡ fine → Made v k t s
made v k h t s f =
    elim (ℕ_discrete k 6) [
      | yes e ↦ subst (λ (j : ℕ). judge_lent j (layout_in v j) (size_in v (j - 1)) t s ≡ fine → Made v j t s) (sym e) (made_drawn v t s) f
      | no d ↦ elim (ℕ_discrete k 3) [
        | yes e ↦ subst (λ (j : ℕ). judge_lent j (layout_in v j) (size_in v (j - 1)) t s ≡ fine → Made v j t s) (sym e) (made_declared v t s) f
        | no g ↦ made_as_read v k h (ne_eqb k 6 d) t s f (ne_eqb k 3 g)
      ]
    ]
