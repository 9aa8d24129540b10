-- The writer and the reader of instance records, one after the other, over any tables. "What it accepts, the writer turns back into the same
-- bytes, 35 aside; an instance that the writer took and whose Blas address stands once in the table comes back as it was, down to the bits of
-- each number."
use Prim.Native.Nat.{ℕ, zero, suc, ◌+◌, ◌*◌, ◌/◌, ◌%◌, ◌^◌, ◌≤◌, ◌<◌}
use native.Mathlib.Nat.{zero-add, add-zero, mul_comm, mod-lt, zero-lt-suc}
use native.Mathlib.Omega.{arith}
use mathlib.Core.Path.{◌≡◌, refl, sym, ap, ◌∙◌, subst}
use mathlib.Core.Bool.{Bool, true, false, not, ◌&&◌}
use mathlib.Core.Option.{Option, some}
use mathlib.Core.List.{List}
use lib.Dec.{ltb}
use lib.ListN.{length, take, drop, length-drop}
use lib.Seq.{sets, take_all, length-take-le}
use borrow.Author.Tests.{le-ltb, eq-eqb, lt-leb}
use Rattle.wire.proofs.Laws.{le_below}
use Rattle.ray_tracing.specs.declared.Tlas.{Tlas}
use Rattle.ray_tracing.specs.declared.TlasId.{TlasId}
use Rattle.ray_tracing.specs.declared.TlasInstance.{TlasInstance}
use Rattle.ray_tracing.specs.Guard.{refuse, neb}
use Rattle.ray_tracing.specs.Layout.{size}
use Rattle.ray_tracing.specs.Causes.{Cause, bare}
use Rattle.ray_tracing.specs.Mentions.{tlas_mention, blas_of, tlas_of}
use Rattle.ray_tracing.specs.Instances.{instance_from, instance_bytes, address_for, named_instance_rule, returns_vertices, in_use, Appends, vk_instance, vk_bytes}
use Rattle.ray_tracing.specs.Plan as plan
use Rattle.ray_tracing.specs.Plan.{Verdict, passed, ◌or◌, at_e, first_of}
use Rattle.ray_tracing.specs.AppendMany.{lent_size, lent_count, lent_instance, many_bytes, judge_instance, judge_many, AppendingMany, all_in_use, none_appended, many_outcome, append_many_rule, AppendsMany}
use Rattle.ray_tracing.specs.ReadInstances.{standing_in, blas_with, record_size, record_count, zero_word, address_in, record_instance, id_or0, read_instance, lent_bytes, items_bytes, is_none, ReadingInstances, all_read, ReadsInstances}
use Rattle.ray_tracing.proofs.Verdicts.{refused_not_passed, or_none}
use Rattle.ray_tracing.proofs.Windows.{Window, window_part}
use Rattle.ray_tracing.proofs.TableMeaning.{below-take, below-drop}
use Rattle.ray_tracing.proofs.Instances.{Below, bytes-length, from_lengths, inside-narrow, vk-bytes}
use Rattle.ray_tracing.proofs.EndToEnd.{set_part}
use Rattle.ray_tracing.proofs.InstanceRecords.{record_window, zero_window, address_window, lent_window, record_lengths, record_back, lent-read, lent_back, made_zero, made_address, made-back}
use Rattle.ray_tracing.proofs.AppendMany as append-many
use Rattle.ray_tracing.proofs.AppendMany.{accepted_alone, alone_inside, alone_wrote, accepted-wrote, many_length, many_at, many_are}
use Rattle.ray_tracing.proofs.ReadInstances.{found_blas, finds_blas, is_some, neb_false, Taken, Fine, items_length, items_at, items_are, accepted-wrote-items, reads-fine}

-- ---- the first refusal of many that can be refused by one number alone

only_cause :
    (n : ℕ) (f : ℕ → Verdict) (m i : ℕ)
    → ((k : ℕ) → k < m → (e g : ℕ) (c : Cause) → f (i + k) ≡ plan.refused e g c → c ≡ bare n)
    → (e g : ℕ) (c : Cause)
    → first_of f i m ≡ plan.refused e g c
    → c ≡ bare n
unfolding first_of
only_cause n f zero i each e g c h = absurd (refused_not_passed e g c (sym h))
only_cause n f (suc m) i each e g c h =
    go (f i) refl h
    (only_cause n f m (i + 1) (λ k l. let same : i + 1 + k ≡ i + suc k = omega arith in rw same (each (suc k) (omega arith))) e g c)
  where
    go :
        (v : Verdict)
        → f i ≡ v
        → (v or first_of f (i + 1) m) ≡ plan.refused e g c
        → (first_of f (i + 1) m ≡ plan.refused e g c → c ≡ bare n)
        → c ≡ bare n
    go passed p h rest = rest h
    go (plan.refused e' g' c') p h rest = each 0 (omega arith) e g c (rw add-zero (p ∙ h))

-- an instance of a Blas in its table, with narrow custom data, can be refused by 35 alone
only_35 :
    (tlas : Tlas) (blases : List ℕ) (i : TlasInstance) (k : ℕ)
    → i.blas.0 < length blases / size 2
    → i.custom_data < 2 ^ 24
    → (e g : ℕ) (c : Cause)
    → at_e 0 k (named_instance_rule tlas blases i) ≡ plan.refused e g c
    → c ≡ bare 35
unfolding refuse
only_35 tlas blases i k inside narrow e g c h =
    go (returns_vertices tlas.flags && not (returns_vertices (blas_of blases i.blas.0).flags))
    (sym (rw (lt-leb (length blases / size 2) i.blas.0 inside, lt-leb (2 ^ 24) i.custom_data narrow)) ∙ h)
  where
    go : (t : Bool) → at_e 0 k (refuse t 35 0) ≡ plan.refused e g c → c ≡ bare 35
    go true h = cc
    go false h = absurd (refused_not_passed _ _ _ (sym h))

none-used : (j : Verdict) (n : ℕ) {e f : ℕ} {c : Cause} → none_appended e f c ≡ many_outcome j n → j ≡ plan.refused e f c
none-used passed n h = let z : ◌≡◌ {A = ℕ} 0 1 = cc in absurd (omega arith)
none-used (plan.refused e f c) n h = cc

-- ---- what is read, written

module _ (records blases : List ℕ) (bytes : Below records) (k : ℕ) (h : k < record_count records) (t : Taken records blases k) where
  abbrev at : ℕ
  at = k * record_size

  abbrev part : List ℕ
  part = take 64 (drop at records)

  abbrev found : Option ℕ
  found = blas_with blases (address_in records at)

  fits : at + 64 ≤ length records
  fits = omega arith

  window : Window at part records
  window = window_part at 64 records fits

  part_length : length part ≡ 64
  part_length = length-take-le 64 (drop at records) (omega (arith, length-drop at records, fits))

  part_below : Below part
  part_below = below-take 64 (drop at records) (below-drop at records bytes)

  -- its Blas
  id_found : ((id_or0 found).0 < 2 ^ 16) × ((id_or0 found).0 < length blases / size 2) × ((blas_of blases (id_or0 found).0).handle ≡ address_in records at)
  id_found = found_blas blases (address_in records at) (id_or0 found).0 (is_some found t.known)

  read_window : read_instance records blases k ≡ record_instance part 0 (id_or0 found)
  read_window = record_window window (id_or0 found) (omega (arith, part_length))

  address_is : address_for blases (read_instance records blases k) ≡ address_in part 0
  unfolding record_instance
  address_is = id_found.2 ∙ address_window window (omega (arith, part_length))

  -- the writer's bytes of it are the record's
  pub same_bytes : instance_bytes (read_instance records blases k) (address_for blases (read_instance records blases k)) ≡ take 64 (drop (64 * k) records)
  same_bytes =
      (λ j. instance_bytes (read_window j) (address_is j))
      ∙ record_back part part_length part_below (id_or0 found) (sym (zero_window window (omega (arith, part_length))) ∙ t.clear)
      ∙ ap (λ (n : ℕ). take 64 (drop n records)) (mul_comm k 64)

  -- the lent item is read as what was read
  pub lent_same : instance_from (lent_bytes (read_instance records blases k)) 0 ≡ read_instance records blases k
  lent_same =
      ap (λ (i : TlasInstance). instance_from (lent_bytes i) 0) read_window
      ∙ lent-read part part_length part_below (id_or0 found) id_found.0
      ∙ sym read_window

  pub read-inside : (read_instance records blases k).blas.0 < length blases / size 2
  unfolding record_instance
  read-inside = id_found.1

  pub read-narrow : (read_instance records blases k).custom_data < 2 ^ 24
  unfolding record_instance
  read-narrow = mod-lt _ (zero-lt-suc _)

  -- the record is the VkAccelerationStructureInstanceKHR that was read
  pub read_vk : take 64 (drop (64 * k) records) ≡ vk_bytes (vk_instance (read_instance records blases k) (address_for blases (read_instance records blases k)))
  read_vk =
      let lengths = record_lengths records at (id_or0 found) in
      sym same_bytes ∙ vk-bytes (read_instance records blases k) (address_for blases (read_instance records blases k)) lengths.0 lengths.1 read-narrow

module _ (records blases b : List ℕ) {v : ℕ} {q : List ℕ} (read : ReadsInstances records blases b (all_read v) q) (bytes : Below records) where
  wrote : Fine records blases (length b) × (v ≡ 55 * record_count records) × (q ≡ sets b 0 (items_bytes records blases (record_count records)))
  wrote = accepted-wrote-items records blases b read refl

  abbrev items : List ℕ
  items = items_bytes records blases (record_count records)

  items_long : length items ≡ 55 * record_count records
  items_long = items_length records blases (record_count records)

  -- what was handed out
  handed_out : take v q ≡ items
  handed_out =
      ap (take v) wrote.2
      ∙ ap (λ (n : ℕ). take n (sets b 0 items)) (wrote.1 ∙ sym items_long)
      ∙ set_part items b 0 (omega (arith, items_long, wrote.0.fits))

  counted : lent_count items ≡ record_count records
  counted = omega (arith, items_long)

  item_is : (k : ℕ) → k < record_count records → lent_instance items k ≡ read_instance records blases k
  item_is k h =
      let fits : k * 55 + 55 ≤ length items = omega (arith, items_long) in
      let long : length (take 55 (drop (k * 55) items)) ≡ 55 = length-take-le 55 (drop (k * 55) items) (omega (arith, length-drop (k * 55) items)) in
      lent_window (window_part (k * 55) 55 items fits) (omega arith)
      ∙ ap (λ (l : List ℕ). instance_from l 0) (ap (λ (n : ℕ). take 55 (drop n items)) (mul_comm k 55) ∙ items_at records blases (record_count records) k h)
      ∙ lent_same records blases bytes k h (wrote.0.each k h)

  all-bytes : many_bytes blases items (record_count records) ≡ records
  all-bytes =
      many_are blases items records (record_count records)
      (λ k h. ap (λ (i : TlasInstance). instance_bytes i (address_for blases i)) (item_is k h) ∙ same_bytes records blases bytes k h (wrote.0.each k h))
      ∙ take_all (64 * record_count records) records (omega (arith, wrote.0.even))

  -- of any Tlas in its table, with room
  module _
      (tlases : List ℕ)
      (tlas : TlasId)
      (inside : tlas.0 < length tlases / size 4)
      (out : List ℕ)
      (used : ℕ)
      (room : used + length records ≤ length out)
      {a : AppendingMany}
      {p : List ℕ}
      (append : AppendsMany tlases blases tlas (take v q) out used a p)
    where
      -- "the writer turns back into the same bytes"
      pub read-written : {m : ℕ} → a ≡ all_in_use m → (m ≡ used + length records) × (p ≡ sets out used records)
      read-written {m} e =
          let done = accepted-wrote tlases blases tlas (take v q) out used append e in
          let count : lent_count (take v q) ≡ record_count records = ap lent_count handed_out ∙ counted in (
            done.1 ∙ omega (arith, count, wrote.0.even),
            done.2 ∙ ap (sets out used) ((λ j. many_bytes blases (handed_out j) (count j)) ∙ all-bytes),
          )

      -- nothing but the instances is left to refuse
      instances-alone :
          judge_many tlases blases tlas items (length out) used
          ≡ first_of (judge_instance tlases blases tlas items) 0 (record_count records)
      unfolding judge_many refuse
      instances-alone =
          let mentioned : tlas_mention tlases tlas.0 ≡ 0 = rw (lt-leb (length tlases / size 4) tlas.0 inside) in
          let whole : neb (length items % lent_size) 0 ≡ false = rw (eq-eqb (length items % lent_size) 0 (omega (arith, items_long))) in
          let has : ltb (length out) (used + 64 * lent_count items) ≡ false =
          le-ltb (length out) (used + 64 * lent_count items) (omega (arith, counted, wrote.0.even)) in
          rw (mentioned, whole, has, or_none, counted)

      -- "35 aside"
      pub read-refused : {e f : ℕ} {c : Cause} → a ≡ none_appended e f c → c ≡ bare 35
      unfolding append_many_rule
      read-refused {e} {f} {c} h =
          let judged : judge_many tlases blases tlas (take v q) (length out) used ≡ plan.refused e f c =
          none-used (judge_many tlases blases tlas (take v q) (length out) used) (used + 64 * lent_count (take v q)) (sym h ∙ append.answer) in
          only_cause 35 (judge_instance tlases blases tlas items) (record_count records) 0
          (λ k l e f c x.
          only_35 (tlas_of tlases tlas.0) blases (read_instance records blases k) k
          (read-inside records blases bytes k l (wrote.0.each k l))
          (read-narrow records blases bytes k l (wrote.0.each k l))
          e f c
          (ap (λ (i : TlasInstance). at_e 0 k (named_instance_rule (tlas_of tlases tlas.0) blases i)) (sym (item_is k l)) ∙ rw zero-add at x))
          e f c
          (sym instances-alone ∙ ap (λ (l : List ℕ). judge_many tlases blases tlas l (length out) used) (sym handed_out) ∙ judged)

-- ---- what was written, read

-- an instance that the writer took, of a Blas whose address stands once in the table
pub record Took (blases : List ℕ) (i : TlasInstance) : Type 0 where
  pub numbers : length i.transform ≡ 12
  pub nans : length i.nan_bits ≡ 12
  pub narrow : i.custom_data < 2 ^ 24
  pub mask : i.mask < 256
  pub id : i.blas.0 < 2 ^ 16
  pub inside : i.blas.0 < length blases / size 2
  pub once : length (standing_in blases (address_for blases i)) ≡ 1

module _
    (records blases : List ℕ)
    (bytes : Below blases)
    (k : ℕ)
    (h : k < record_count records)
    (i : TlasInstance)
    (t : Took blases i)
    (e : take 64 (drop (k * record_size) records) ≡ instance_bytes i (address_for blases i))
  where
    abbrev address : ℕ
    address = address_for blases i

    there : Window (k * record_size) (instance_bytes i address) records
    there = subst (λ (l : List ℕ). Window (k * record_size) l records) e (window_part (k * record_size) 64 records (omega arith))

    long : 64 ≤ length (instance_bytes i address)
    long = omega (arith, bytes-length i address t.numbers t.nans)

    clear : zero_word records (k * record_size) ≡ 0
    clear = zero_window there long ∙ made_zero i address t.numbers t.nans

    address-back : address_in records (k * record_size) ≡ address
    address-back = address_window there long ∙ made_address i address t.numbers t.nans (le_below 8 blases _ bytes)

    blas-back : blas_with blases (address_in records (k * record_size)) ≡ some i.blas.0
    blas-back = ap (blas_with blases) address-back ∙ finds_blas blases address i.blas.0 t.id t.inside refl t.once

    took-taken : Taken records blases k
    took-taken = record { clear = clear; known = ap is_none blas-back }

    took-item : lent_bytes (read_instance records blases k) ≡ lent_bytes i
    took-item =
        ap (λ (o : Option ℕ). lent_bytes (record_instance records (k * record_size) (id_or0 o))) blas-back
        ∙ ap lent_bytes (record_window there (record { 0 = i.blas.0 }) long)
        ∙ made-back i address t.numbers t.nans (record { 0 = i.blas.0 }) t.narrow t.mask refl

-- all of one call for many
module _
    (tlases blases : List ℕ)
    (tlas : TlasId)
    (items out : List ℕ)
    (used : ℕ)
    {m : ℕ}
    {p : List ℕ}
    (append : AppendsMany tlases blases tlas items out used (all_in_use m) p)
    (item-bytes : Below items)
    (bytes : Below blases)
    (once : (k : ℕ) → k < lent_count items → length (standing_in blases (address_for blases (lent_instance items k))) ≡ 1)
    (b : List ℕ)
    (room : length items ≤ length b)
    {a : ReadingInstances}
    {q : List ℕ}
    (read : ReadsInstances (take (64 * lent_count items) (drop used p)) blases b a q)
  where
    abbrev records : List ℕ
    records = take (64 * lent_count items) (drop used p)

    done : append-many.Fine tlases blases tlas items (length out) used × (m ≡ used + 64 * lent_count items) × (p ≡ sets out used (many_bytes blases items (lent_count items)))
    done = accepted-wrote tlases blases tlas items out used append refl

    records_are : records ≡ many_bytes blases items (lent_count items)
    records_are =
        let new = many_bytes blases items (lent_count items) in
        ap (λ (s : List ℕ). take (64 * lent_count items) (drop used s)) done.2
        ∙ ap (λ (n : ℕ). take n (drop used (sets out used new))) (sym (many_length blases items (lent_count items)))
        ∙ set_part new out used (omega (arith, many_length blases items (lent_count items), done.0.fits))

    records-long : length records ≡ 64 * lent_count items
    records-long = ap length records_are ∙ many_length blases items (lent_count items)

    items-whole : length items ≡ 55 * lent_count items
    items-whole = omega (arith, neb_false (length items % lent_size) 0 done.0.whole)

    took : (k : ℕ) → k < lent_count items → Took blases (lent_instance items k)
    unfolding instance_from
    took k h =
        let both = inside-narrow (tlas_of tlases tlas.0) blases (lent_instance items k) (done.0.each k h) in
        record {
          numbers = (from_lengths items (k * lent_size)).0;
          nans = (from_lengths items (k * lent_size)).1;
          narrow = both.1;
          mask = le_below 1 items _ item-bytes;
          id = le_below 2 items _ item-bytes;
          inside = both.0;
          once = once k h;
        }

    -- each record is one's
    stands : (k : ℕ) → k < lent_count items → take 64 (drop (k * record_size) records) ≡ instance_bytes (lent_instance items k) (address_for blases (lent_instance items k))
    stands k h =
        (λ j. take 64 (drop (mul_comm k 64 j) (records_are j))) ∙ many_at blases items (lent_count items) k h

    -- each item is what its instance is lent as
    lent : (k : ℕ) → k < lent_count items → lent_bytes (lent_instance items k) ≡ take 55 (drop (55 * k) items)
    lent k h =
        let at = k * 55 in
        let part = take 55 (drop at items) in
        let long : length part ≡ 55 = length-take-le 55 (drop at items) (omega (arith, length-drop at items, items-whole)) in
        ap lent_bytes (lent_window (window_part at 55 items (omega (arith, items-whole))) (omega arith))
        ∙ lent_back part long (below-take 55 (drop at items) (below-drop at items item-bytes))
        ∙ ap (λ (n : ℕ). take 55 (drop n items)) (mul_comm k 55)

    counted_back : record_count records ≡ lent_count items
    counted_back = omega (arith, records-long)

    fine_back : Fine records blases (length b)
    fine_back =
        record {
          even = omega (arith, records-long);
          each = λ k h. took-taken records blases bytes k h (lent_instance items k) (took k (omega (arith, counted_back))) (stands k (omega (arith, counted_back)));
          fits = omega (arith, counted_back, items-whole);
        }

    all-items : items_bytes records blases (record_count records) ≡ items
    all-items =
        items_are records blases items (record_count records)
        (λ k h.
        let l : k < lent_count items = omega (arith, counted_back) in
        took-item records blases bytes k h (lent_instance items k) (took k l) (stands k l) ∙ lent k l)
        ∙ take_all (55 * record_count records) items (omega (arith, counted_back, items-whole))

    -- it "comes back as it was, down to the bits of each number"
    pub written_read : (a ≡ all_read (length items)) × (q ≡ sets b 0 items)
    written_read =
        let back = reads-fine records blases b read fine_back in
        (back.0 ∙ ap all_read (omega (arith, counted_back, items-whole)), back.1 ∙ ap (sets b 0) all-items)

-- one, by a call for one
module _
    (tlases blases : List ℕ)
    (tlas : TlasId)
    (i : TlasInstance)
    (out : List ℕ)
    (used : ℕ)
    {m : ℕ}
    {p : List ℕ}
    (append : Appends tlases blases tlas i out used (in_use m) p)
    (numbers : length i.transform ≡ 12)
    (nans : length i.nan_bits ≡ 12)
    (mask : i.mask < 256)
    (id : i.blas.0 < 2 ^ 16)
    (once : length (standing_in blases (address_for blases i)) ≡ 1)
    (bytes : Below blases)
    (b : List ℕ)
    (room : 55 ≤ length b)
    {a : ReadingInstances}
    {q : List ℕ}
    (read : ReadsInstances (take 64 (drop used p)) blases b a q)
  where
    took_it : Took blases i
    took_it =
        let both = alone_inside tlases blases tlas i out used append in
        record { numbers = numbers; nans = nans; narrow = both.1; mask = mask; id = id; inside = both.0; once = once }

    abbrev one-record : List ℕ
    one-record = take 64 (drop used p)

    abbrev one-made : List ℕ
    one-made = instance_bytes i (address_for blases i)

    made-long : length one-made ≡ 64
    made-long = bytes-length i (address_for blases i) numbers nans

    record_is : one-record ≡ one-made
    record_is =
        let fits = (accepted_alone tlases blases tlas i (length out) used append.answer).1 in
        ap (λ (s : List ℕ). take 64 (drop used s)) (alone_wrote tlases blases tlas i out used append)
        ∙ ap (λ (n : ℕ). take n (drop used (sets out used one-made))) (sym made-long)
        ∙ set_part one-made out used (omega (arith, made-long))

    record-long : length one-record ≡ 64
    record-long = ap length record_is ∙ made-long

    stands-first : (k : ℕ) → k < record_count one-record → take 64 (drop (k * record_size) one-record) ≡ one-made
    stands-first k h =
        let first : k ≡ 0 = omega (arith, record-long) in
        ap (λ (n : ℕ). take 64 (drop (n * 64) one-record)) first ∙ take_all 64 one-record (omega (arith, record-long)) ∙ record_is

    one-fine : Fine one-record blases (length b)
    one-fine =
        record {
          even = omega (arith, record-long);
          each = λ k h. took-taken one-record blases bytes k h i took_it (stands-first k h);
          fits = omega (arith, record-long);
        }

    one-item : items_bytes one-record blases (record_count one-record) ≡ lent_bytes i
    unfolding items_bytes
    one-item =
        let one : record_count one-record ≡ 1 = omega (arith, record-long) in
        ap (items_bytes one-record blases) one ∙ took-item one-record blases bytes 0 (omega arith) i took_it (stands-first 0 (omega arith))

    -- its Blas, custom data, mask, and the bits of each number
    pub one-written-read : (a ≡ all_read 55) × (q ≡ sets b 0 (lent_bytes i))
    one-written-read =
        let back = reads-fine one-record blases b read one-fine in
        (back.0 ∙ ap all_read (omega (arith, record-long)), back.1 ∙ ap (sets b 0) one-item)
