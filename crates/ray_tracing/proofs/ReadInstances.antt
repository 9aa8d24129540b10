-- Laws of instances read back. What is accepted, the writer turns back into the same bytes, 35 aside; what the writer took, of a Blas whose
-- address stands once, comes back as it was. 48 comes before all, then the first record that is bad, and 39 last; nothing is handed out.
use Prim.Native.Nat.{ℕ, zero, suc, ◌*◌, ◌/◌, ◌%◌, ◌^◌, ◌≤◌, ◌<◌}
use native.Mathlib.Nat.{zero-add, not-suc-le-zero}
use native.Mathlib.Omega.{arith}
use mathlib.Core.Path.{◌≡◌, refl, sym, ap, ◌∙◌}
use mathlib.Core.Bool.{Bool, true, false, cond}
use mathlib.Core.Option.{Option, none, some}
use mathlib.Core.List.{List, [], ◌∷◌, ◌++◌, append-nil}
use lib.Dec.{ltb, eqb}
use lib.ListN.{length, get_or, take, drop, length-append}
use lib.Seq.{sets}
use borrow.Author.Tests.{le-ltb, lt-ltb, ltb-true, ltb-false, eq-eqb, ne_eqb, eqb-true, eqb-false, not-false}
use Rattle.ray_tracing.specs.Guard.{refuse, neb}
use Rattle.ray_tracing.specs.Layout.{size}
use Rattle.ray_tracing.specs.Causes.{bare}
use Rattle.ray_tracing.specs.Mentions.{blas_of}
use Rattle.ray_tracing.specs.Plan as plan
use Rattle.ray_tracing.specs.Plan.{Verdict, passed, ◌or◌, first_of}
use Rattle.ray_tracing.specs.AppendMany.{lent_size}
use Rattle.ray_tracing.specs.ReadInstances.{
  standing_among,
  standing_in,
  only_one,
  blas_with,
  record_size,
  record_count,
  zero_word,
  address_in,
  id_or0,
  read_instance,
  lent_bytes,
  items_bytes,
  is_none,
  judge_record,
  judge_read,
  ReadingInstances,
  all_read,
  none_read,
  read_outcome,
  read_instances_rule,
  read_after,
  read_instances_bytes,
  ReadsInstances,
}
use Rattle.ray_tracing.proofs.Verdicts.{or-passed, on-passed, each-passed, all-passed, first-refused}
use Rattle.ray_tracing.proofs.EndToEnd.{joined_length, joined_at, joined-are}
use Rattle.ray_tracing.proofs.InstanceRecords.{record_lengths, lent_length}

-- ---- finding the Blas

snoc_one : (l : List ℕ) (n k : ℕ) → l ++ (n ∷ []) ≡ k ∷ [] → n ≡ k
snoc_one [] n k e = ap (λ (l : List ℕ). get_or l 0 0) e
snoc_one (x ∷ l) n k e = absurd (omega (arith, ap length e, length-append l (n ∷ [])))

empty : (l : List ℕ) → length l ≡ 0 → l ≡ []
empty [] e = refl
empty (x ∷ l) e = absurd (omega arith)

module _ (blases : List ℕ) (address : ℕ) where
  abbrev here : ℕ → Bool
  here n = eqb (blas_of blases n).handle address

  -- the only one stands there
  standing-one : (n k : ℕ) → standing_among blases address n ≡ k ∷ [] → (k < n) × ((blas_of blases k).handle ≡ address)
  unfolding standing_among
  standing-one zero k e = absurd (omega (arith, ap length e))
  standing-one (suc n) k e = go (here n) refl e (standing-one n k)
    where
      go :
          (t : Bool)
          → here n ≡ t
          → standing_among blases address n ++ cond t (n ∷ []) [] ≡ k ∷ []
          → (standing_among blases address n ≡ k ∷ [] → (k < n) × ((blas_of blases k).handle ≡ address))
          → (k < suc n) × ((blas_of blases k).handle ≡ address)
      go true h e before =
          let same = snoc_one (standing_among blases address n) n k e in
          (omega arith, ap (λ (m : ℕ). (blas_of blases m).handle) (sym same) ∙ eqb-true _ _ h)
      go false h e before =
          let found = before (sym (append-nil (standing_among blases address n)) ∙ e) in
          (omega (arith, found.0), found.1)

  not_here : (n k : ℕ) → k < suc n → (blas_of blases k).handle ≡ address → here n ≡ false → k < n
  not_here n k l e h = go (ltb k n) refl
    where
      go : (t : Bool) → ltb k n ≡ t → k < n
      go true p = ltb-true k n p
      go false p =
          let same : k ≡ n = omega (arith, ltb-false k n p) in
          absurd (eqb-false _ _ h (ap (λ (m : ℕ). (blas_of blases m).handle) (sym same) ∙ e))

  -- one that stands there is among them
  standing_some : (n k : ℕ) → k < n → (blas_of blases k).handle ≡ address → 0 < length (standing_among blases address n)
  unfolding standing_among
  standing_some zero k l e = absurd (not-suc-le-zero l)
  standing_some (suc n) k l e = go (here n) refl (standing_some n k)
    where
      go :
          (t : Bool)
          → here n ≡ t
          → (k < n → (blas_of blases k).handle ≡ address → 0 < length (standing_among blases address n))
          → 0 < length (standing_among blases address n ++ cond t (n ∷ []) [])
      go true h before = omega (arith, length-append (standing_among blases address n) (n ∷ []))
      go false h before = rw append-nil (before (not_here n k l e h) e)

  -- and if there is but one, it is it
  standing_only :
      (n k : ℕ)
      → k < n
      → (blas_of blases k).handle ≡ address
      → length (standing_among blases address n) ≡ 1
      → standing_among blases address n ≡ k ∷ []
  unfolding standing_among
  standing_only zero k l e one = absurd (not-suc-le-zero l)
  standing_only (suc n) k l e one = go (here n) refl one (standing_only n k)
    where
      go :
          (t : Bool)
          → here n ≡ t
          → length (standing_among blases address n ++ cond t (n ∷ []) []) ≡ 1
          → (k < n
          → (blas_of blases k).handle ≡ address
          → length (standing_among blases address n) ≡ 1
          → standing_among blases address n ≡ k ∷ [])
          → standing_among blases address n ++ cond t (n ∷ []) [] ≡ k ∷ []
      go true h one before =
          let others : length (standing_among blases address n) ≡ 0 = omega (arith, one, length-append (standing_among blases address n) (n ∷ [])) in
          ap (λ (r : List ℕ). r ++ (n ∷ [])) (empty (standing_among blases address n) others) ∙ ap (λ (m : ℕ). m ∷ []) (last (ltb k n) refl others)
        where
          last : (t : Bool) → ltb k n ≡ t → length (standing_among blases address n) ≡ 0 → n ≡ k
          last true p z = absurd (omega (arith, z, standing_some n k (ltb-true k n p) e))
          last false p z = omega (arith, ltb-false k n p)
      go false h one before =
          append-nil (standing_among blases address n) ∙ before (not_here n k l e h) e (ap length (sym (append-nil (standing_among blases address n))) ∙ one)

  one_of : (l : List ℕ) (k : ℕ) → only_one l ≡ some k → (k < 2 ^ 16) × (l ≡ k ∷ [])
  one_of [] k e = let z : ◌≡◌ {A = ℕ} 0 1 = cc in absurd (omega arith)
  one_of (x ∷ y ∷ l) k e = let z : ◌≡◌ {A = ℕ} 0 1 = cc in absurd (omega arith)
  one_of (x ∷ []) k e = go (ltb x (2 ^ 16)) refl e
    where
      go : (t : Bool) → ltb x (2 ^ 16) ≡ t → cond t (some x) none ≡ some k → (k < 2 ^ 16) × ((x ∷ []) ≡ k ∷ [])
      go true h e =
          let same : x ≡ k = cc in
          (omega (arith, same, ltb-true x (2 ^ 16) h), ap (λ (m : ℕ). m ∷ []) same)
      go false h e = let z : ◌≡◌ {A = ℕ} 0 1 = cc in absurd (omega arith)

  -- what is found is a Blas of the table, by an id, and has the address
  pub found_blas :
      (k : ℕ)
      → blas_with blases address ≡ some k
      → (k < 2 ^ 16) × (k < length blases / size 2) × ((blas_of blases k).handle ≡ address)
  unfolding blas_with
  found_blas k e =
      let one = one_of (standing_in blases address) k e in
      let there = standing-one (length blases / size 2) k one.1 in
      (one.0, there.0, there.1)

  -- "whose Blas address stands once in the table"
  pub finds_blas :
      (k : ℕ)
      → k < 2 ^ 16
      → k < length blases / size 2
      → (blas_of blases k).handle ≡ address
      → length (standing_in blases address) ≡ 1
      → blas_with blases address ≡ some k
  unfolding blas_with
  finds_blas k small inside e one =
      ap only_one (standing_only (length blases / size 2) k inside e one) ∙ ap (λ (t : Bool). cond t (some k) none) (lt-ltb k (2 ^ 16) small)

  -- "an address of no Blas or of several"
  pub finds_none : (length (standing_in blases address) ≡ 1 → ⊥) → blas_with blases address ≡ none
  unfolding blas_with
  finds_none h = go (standing_in blases address) h
    where
      go : (l : List ℕ) → (length l ≡ 1 → ⊥) → only_one l ≡ none
      go [] h = refl
      go (x ∷ []) h = absurd (h refl)
      go (x ∷ y ∷ l) h = refl

pub is_some : (o : Option ℕ) → is_none o ≡ false → o ≡ some (id_or0 o).0
is_some none e = let z : ◌≡◌ {A = ℕ} 0 1 = cc in absurd (omega arith)
is_some (some k) e = refl

-- ---- what is judged of a record

pub neb_false : (m n : ℕ) → neb m n ≡ false → m ≡ n
neb_false m n e = eqb-true m n (not-false (eqb m n) e)

module _ (records blases : List ℕ) where
  -- a record that is read: the u32 is zero, and its address is that of one Blas
  pub record Taken (k : ℕ) : Type 0 where
    pub clear : zero_word records (k * record_size) ≡ 0
    pub known : is_none (blas_with blases (address_in records (k * record_size))) ≡ false

  -- in whichever order they are judged
  taken : (k : ℕ) → judge_record records blases k ≡ passed → Taken k
  unfolding refuse
  taken k e = go (neb (zero_word records (k * record_size)) 0) refl (is_none (blas_with blases (address_in records (k * record_size)))) refl
    where
      go :
          (t : Bool)
          → neb (zero_word records (k * record_size)) 0 ≡ t
          → (u : Bool)
          → is_none (blas_with blases (address_in records (k * record_size))) ≡ u
          → Taken k
      go false p false q = record { clear = neb_false _ 0 p; known = q }
      go false p true q = let z : ◌≡◌ {A = ℕ} 0 1 = cc in absurd (omega arith)
      go true p false q = let z : ◌≡◌ {A = ℕ} 0 1 = cc in absurd (omega arith)
      go true p true q = let z : ◌≡◌ {A = ℕ} 0 1 = cc in absurd (omega arith)

  is_taken : (k : ℕ) → Taken k → judge_record records blases k ≡ passed
  unfolding refuse
  is_taken k t = rw (eq-eqb (zero_word records (k * record_size)) 0 t.clear, t.known)

  -- what judging shows where it refuses nothing
  pub record Fine (room : ℕ) : Type 0 where
    pub even : length records % record_size ≡ 0
    pub each : (k : ℕ) → k < record_count records → Taken k
    pub fits : lent_size * record_count records ≤ room

  pub judged_fine : (room : ℕ) → judge_read records blases room ≡ passed → Fine room
  unfolding judge_read
  judged_fine room e =
      let one = or-passed _ _ e in
      let two = or-passed _ _ one.1 in
      record {
        even = neb_false _ 0 (on-passed _ 0 0 (bare 48) one.0);
        each = λ k h. taken k (rw zero-add at (each-passed (judge_record records blases) (record_count records) 0 two.0 k h));
        fits = ltb-false _ _ (on-passed _ 0 0 (bare 39) two.1);
      }

  all-taken : ((k : ℕ) → k < record_count records → Taken k) → first_of (judge_record records blases) 0 (record_count records) ≡ passed
  all-taken each = all-passed (judge_record records blases) (record_count records) 0 (λ k h. rw zero-add (is_taken k (each k h)))

  judged_so : (room : ℕ) → Fine room → judge_read records blases room ≡ passed
  unfolding judge_read
  judged_so room x = rw (eq-eqb (length records % record_size) 0 x.even, all-taken x.each, le-ltb room (lent_size * record_count records) x.fits)

-- ---- a call

pub all-read : (v : Verdict) (n m : ℕ) → all_read m ≡ read_outcome v n → (v ≡ passed) × (m ≡ n)
all-read passed n m e = (refl, cc)
all-read (plan.refused e f c) n m h = let z : ◌≡◌ {A = ℕ} 0 1 = cc in absurd (omega arith)

module _ (records blases : List ℕ) where
  item-length : (k : ℕ) → length (lent_bytes (read_instance records blases k)) ≡ 55
  item-length k =
      let lengths = record_lengths records (k * record_size) (id_or0 (blas_with blases (address_in records (k * record_size)))) in
      lent_length (read_instance records blases k) lengths.0 lengths.1

  items_none : items_bytes records blases 0 ≡ []
  unfolding items_bytes
  items_none = refl

  items_more : (n : ℕ) → items_bytes records blases (suc n) ≡ items_bytes records blases n ++ lent_bytes (read_instance records blases n)
  unfolding items_bytes
  items_more n = refl

  pub items_length : (n : ℕ) → length (items_bytes records blases n) ≡ 55 * n
  items_length = joined_length 55 (λ k. lent_bytes (read_instance records blases k)) (items_bytes records blases) items_none items_more item-length

  pub items_at : (n k : ℕ) → k < n → take 55 (drop (55 * k) (items_bytes records blases n)) ≡ lent_bytes (read_instance records blases k)
  items_at = joined_at 55 (λ k. lent_bytes (read_instance records blases k)) (items_bytes records blases) items_none items_more item-length

  pub items_are :
      (s : List ℕ) (n : ℕ)
      → ((k : ℕ) → k < n → lent_bytes (read_instance records blases k) ≡ take 55 (drop (55 * k) s))
      → items_bytes records blases n ≡ take (55 * n) s
  items_are = joined-are 55 (λ k. lent_bytes (read_instance records blases k)) (items_bytes records blases) items_none items_more item-length

module _
    (records blases b : List ℕ)
    {a : ReadingInstances}
    {p : List ℕ}
    (call : ReadsInstances records blases b a p)
  where
    left_by : (r : ReadingInstances) → a ≡ r → p ≡ read_after r (sets b 0 (items_bytes records blases (record_count records))) b
    unfolding read_instances_bytes
    left_by r e =
        call.left ∙ ap (λ (r : ReadingInstances). read_after r (sets b 0 (items_bytes records blases (record_count records))) b) (sym call.answer ∙ e)

    by_verdict : {v : Verdict} → judge_read records blases (length b) ≡ v → a ≡ read_outcome v (lent_size * record_count records)
    unfolding read_instances_rule
    by_verdict e = call.answer ∙ ap (λ (v : Verdict). read_outcome v (lent_size * record_count records)) e

    -- "nothing handed out"
    pub refused-leaves : {n e f : ℕ} → a ≡ none_read n e f → p ≡ b
    refused-leaves {n} {e} {f} h = left_by (none_read n e f) h

    -- what is not refused was judged fine, and wrote
    pub accepted-wrote-items :
        {v : ℕ}
        → a ≡ all_read v
        → Fine records blases (length b)
        × (v ≡ lent_size * record_count records)
        × (p ≡ sets b 0 (items_bytes records blases (record_count records)))
    unfolding read_instances_rule
    accepted-wrote-items {v} h =
        let judged = all-read (judge_read records blases (length b)) (lent_size * record_count records) v (sym h ∙ call.answer) in
        (judged_fine records blases (length b) judged.0, judged.1, left_by (all_read v) h)

    pub reads-fine :
        Fine records blases (length b)
        → (a ≡ all_read (lent_size * record_count records)) × (p ≡ sets b 0 (items_bytes records blases (record_count records)))
    reads-fine x =
        let answer = by_verdict (judged_so records blases (length b) x) in
        (answer, left_by (all_read (lent_size * record_count records)) answer)

    -- "48 for a length not in 64s, before all"
    pub uneven-first : (length records % record_size ≡ 0 → ⊥) → a ≡ none_read 48 0 0
    unfolding judge_read
    uneven-first h =
        let found : judge_read records blases (length b) ≡ plan.refused 0 0 (bare 48) = rw (ne_eqb (length records % record_size) 0 h) in
        by_verdict found

    module _ (even : length records % record_size ≡ 0) where
      -- "then per record", whatever the room
      module _ (k : ℕ) (l : k < record_count records) (before : (j : ℕ) → j < k → Taken records blases j) where
        first-bad : (n : ℕ) → judge_record records blases k ≡ plan.refused k 0 (bare n) → a ≡ none_read n k 0
        unfolding judge_read
        first-bad n bad =
            let first : first_of (judge_record records blases) 0 (record_count records) ≡ plan.refused k 0 (bare n) =
            first-refused (judge_record records blases) k 0 (bare n) (record_count records) 0 k l
            (λ j h. rw zero-add (is_taken records blases j (before j h)))
            (rw zero-add bad) in
            let found : judge_read records blases (length b) ≡ plan.refused k 0 (bare n) =
            rw (eq-eqb (length records % record_size) 0 even, first) in
            by_verdict found

        -- "49 where the u32 that the writer leaves zero holds something else"
        pub first_word : (zero_word records (k * record_size) ≡ 0 → ⊥) → a ≡ none_read 49 k 0
        unfolding refuse
        first_word h = first-bad 49 (rw (ne_eqb (zero_word records (k * record_size)) 0 h))

        -- "50 for an address of no Blas or of several"
        pub first-address :
            zero_word records (k * record_size) ≡ 0
            → (length (standing_in blases (address_in records (k * record_size))) ≡ 1 → ⊥)
            → a ≡ none_read 50 k 0
        unfolding refuse
        first-address z h =
            first-bad 50 (rw (eq-eqb (zero_word records (k * record_size)) 0 z, finds_none blases (address_in records (k * record_size)) h))

      -- "39 last"
      pub room-last : ((k : ℕ) → k < record_count records → Taken records blases k) → length b < lent_size * record_count records → a ≡ none_read 39 0 0
      unfolding judge_read
      room-last each short =
          let found : judge_read records blases (length b) ≡ plan.refused 0 0 (bare 39) =
          rw
          (eq-eqb (length records % record_size) 0 even, all-taken records blases each, lt-ltb (length b) (lent_size * record_count records) short) in
          by_verdict found
