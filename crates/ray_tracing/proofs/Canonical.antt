-- "Reading its output gives the same meaning; two sheets give equal output exactly when they mean the same": of the canonical sheet, and
-- of what a call left.
use Prim.Native.Nat.{ℕ, zero, suc, ◌+◌, ◌-◌, ◌*◌, ◌/◌, ◌≤◌, ◌<◌}
use native.Mathlib.Nat.{zero-add, mul-div_cancel}
use native.Mathlib.Numerals.{add-one}
use native.Mathlib.Omega.{arith}
use mathlib.Core.Bool.{Bool, true, false, cond, true≢false, false≢true}
use mathlib.Core.Path.{◌≡◌, refl, sym, ap, ◌∙◌, subst}
use mathlib.Core.Logic.{◌↔◌}
use mathlib.Core.List.{List, [], ◌∷◌, ◌++◌, map, flatten}
use mathlib.Core.Option.{some}
use lib.Dec.{eqb, ltb, lit<}
use lib.ListN.{length, take, drop}
use lib.Seq.{sets, sets-eq, take_at}
use borrow.Author.Tests.{ltb-true, ltb-false}
use Rattle.wire.specs.Wire.{le_at}
use Rattle.wire.proofs.Laws.{le_below, le_drop}
use Rattle.ray_tracing.specs.declared.Version.{Version}
use Rattle.ray_tracing.specs.declared.Version.TheVariants as version
use Rattle.ray_tracing.specs.declared.Sheet.{Sheet}
use Rattle.ray_tracing.specs.Layout.{Seen, Field, Layout, version_number, geometries, layout, layout_in, size, size_in}
use Rattle.ray_tracing.specs.Reading.{fine, judge_lent, version_in, past, from, table, begin, section_of, sheet_of, Reading, accepted, rejected, read_sheet}
use Rattle.ray_tracing.specs.Meaning.{records_from, drawn_from, records_of, declared_lists, record_meaning, held_meaning, section_meaning, Meaning, meaning}
use Rattle.ray_tracing.specs.Canonical.{section_bytes, header_bytes, sheet_bytes, count_of, canonical_tables, canonical, Writing, wrote, unwritten, after_reading, write_rule, writing_leaves, WritesSheet}
use Rattle.ray_tracing.specs.Writing.{end_of, section_with, sheet_with}
use Rattle.ray_tracing.proofs.Each.{each, size-positive}
use Rattle.ray_tracing.proofs.Instances.{Below}
use Rattle.ray_tracing.proofs.Reading.{past_more}
use Rattle.ray_tracing.proofs.Sheets.{leans, lent-apart, accepted_is, accepted-version, accepted-alignment, accepted_end, accepted-whole, accepted-lent, accepted-length}
use Rattle.ray_tracing.proofs.Writing.{end_more, written-table, written_read}
use Rattle.ray_tracing.proofs.CanonicalTable.{Made, made}
use Rattle.ray_tracing.proofs.TableMeaning.{or_false, below-take, below-drop, may_be_unused, used-table, table_means, declared_means, bytes_of, table_of, declared-of}

-- ---- the section before

-- one that the next leans on is there, and its fields are all used
leant_on : (k : ℕ) → k < 9 → leans (k + 1) ≡ true → (ltb 0 k ≡ true) × (may_be_unused k ≡ false)
leant_on =
    each (λ (k : ℕ). leans (k + 1) ≡ true → (ltb 0 k ≡ true) × (may_be_unused k ≡ false)) 9 (
      never,
      (never, ((λ e. (refl, refl)), (never, (never, ((λ e. (refl, refl)), (never, ((λ e. (refl, refl)), (never, tt)))))))),
    )
  where
    never : {A : Type 0} → false ≡ true → A
    never e = absurd (false≢true e)

-- one that the next does not lean on says nothing of what that means
record_apart :
    (k : ℕ)
    → k < 10
    → leans k ≡ false
    → (v w : ℕ) (a b r : List ℕ)
    → record_meaning (layout k).fields (begin v a false) r ≡ record_meaning (layout k).fields (begin w b false) r
unfolding record_meaning
record_apart =
    each
    (λ (k : ℕ).
    leans k ≡ false
    → (v w : ℕ) (a b r : List ℕ)
    → record_meaning (layout k).fields (begin v a false) r ≡ record_meaning (layout k).fields (begin w b false) r) 10 (
      (λ e v w a b r. refl),
      (
        (λ e v w a b r. refl),
        (
          (λ e v w a b r. refl),
          (
            (λ e. absurd (true≢false e)),
            (
              (λ e v w a b r. refl),
              (
                (λ e v w a b r. refl),
                (
                  (λ e. absurd (true≢false e)),
                  (
                    (λ e v w a b r. refl),
                    ((λ e. absurd (true≢false e)), ((λ e v w a b r. refl), tt)),
                  ),
                ),
              ),
            ),
          ),
        ),
      ),
    )

records_apart :
    (fs : List Field) (c d : Seen) (w : ℕ)
    → ((r : List ℕ) → record_meaning fs c r ≡ record_meaning fs d r)
    → (n : ℕ) (u : List ℕ)
    → map (λ y. record_meaning fs y.seen y.bytes) (records_from c w u n)
    ≡ map (λ y. record_meaning fs y.seen y.bytes) (records_from d w u n)
unfolding records_from
records_apart fs c d w e zero u = refl
records_apart fs c d w e (suc n) u = rw (e (take w u), records_apart fs c d w e n (drop w u))

means_apart :
    (v : Version) (k : ℕ)
    → k < 10
    → leans k ≡ false
    → (t₁ t₂ u : List ℕ)
    → map (held_meaning v k) (records_of v k t₁ u) ≡ map (held_meaning v k) (records_of v k t₂ u)
means_apart v k h l t₁ t₂ u =
    let six = (or_false (eqb k 6) (eqb k 8) (or_false (eqb k 3) _ l).1).0 in
    let w = size_in v (k - 1) in
    let n = length u / size_in v k in
    let fs : layout_in v k ≡ layout k = ap (λ (b : Bool). cond b (geometries v) (layout k)) six in
    let plain : (t : List ℕ) → records_of v k t u ≡ records_from (begin w t false) (size_in v k) u n =
    λ t. ap (λ (b : Bool). cond b (drawn_from v t 0 u (length t / size 5)) (records_from (begin w t false) (size_in v k) u n)) six in
    let apart : (r : List ℕ) → record_meaning (layout_in v k).fields (begin w t₁ false) r ≡ record_meaning (layout_in v k).fields (begin w t₂ false) r =
    λ r. ap (λ (l : Layout). record_meaning l.fields (begin w t₁ false) r) fs
    ∙ record_apart k h l w w t₁ t₂ r
    ∙ sym (ap (λ (l : Layout). record_meaning l.fields (begin w t₂ false) r) fs) in
    ap (map (held_meaning v k)) (plain t₁)
    ∙ records_apart (layout_in v k).fields (begin w t₁ false) (begin w t₂ false) (size_in v k) apart n u
    ∙ sym (ap (map (held_meaning v k)) (plain t₂))

header_of :
    (s : List ℕ) → record_meaning (layout 0).fields (begin 0 [] false) (drop 1 s) ≡ some (le_at 4 s 1) ∷ some (le_at 8 s 5) ∷ []
unfolding record_meaning
header_of s =
    rw (le_drop 4 1 s 0, le_drop 8 4 (drop 1 s) 0, le_drop 8 1 s 4)

pub below-table : (s : List ℕ) (k : ℕ) → Below s → Below (table s k)
below-table s k b = below-take (past s k - from s k) (drop (from s k) s) (below-drop (from s k) s b)

-- ---- an accepted sheet

module _ (s : List ℕ) (x : Sheet) (e : read_sheet s ≡ accepted x) where
  -- section k is judged fine, and made canonical
  lent_at : (k : ℕ) → 0 < k → k < 10 → judge_lent k (layout_in (version_in s) k) (size_in (version_in s) (k - 1)) (table s (k - 1)) (table s k) ≡ fine
  lent_at k p h =
      let j : k - 1 + 1 ≡ k = omega arith in
      rw j at (accepted-lent s x e (k - 1) (omega arith))

  pub made_at : (k : ℕ) → 0 < k → k < 10 → Made (version_in s) k (table s (k - 1)) (table s k)
  made_at k p h = made (version_in s) k h (table s (k - 1)) (table s k) (lent_at k p h)

  -- a section that the next one leans on has all fields used
  kept : (k : ℕ) → 0 < k → k < 10 → may_be_unused k ≡ false → canonical_tables s k ≡ table s k
  kept k p h u = used-table (version_in s) k h u (table s (k - 1)) (table s k) (lent_at k p h)

  kept-before : (k : ℕ) → k < 9 → leans (k + 1) ≡ true → canonical_tables s k ≡ table s k
  kept-before k h l =
      let f = leant_on k h l in
      kept k (ltb-true 0 k f.0) (omega arith) f.1

  abbrev tables : ℕ → List ℕ
  tables = canonical_tables s

  lent_again : (k : ℕ) → k < 9 → judge_lent (k + 1) (layout_in (version_in s) (k + 1)) (size_in (version_in s) k) (tables k) (tables (k + 1)) ≡ fine
  lent_again k h = go (leans (k + 1)) refl
    where
      j : k + 1 - 1 ≡ k
      j = omega arith

      f : judge_lent (k + 1) (layout_in (version_in s) (k + 1)) (size_in (version_in s) k) (table s k) (tables (k + 1)) ≡ fine
      f =
          subst (λ (i : ℕ). judge_lent (k + 1) (layout_in (version_in s) (k + 1)) (size_in (version_in s) i) (table s i) (tables (k + 1)) ≡ fine) j
          (made_at (k + 1) (omega arith) (omega arith)).fine'

      go : (b : Bool) → leans (k + 1) ≡ b → judge_lent (k + 1) (layout_in (version_in s) (k + 1)) (size_in (version_in s) k) (tables k) (tables (k + 1)) ≡ fine
      go true l = rw (kept-before k h l) f
      go false l = lent-apart (k + 1) (omega arith) l (version_in s) (version_in s) (size_in (version_in s) k) (size_in (version_in s) k) (tables k) (table s k) (tables (k + 1)) ∙ f

  -- it stands where it stood
  pub length_at : (k : ℕ) → k < 9 → length (tables (k + 1)) ≡ le_at 2 s (past s k) * size_in (version_in s) (k + 1)
  length_at k h = (made_at (k + 1) (omega arith) (omega arith)).length' ∙ accepted-length s x e k h

  end_same : (k : ℕ) → k ≤ 9 → end_of tables k ≡ past s k
  end_same zero h = unfold end_of past in refl
  end_same (suc k) h =
      rw (← add-one k, end_more tables k, length_at k (omega arith), past_more s k, end_same k (omega arith))

  pub count_same : (k : ℕ) → k < 9 → count_of (version_in s) tables (k + 1) ≡ le_at 2 s (past s k)
  count_same k h = rw (length_at k h) (mul-div_cancel (le_at 2 s (past s k)) (size-positive (version_in s) (k + 1) (omega arith)))

  section_same : (k : ℕ) → k < 9 → section_with (version_in s) tables k ≡ section_of s k
  section_same k h = λ i. record { start = end_same k (omega arith) i + 2; count = count_same k h i }

  sheet_same : sheet_with (version_in s) (le_at 4 s 1) (le_at 8 s 5) tables ≡ x
  sheet_same =
      (λ i. record {
        version = version_in s;
        alignment = le_at 4 s 1;
        counter = le_at 8 s 5;
        buffers = section_same 0 (lit< tt) i;
        blases = section_same 1 (lit< tt) i;
        declared = section_same 2 (lit< tt) i;
        tlases = section_same 3 (lit< tt) i;
        entries = section_same 4 (lit< tt) i;
        geometries = section_same 5 (lit< tt) i;
        packages = section_same 6 (lit< tt) i;
        slots = section_same 7 (lit< tt) i;
        actions = section_same 8 (lit< tt) i;
      })
      ∙ sym (accepted_is s x e)

  module _ (b : Below s) where
    pub output-read : read_sheet (canonical s) ≡ accepted x
    unfolding canonical
    output-read =
        written_read (version_in s) (le_at 4 s 1) (le_at 8 s 5) tables lent_again
        (rw (accepted_is s x e) at (accepted-alignment s x e)) (le_below 4 s 1 b) (le_below 8 s 5 b)
        ∙ ap accepted sheet_same

    table_at : (k : ℕ) → 0 < k → k < 10 → table (canonical s) k ≡ tables k
    unfolding canonical
    table_at k p h =
        let j : k - 1 + 1 ≡ k = omega arith in
        rw j at (written-table (version_in s) (le_at 4 s 1) (le_at 8 s 5) tables lent_again (k - 1) (omega arith))

    -- ---- it means the same

    fields-same : sheet_of (canonical s) ≡ sheet_of s
    fields-same = sym (accepted_is (canonical s) x output-read) ∙ accepted_is s x e

    version-same : version_in (canonical s) ≡ version_in s
    version-same = ap (λ (y : Sheet). y.version) fields-same

    section-means : (k : ℕ) → 0 < k → k < 10 → eqb k 3 ≡ false → section_meaning (canonical s) k ≡ section_meaning s k
    section-means k p h three =
        ap (λ (v : Version). map (held_meaning v k) (records_of v k (table (canonical s) (k - 1)) (table (canonical s) k))) version-same
        ∙ ap (λ (u : List ℕ). map (held_meaning (version_in s) k) (records_of (version_in s) k (table (canonical s) (k - 1)) u)) (table_at k p h)
        ∙ go (leans k) refl
        ∙ table_means (version_in s) k h (table s (k - 1)) (table s k) (made_at k p h) three
      where
        go :
            (l : Bool)
            → leans k ≡ l
            → map (held_meaning (version_in s) k) (records_of (version_in s) k (table (canonical s) (k - 1)) (tables k))
            ≡ map (held_meaning (version_in s) k) (records_of (version_in s) k (table s (k - 1)) (tables k))
        go true l =
            let j : k ≡ k - 1 + 1 = omega arith in
            let l' : leans (k - 1 + 1) ≡ true = sym (ap leans j) ∙ l in
            let f = leant_on (k - 1) (omega arith) l' in
            ap (λ (t : List ℕ). map (held_meaning (version_in s) k) (records_of (version_in s) k t (tables k)))
            (table_at (k - 1) (ltb-true 0 (k - 1) f.0) (omega arith) ∙ kept-before (k - 1) (omega arith) l')
        go false l = means_apart (version_in s) k h l (table (canonical s) (k - 1)) (table s (k - 1)) (tables k)

    declared_same :
        map (map (held_meaning version.One 3)) (declared_lists (table (canonical s) 2) (table (canonical s) 3))
        ≡ map (map (held_meaning version.One 3)) (declared_lists (table s 2) (table s 3))
    declared_same =
        rw (table_at 2 (omega arith) (omega arith), table_at 3 (omega arith) (omega arith), kept 2 (omega arith) (omega arith) refl)
        (declared_means (version_in s) (table s 2) (table s 3) (made_at 3 (omega arith) (omega arith)))

    version-number : le_at 1 (canonical s) 0 ≡ le_at 1 s 0
    version-number =
        accepted-version (canonical s) x output-read ∙ ap version_number version-same ∙ sym (accepted-version s x e)

    pub output-means : meaning (canonical s) ≡ meaning s
    unfolding meaning
    output-means =
        let header = header_of (canonical s) ∙ ap (λ (y : Sheet). some y.alignment ∷ some y.counter ∷ []) fields-same ∙ sym (header_of s) in
        simp (
          version-number,
          header,
          section-means 1 (omega arith) (omega arith) refl,
          section-means 2 (omega arith) (omega arith) refl,
          declared_same,
          section-means 4 (omega arith) (omega arith) refl,
          section-means 5 (omega arith) (omega arith) refl,
          section-means 6 (omega arith) (omega arith) refl,
          section-means 7 (omega arith) (omega arith) refl,
          section-means 8 (omega arith) (omega arith) refl,
          section-means 9 (omega arith) (omega arith) refl,
        )

    -- ---- it is made of what it means

    section-of : (k : ℕ) → 0 < k → k < 10 → eqb k 3 ≡ false → bytes_of (version_in s) k (section_meaning s k) ≡ tables k
    section-of k p h three = table_of (version_in s) k (table s (k - 1)) (table s k) (made_at k p h) (below-table s k b) three

    declared-lists-of :
        flatten (map (bytes_of version.One 3) (map (map (held_meaning version.One 3)) (declared_lists (table s 2) (table s 3)))) ≡ tables 3
    declared-lists-of = declared-of (version_in s) (table s 2) (table s 3) (made_at 3 (omega arith) (omega arith)) (below-table s 3 b)

-- ---- two of them

pub sections_cong :
    (v : Version) (T U : ℕ → List ℕ)
    → ((k : ℕ) → k < 9 → T (k + 1) ≡ U (k + 1))
    → (n k : ℕ)
    → k + n ≤ 9
    → section_bytes v T k n ≡ section_bytes v U k n
unfolding section_bytes
sections_cong v T U e zero k h = refl
sections_cong v T U e (suc n) k h = rw (e k (omega arith), sections_cong v T U e n (k + 1) (omega arith))

-- "two sheets of different versions never count as meaning the same"
pub means_version : (s t : List ℕ) → meaning s ≡ meaning t → version_in s ≡ version_in t
unfolding meaning version_in
means_version s t m = ap (λ (z : Meaning). cond (eqb z.version 2) version.Two version.One) m

module _ (s t : List ℕ) (x y : Sheet) (e : read_sheet s ≡ accepted x) (f : read_sheet t ≡ accepted y) (b : Below s) (c : Below t) where
  section_equal :
      version_in s ≡ version_in t
      → (k : ℕ)
      → 0 < k
      → k < 10
      → eqb k 3 ≡ false
      → section_meaning s k ≡ section_meaning t k
      → canonical_tables s k ≡ canonical_tables t k
  section_equal v k p h three m =
      sym (section-of s x e b k p h three)
      ∙ ap (bytes_of (version_in s) k) m
      ∙ ap (λ (w : Version). bytes_of w k (section_meaning t k)) v
      ∙ section-of t y f c k p h three

  tables_equal : meaning s ≡ meaning t → (k : ℕ) → k < 9 → canonical_tables s (k + 1) ≡ canonical_tables t (k + 1)
  unfolding meaning
  tables_equal m =
      each (λ (k : ℕ). canonical_tables s (k + 1) ≡ canonical_tables t (k + 1)) 9 (
        section_equal (means_version s t m) 1 (omega arith) (omega arith) refl (ap (λ (z : Meaning). z.buffers) m),
        (
          section_equal (means_version s t m) 2 (omega arith) (omega arith) refl (ap (λ (z : Meaning). z.blases) m),
          (
            sym (declared-lists-of s x e b)
                ∙ ap (λ (z : Meaning). flatten (map (bytes_of version.One 3) z.declared)) m
                ∙ declared-lists-of t y f c,
            (
              section_equal (means_version s t m) 4 (omega arith) (omega arith) refl (ap (λ (z : Meaning). z.tlases) m),
              (
                section_equal (means_version s t m) 5 (omega arith) (omega arith) refl (ap (λ (z : Meaning). z.entries) m),
                (
                  section_equal (means_version s t m) 6 (omega arith) (omega arith) refl (ap (λ (z : Meaning). z.geometries) m),
                  (
                    section_equal (means_version s t m) 7 (omega arith) (omega arith) refl (ap (λ (z : Meaning). z.packages) m),
                    (
                      section_equal (means_version s t m) 8 (omega arith) (omega arith) refl (ap (λ (z : Meaning). z.slots) m),
                      (section_equal (means_version s t m) 9 (omega arith) (omega arith) refl (ap (λ (z : Meaning). z.actions) m), tt),
                    ),
                  ),
                ),
              ),
            ),
          ),
        ),
      )

  header_equal : meaning s ≡ meaning t → (le_at 4 s 1 ≡ le_at 4 t 1) × (le_at 8 s 5 ≡ le_at 8 t 5)
  unfolding meaning
  header_equal m =
      let h = sym (header_of s) ∙ ap (λ (z : Meaning). z.header) m ∙ header_of t in
      (cc h, cc h)

  same_bytes :
      version_in s ≡ version_in t
      → le_at 4 s 1 ≡ le_at 4 t 1
      → le_at 8 s 5 ≡ le_at 8 t 5
      → ((k : ℕ) → k < 9 → canonical_tables s (k + 1) ≡ canonical_tables t (k + 1))
      → canonical s ≡ canonical t
  unfolding canonical sheet_bytes
  same_bytes v p q r =
      (λ i. header_bytes (v i) (p i) (q i) ++ section_bytes (v i) (canonical_tables s) 0 9)
      ∙ ap (λ (u : List ℕ). header_bytes (version_in t) (le_at 4 t 1) (le_at 8 t 5) ++ u)
      (sections_cong (version_in t) (canonical_tables s) (canonical_tables t) r 9 0 (omega arith))

  -- "two sheets give equal output exactly when they mean the same"
  pub exactly : (canonical s ≡ canonical t) ↔ (meaning s ≡ meaning t)
  exactly = (forward, back)
    where
      forward : canonical s ≡ canonical t → meaning s ≡ meaning t
      forward q = sym (output-means s x e b) ∙ ap meaning q ∙ output-means t y f c

      back : meaning s ≡ meaning t → canonical s ≡ canonical t
      back m = same_bytes (means_version s t m) (header_equal m).0 (header_equal m).1 (tables_equal m)

-- ---- one of them again

length-read : (s : List ℕ) (x : Sheet) → read_sheet s ≡ accepted x → length s ≡ x.actions.start + x.actions.count * size 9
length-read s x e = rw (accepted_is s x e) (omega (arith, accepted_end s x e, accepted-whole s x e 8 (omega arith), past_more s 8))

module _ (s : List ℕ) (x : Sheet) (e : read_sheet s ≡ accepted x) (b : Below s) where
  pub output_length : length (canonical s) ≡ length s
  output_length = length-read (canonical s) x (output-read s x e b) ∙ sym (length-read s x e)

  output_again : Below (canonical s) → canonical (canonical s) ≡ canonical s
  output_again c = (exactly (canonical s) s x x (output-read s x e b) e c b).1 (output-means s x e b)

-- ---- calls

-- a call that wrote refused nothing

pub wrote_not : (n m at : ℕ) → wrote n ≡ unwritten m at → ⊥
wrote_not n m at q = let z : ◌≡◌ {A = ℕ} 0 1 = cc in omega arith

pub wrote-read : (n : ℕ) (r : Reading) (v : Writing) → wrote n ≡ after_reading r v → (x : Sheet) × ((r ≡ accepted x) × (wrote n ≡ v))
wrote-read n (accepted x) v q = (x, (refl, q))
wrote-read n (rejected m at) v q = absurd (wrote_not n m at q)

pub wrote-fits : (n m : ℕ) (t : Bool) → wrote n ≡ cond t (unwritten 39 0) (wrote m) → (t ≡ false) × (n ≡ m)
wrote-fits n m false q = (refl, cc)
wrote-fits n m true q = absurd (wrote_not n 39 0 q)

-- and what it wrote stands there
pub written_back : (text out : List ℕ) → length text ≤ length out → take (length text) (sets out 0 text) ≡ text
written_back text out l = rw (sets-eq text out 0 (rw zero-add l)) (take_at text (drop (0 + length text) out) (length text) refl)

-- a call that wrote n bytes of out, and left p
module _ (s out p : List ℕ) (n : ℕ) (w : WritesSheet s out (wrote n) p) (b : Below s) where
  ruled : (x : Sheet) × ((read_sheet s ≡ accepted x) × ((length (canonical s) ≤ length out) × (n ≡ length (canonical s))))
  unfolding write_rule
  ruled =
      let r = wrote-read n (read_sheet s) _ w.answer in
      let f = wrote-fits n (length (canonical s)) (ltb (length out) (length (canonical s))) r.1.1 in
      (r.0, (r.1.0, (ltb-false (length out) (length (canonical s)) f.0, f.1)))

  -- what it wrote
  pub writes_canonical : take n p ≡ canonical s
  writes_canonical =
      let l = ruled.1.1.0 in
      let e : p ≡ sets out 0 (canonical s) = w.left ∙ ap (λ (v : Writing). writing_leaves v (canonical s) out) (sym w.answer) in
      rw (e, ruled.1.1.1) (written_back (canonical s) out l)

  -- "Reading its output gives the same meaning"
  pub writes_faithfully : (read_sheet (take n p) ≡ read_sheet s) × (meaning (take n p) ≡ meaning s)
  writes_faithfully =
      rw writes_canonical
      (output-read s ruled.0 ruled.1.0 b ∙ sym ruled.1.0, output-means s ruled.0 ruled.1.0 b)

  -- "The writer of slip 1 writes the version that it read"
  pub writes_version : version_in (take n p) ≡ version_in s
  writes_version = rw writes_canonical (version-same s ruled.0 ruled.1.0 b)

-- what a call wrote, written again, is itself
pub writes_again :
    (s out p : List ℕ) (n : ℕ)
    → WritesSheet s out (wrote n) p
    → Below s
    → Below p
    → (out₂ q : List ℕ) (m : ℕ)
    → WritesSheet (take n p) out₂ (wrote m) q
    → take m q ≡ take n p
writes_again s out p n w b c out₂ q m v =
    let x = ruled s out p n w b in
    let e = writes_canonical s out p n w b in
    let d : Below (canonical s) = rw e at (below-take n p c) in
    writes_canonical (take n p) out₂ q m v (below-take n p c) ∙ ap canonical e ∙ output_again s x.0 x.1.0 b d ∙ sym e

-- "two sheets give equal output exactly when they mean the same": of any two calls that wrote
pub writes_exactly :
    (s out p : List ℕ) (n : ℕ)
    → WritesSheet s out (wrote n) p
    → Below s
    → (t out₂ q : List ℕ) (m : ℕ)
    → WritesSheet t out₂ (wrote m) q
    → Below t
    → (take n p ≡ take m q) ↔ (meaning s ≡ meaning t)
writes_exactly s out p n w b t out₂ q m v c =
    let x = ruled s out p n w b in
    let y = ruled t out₂ q m v c in
    rw (writes_canonical s out p n w b, writes_canonical t out₂ q m v c) (exactly s t x.0 y.0 x.1.0 y.1.0 b c)
