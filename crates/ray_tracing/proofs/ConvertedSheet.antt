-- A sheet in the other version is the sheet of its tables with the geometries converted. So it is read, and back it has its bytes.
use Prim.Native.Nat.{ℕ, zero, suc, ◌+◌, ◌-◌, ◌*◌, ◌≤◌, ◌<◌}
use native.Mathlib.Nat.{add-zero, zero-add, mul-div_cancel}
use native.Mathlib.Omega.{arith}
use mathlib.Core.Bool.{cond}
use mathlib.Core.Path.{◌≡◌, refl, sym, ap, ◌∙◌}
use mathlib.Core.List.{List, ◌∷◌, ◌++◌, append_assoc}
use lib.Dec.{eqb, lit<}
use lib.ListN.{length, get_or, take, drop, length-append, take-append-drop, drop_of_length-le}
use lib.Seq.{drop-drop, take_at, take-add, take-suc}
use Rattle.wire.specs.Wire.{le_at, le_bytes}
use Rattle.wire.proofs.Laws.{le_bytes-at, length-le_bytes}
use Rattle.ray_tracing.specs.declared.Version.{Version}
use Rattle.ray_tracing.specs.declared.Sheet.{Sheet}
use Rattle.ray_tracing.specs.Layout.{version_number, layout_in, size_in}
use Rattle.ray_tracing.specs.Reading.{fine, judge_lent, version_in, past, table, accepted, read_sheet}
use Rattle.ray_tracing.specs.Canonical.{count_of, section_bytes, header_bytes, sheet_bytes}
use Rattle.ray_tracing.specs.Writing.{end_of}
use Rattle.ray_tracing.specs.Conversion.{other, converted_table, converted}
use Rattle.ray_tracing.proofs.Instances.{Below}
use Rattle.ray_tracing.proofs.Each.{each, size-positive}
use Rattle.ray_tracing.proofs.Reading.{past_more, from_more}
use Rattle.ray_tracing.proofs.Sheets.{lent-apart, table_section, accepted-version, accepted_end, accepted-whole, accepted-length}
use Rattle.ray_tracing.proofs.Writing.{end_more, written_all, written-table}
use Rattle.ray_tracing.proofs.Converted.{table_many, table-lent}

-- ---- sections end to end

sections_split :
    (v : Version) (tables : ℕ → List ℕ) (m n k : ℕ)
    → section_bytes v tables k (m + n) ≡ section_bytes v tables k m ++ section_bytes v tables (k + m) n
unfolding section_bytes
sections_split v tables zero n k = rw (zero-add, add-zero)
sections_split v tables (suc m) n k =
    let e : suc m + n ≡ suc (m + n) = omega arith in
    let d : k + 1 + m ≡ k + suc m = omega arith in
    let x = le_bytes 2 (count_of v tables (k + 1)) in
    let a = section_bytes v tables (k + 1) m in
    let b = section_bytes v tables (k + suc m) n in
    rw (e, sections_split v tables m n (k + 1), d)
    (ap (λ (u : List ℕ). x ++ u) (sym (append_assoc (tables (k + 1)) a b)) ∙ sym (append_assoc x (tables (k + 1) ++ a) b))

sections_length :
    (v : Version) (tables : ℕ → List ℕ) (m k : ℕ) → end_of tables k + length (section_bytes v tables k m) ≡ end_of tables (k + m)
unfolding section_bytes
sections_length v tables zero k = rw (add-zero, add-zero)
sections_length v tables (suc m) k =
    let d : k + 1 + m ≡ k + suc m = omega arith in
    let e = rw d at (sections_length v tables m (k + 1)) in
    rw (length-append, length-append, length-le_bytes) (omega (arith, e, end_more tables k))

-- ---- an accepted sheet is that of its tables

module _ (s : List ℕ) (x : Sheet) (e : read_sheet s ≡ accepted x) (b : Below s) where
  rest_is : (n k : ℕ) → k + n ≡ 9 → drop (past s k) s ≡ section_bytes (version_in s) (table s) k n
  unfolding section_bytes
  rest_is zero k h =
      let z : k ≡ 9 = omega arith in
      rw z (drop_of_length-le s (accepted_end s x e))
  rest_is (suc n) k h =
      let v = version_in s in
      let p = past s k in
      let l = accepted-whole s x e k (omega arith) in
      let m = le_at 2 s p in
      let c : count_of v (table s) (k + 1) ≡ m =
      rw (accepted-length s x e k (omega arith)) (mul-div_cancel m (size-positive v (k + 1) (omega arith))) in
      let u = drop (p + 2) s in
      rw (c, le_bytes-at 2 s p b (omega arith), ← rest_is n (k + 1) (omega arith), table_section s k, past_more s k, ← drop-drop (m * size_in v (k + 1)) (p + 2) s)
      (sym
      (ap (λ (y : List ℕ). take 2 (drop p s) ++ y) (take-append-drop (m * size_in v (k + 1)) u ∙ sym (drop-drop 2 p s))
      ∙ take-append-drop 2 (drop p s)))

  long : 13 ≤ length s
  unfolding past
  long = omega (arith, accepted-whole s x e 0 (omega arith))

  first_byte : get_or s 0 0 ≡ version_number (version_in s)
  unfolding le_at
  first_byte = omega (arith, accepted-version s x e)

  header_is : take 13 s ≡ header_bytes (version_in s) (le_at 4 s 1) (le_at 8 s 5)
  header_is =
      take-add 1 12 s
      ∙ (λ i. take-suc s 0 0 (omega (arith, long)) i ++ take-add 4 8 (drop 1 s) i)
      ∙ (λ i. first_byte i ∷ (sym (le_bytes-at 4 s 1 b (omega (arith, long))) i ++ take 8 (drop-drop 4 1 s i)))
      ∙ ap (λ (u : List ℕ). version_number (version_in s) ∷ (le_bytes 4 (le_at 4 s 1) ++ u)) (sym (le_bytes-at 8 s 5 b (omega (arith, long))))

  pub sheet_again : s ≡ sheet_bytes (version_in s) (le_at 4 s 1) (le_at 8 s 5) (table s)
  unfolding sheet_bytes past
  sheet_again =
      sym (take-append-drop 13 s) ∙ (λ i. header_is i ++ rest_is 9 0 refl i)

-- ---- the other version

-- the tables, with the geometries of version v as those of version w
abbrev pub tables_in : Version → Version → (ℕ → List ℕ) → ℕ → List ℕ
tables_in v w tables k = cond (eqb k 6) (converted_table v w (tables 6)) (tables k)

abbrev pub AllLent : Version → (ℕ → List ℕ) → Type 0
AllLent v tables = (k : ℕ) → k < 9 → judge_lent (k + 1) (layout_in v (k + 1)) (size_in v k) (tables k) (tables (k + 1)) ≡ fine

module _ (v w : Version) (alignment counter : ℕ) (tables : ℕ → List ℕ) (lent : AllLent v tables) where
  abbrev others : ℕ → List ℕ
  others = tables_in v w tables

  pub lent_others : AllLent w others
  lent_others =
      each (λ (k : ℕ). judge_lent (k + 1) (layout_in w (k + 1)) (size_in w k) (others k) (others (k + 1)) ≡ fine) 9 (
        lent 0 (lit< tt),
        (
          lent 1 (lit< tt),
          (
            lent 2 (lit< tt),
            (
              lent 3 (lit< tt),
              (
                lent 4 (lit< tt),
                (
                  table-lent v w (tables 5) (tables 6) (lent 5 (lit< tt)),
                  (
                    lent-apart 7 (lit< tt) refl w v (size_in w 6) (size_in v 6) (others 6) (tables 6) (tables 7) ∙ lent 6 (lit< tt),
                    (lent 7 (lit< tt), (lent 8 (lit< tt), tt)),
                  ),
                ),
              ),
            ),
          ),
        ),
      )

  abbrev bytes : List ℕ
  bytes = sheet_bytes v alignment counter tables

  -- the bytes between the version and the geometries
  abbrev fields : List ℕ
  fields = le_bytes 4 alignment ++ le_bytes 8 counter

  abbrev sections : List ℕ
  sections = section_bytes v tables 0 5

  abbrev count : List ℕ
  count = le_bytes 2 (count_of v tables 6)

  abbrev rest : List ℕ
  rest = section_bytes v tables 6 3

  abbrev front : List ℕ
  front = fields ++ (sections ++ count)

  six : section_bytes v tables 5 4 ≡ count ++ (tables 6 ++ rest)
  unfolding section_bytes
  six = refl

  -- joined : of the records r of section 6
  joined : (r : List ℕ) → fields ++ (sections ++ (count ++ (r ++ rest))) ≡ front ++ (r ++ rest)
  joined r =
      ap (λ (u : List ℕ). fields ++ u) (sym (append_assoc sections count (r ++ rest)))
      ∙ sym (append_assoc fields (sections ++ count) (r ++ rest))

  front_length : length front ≡ end_of tables 5 + 2 - 1
  unfolding end_of
  front_length =
      rw (length-append, length-append, length-append, length-le_bytes, length-le_bytes, length-le_bytes)
      (omega (arith, sections_length v tables 5 0))

  bytes_are : drop 1 bytes ≡ front ++ (tables 6 ++ rest)
  unfolding sheet_bytes
  bytes_are =
      ap (λ (u : List ℕ). fields ++ u) (sections_split v tables 5 4 0 ∙ ap (λ (u : List ℕ). sections ++ u) six)
      ∙ joined (tables 6)

  sections_others :
      section_bytes w others 0 5 ++ section_bytes w others 5 4 ≡ sections ++ (count ++ (converted_table v w (tables 6) ++ rest))
  unfolding section_bytes
  sections_others =
      ap (λ (n : ℕ). sections ++ (le_bytes 2 n ++ (converted_table v w (tables 6) ++ rest)))
      (table_many v w (tables 5) (tables 6) (lent 5 (lit< tt)))

  others_are : sheet_bytes w alignment counter others ≡ version_number w ∷ (front ++ (converted_table v w (tables 6) ++ rest))
  unfolding sheet_bytes
  others_are =
      ap (λ (u : List ℕ). version_number w ∷ (fields ++ u))
      (sections_split w others 5 4 0 ∙ sections_others)
      ∙ ap (λ (u : List ℕ). version_number w ∷ u) (joined (converted_table v w (tables 6)))

  pub converted_is : other w ≡ v → converted w bytes ≡ sheet_bytes w alignment counter others
  unfolding converted
  converted_is p =
      let five = written_all v alignment counter tables lent 5 (lit< tt) in
      let past-six = written_all v alignment counter tables lent 6 (lit< tt) in
      rw (p, written-table v alignment counter tables lent 5 (lit< tt), past-six.ends, past-six.rest, from_more bytes 5, five.ends, bytes_are, take_at front (tables 6 ++ rest) (end_of tables 5 + 2 - 1) front_length)
      (sym others_are)
