-- Tables that draw no refusal when lent, written as a sheet, are read, and are the tables of that sheet.
use Prim.Native.Nat.{ℕ, zero, suc, ◌+◌, ◌-◌, ◌*◌, ◌^◌, ◌≤◌, ◌<◌}
use native.Mathlib.Nat.{add-zero, div-add-mod'}
use native.Mathlib.Numerals.{add-one}
use native.Mathlib.Omega.{arith}
use mathlib.Core.Bool.{true, false}
use mathlib.Core.Path.{◌≡◌, refl, sym, ap, ◌∙◌}
use mathlib.Core.List.{List, [], ◌++◌, append_assoc}
use lib.Dec.{ltb, lit<}
use lib.ListN.{length, drop, length-append, length-drop}
use lib.Seq.{drop-drop, drop_at, take-append_seam}
use borrow.Author.Tests.{le-ltb, lt-ltb, ltb-true}
use Rattle.wire.specs.Wire.{le_at, le_bytes}
use Rattle.wire.proofs.Laws.{le_drop, le_of_bytes, length-le_bytes}
use Rattle.ray_tracing.specs.declared.Version.{Version}
use Rattle.ray_tracing.specs.declared.Version.TheVariants as version
use Rattle.ray_tracing.specs.Layout.{version_number, layout, layout_in, size, size_in}
use Rattle.ray_tracing.specs.Reading.{fine, judge_fields, judge_records, begin, version_in, past, from, judge_section, judge_sections, taken, judge_sheet, section_of, accepted, read_sheet, judge_lent, table}
use Rattle.ray_tracing.specs.Canonical.{count_of, section_bytes, header_bytes, sheet_bytes}
use Rattle.ray_tracing.specs.Writing.{end_of, section_with, sheet_with}
use Rattle.ray_tracing.proofs.Each.{each}
use Rattle.ray_tracing.proofs.Versions.{version-known}
use Rattle.ray_tracing.proofs.Reading.{past_more}
use Rattle.ray_tracing.proofs.Sheets.{Lent, lent_tells, lent-apart, lent_section, table_section}

-- a u16 holds every count
most-below : (v : Version) (k : ℕ) → k < 10 → (layout_in v k).most < 256 ^ 2
most-below v k h =
    ltb-true (layout_in v k).most (256 ^ 2)
    (each (λ (j : ℕ). ltb (layout_in v j).most (256 ^ 2) ≡ true) 10 (refl, (refl, (refl, (refl, (refl, (refl, (refl, (refl, (refl, (refl, tt)))))))))) k h)

pub end_more : (tables : ℕ → List ℕ) (k : ℕ) → end_of tables (k + 1) ≡ end_of tables k + 2 + length (tables (k + 1))
unfolding end_of
end_more tables k = ap (end_of tables) (add-one k)

-- ---- one section

-- p is where a count of t's records stands in s, then t, then r
module _ (s t r : List ℕ) (n p : ℕ) (e : drop p s ≡ le_bytes 2 n ++ (t ++ r)) (h : p ≤ length s) where
  whole_length : length s ≡ p + 2 + length t + length r
  whole_length =
      let d : length s - p ≡ length (le_bytes 2 n ++ (t ++ r)) = sym (length-drop p s) ∙ ap length e in
      omega (arith, d, length-append (le_bytes 2 n) (t ++ r), length-append t r, length-le_bytes 2 n)

  count_here : n < 256 ^ 2 → le_at 2 s p ≡ n
  count_here l = sym (rw add-zero at (le_drop 2 p s 0)) ∙ rw e (le_of_bytes 2 n (t ++ r) l)

  records_here : drop (p + 2) s ≡ t ++ r
  records_here = sym (drop-drop 2 p s) ∙ rw e (drop_at (le_bytes 2 n) (t ++ r) 2 (length-le_bytes 2 n))

  rest_here : drop (p + 2 + length t) s ≡ r
  rest_here = sym (drop-drop (length t) (p + 2) s) ∙ rw records_here (drop_at t r (length t) refl)

-- ---- the sheet
module _ (v : Version) (alignment counter : ℕ) (tables : ℕ → List ℕ) where
  abbrev bytes : List ℕ
  bytes = sheet_bytes v alignment counter tables

  -- section k is written and read alike
  pub record Written (k : ℕ) : Type 0 where
    pub ends : past bytes k ≡ end_of tables k
    pub rest : drop (end_of tables k) bytes ≡ section_bytes v tables k (9 - k)
    pub near : end_of tables k ≤ length bytes

  version-read : le_at 1 bytes 0 ≡ version_number v
  unfolding le_at sheet_bytes
  version-read = omega arith

  pub version_is : version_in bytes ≡ v
  version_is = version-known bytes v version-read

  header-length : length (header_bytes v alignment counter) ≡ 13
  header-length = rw length-append (omega (arith, length-le_bytes 4 alignment, length-le_bytes 8 counter))

  written : Written 0
  unfolding past end_of sheet_bytes
  written =
      record {
        ends = refl;
        rest = drop_at (header_bytes v alignment counter) (section_bytes v tables 0 9) 13 header-length;
        near = rw length-append (omega (arith, header-length));
      }

  module _ (lent : (k : ℕ) → k < 9 → judge_lent (k + 1) (layout_in v (k + 1)) (size_in v k) (tables k) (tables (k + 1)) ≡ fine) where
    module _ (k : ℕ) (h : k < 9) (w : Written k) where
      told : Lent (k + 1) (layout_in v (k + 1)) (size_in v k) (tables k) (tables (k + 1))
      told = lent_tells (k + 1) (layout_in v (k + 1)) (size_in v k) (tables k) (tables (k + 1)) (lent k h)

      here :
          drop (end_of tables k) bytes
          ≡ le_bytes 2 (count_of v tables (k + 1)) ++ (tables (k + 1) ++ section_bytes v tables (k + 1) (9 - (k + 1)))
      unfolding section_bytes
      here =
          let e : 9 - k ≡ suc (9 - (k + 1)) = omega arith in
          rw e at w.rest

      abbrev after : List ℕ
      after = section_bytes v tables (k + 1) (9 - (k + 1))

      count-read : le_at 2 bytes (past bytes k) ≡ count_of v tables (k + 1)
      count-read =
          rw w.ends
          (count_here bytes (tables (k + 1)) after (count_of v tables (k + 1)) (end_of tables k) here w.near
          (omega (arith, told.few, most-below v (k + 1) (omega arith))))

      count_size : count_of v tables (k + 1) * size_in v (k + 1) ≡ length (tables (k + 1))
      count_size = omega (arith, told.whole, div-add-mod' (length (tables (k + 1))) (size_in v (k + 1)))

      section_whole : past bytes k + 2 + le_at 2 bytes (past bytes k) * size_in (version_in bytes) (k + 1) ≤ length bytes
      section_whole =
          rw (version_is, count-read, count_size, w.ends)
          (omega (arith, whole_length bytes (tables (k + 1)) after (count_of v tables (k + 1)) (end_of tables k) here w.near))

      table-read : table bytes (k + 1) ≡ tables (k + 1)
      table-read =
          rw (
            table_section,
            version_is,
            count-read,
            count_size,
            w.ends,
            records_here bytes (tables (k + 1)) after (count_of v tables (k + 1)) (end_of tables k) here w.near,
          )
          (take-append_seam (tables (k + 1)) after)

      written-more : Written (k + 1)
      written-more =
          record {
            ends = rw (past_more, version_is, end_more, count-read, count_size, w.ends);
            rest = rw end_more (rest_here bytes (tables (k + 1)) after (count_of v tables (k + 1)) (end_of tables k) here w.near);
            near = rw end_more (omega (arith, whole_length bytes (tables (k + 1)) after (count_of v tables (k + 1)) (end_of tables k) here w.near));
          }

    pub written_all : (k : ℕ) → k ≤ 9 → Written k
    written_all zero h = written
    written_all (suc k) h = rw add-one at (written-more k (omega arith) (written_all k (omega arith)))

    pub written-table : (k : ℕ) → k < 9 → table bytes (k + 1) ≡ tables (k + 1)
    written-table k h = table-read k h (written_all k (omega arith))

    lent-before : (k : ℕ) → k < 9 → judge_lent (k + 1) (layout_in v (k + 1)) (size_in v k) (table bytes k) (tables (k + 1)) ≡ fine
    lent-before zero h = lent-apart 1 (omega arith) refl v v (size 0) (size 0) (table bytes 0) (tables 0) (tables 1) ∙ lent 0 h
    lent-before (suc k) h =
        let e : table bytes (suc k) ≡ tables (suc k) = rw add-one at (written-table k (omega arith)) in
        rw e (lent (suc k) h)

    section-read : (k : ℕ) → k < 9 → judge_section bytes k (from bytes k) (past bytes k) ≡ fine
    section-read k h =
        lent_section bytes k (from bytes k) (past bytes k) h (section_whole k h (written_all k (omega arith)))
        (rw (← table_section bytes k, written-table k h, version_is) (lent-before k h))

    sections-read : (n k : ℕ) → k + n ≡ 9 → judge_sections bytes k n ≡ fine
    unfolding judge_sections
    sections-read zero k e = refl
    sections-read (suc n) k e = rw (section-read k (omega arith), sections-read n (k + 1) (omega arith))

    sheet-end : length bytes ≤ past bytes 9
    unfolding section_bytes
    sheet-end =
        let w = written_all 9 (omega arith) in
        omega (arith, w.ends, sym (length-drop (end_of tables 9) bytes) ∙ ap length w.rest)

    section_is : (k : ℕ) → k < 9 → section_of bytes k ≡ section_with v tables k
    section_is k h =
        let w = written_all k (omega arith) in
        λ i. record { start = w.ends i + 2; count = count-read k h w i }

    -- the header's fields
    module _ (positive : 0 < alignment) (fits : alignment < 2 ^ 32) (counted : counter < 2 ^ 64) where
      long : 13 ≤ length bytes
      unfolding end_of
      long = written.near

      version-taken : taken (version_number v) ≡ true
      version-taken = by v
        where
          by : (v : Version) → taken (version_number v) ≡ true
          by version.One = refl
          by version.Two = refl

      pub alignment-read : le_at 4 bytes 1 ≡ alignment
      unfolding sheet_bytes
      alignment-read =
          sym (le_drop 4 1 bytes 0) ∙ rw append_assoc (le_of_bytes 4 alignment (le_bytes 8 counter ++ section_bytes v tables 0 9) fits)

      pub counter-read : le_at 8 bytes 5 ≡ counter
      unfolding sheet_bytes le_bytes
      counter-read = sym (le_drop 8 5 bytes 0) ∙ le_of_bytes 8 counter (section_bytes v tables 0 9) counted

      header_read : judge_records (begin 0 [] false) (layout 0).fields bytes 1 1 ≡ fine
      unfolding judge_records judge_fields
      header_read =
          rw (
            le-ltb (length bytes) 5 (omega (arith, long)),
            le-ltb (length bytes) 13 long,
            alignment-read,
            lt-ltb 0 alignment positive,
          )

      judged_fine : judge_sheet bytes ≡ fine
      unfolding judge_sheet
      judged_fine =
          rw (
            le-ltb (length bytes) 1 (omega (arith, long)),
            version-read,
            version-taken,
            header_read,
            sections-read 9 0 refl,
            le-ltb (past bytes 9) (length bytes) sheet-end,
          )

      pub written_read : read_sheet bytes ≡ accepted (sheet_with v alignment counter tables)
      unfolding read_sheet
      written_read =
          rw judged_fine
          (λ i. accepted
          (record {
            version = version_is i;
            alignment = alignment-read i;
            counter = counter-read i;
            buffers = section_is 0 (lit< tt) i;
            blases = section_is 1 (lit< tt) i;
            declared = section_is 2 (lit< tt) i;
            tlases = section_is 3 (lit< tt) i;
            entries = section_is 4 (lit< tt) i;
            geometries = section_is 5 (lit< tt) i;
            packages = section_is 6 (lit< tt) i;
            slots = section_is 7 (lit< tt) i;
            actions = section_is 8 (lit< tt) i;
          }))
