-- A canonical sheet section after section: where each stands, and that its count and its table, after those before it, make the sheet.
use Prim.Native.Nat.{ℕ, zero, suc, ◌+◌, ◌-◌, ◌*◌, ◌/◌, ◌≤◌, ◌<◌}
use native.Mathlib.Nat.{zero-add, mul-div_cancel}
use native.Mathlib.Omega.{arith}
use mathlib.Core.Path.{◌≡◌, refl, sym, ap, ◌∙◌}
use mathlib.Core.List.{List, [], ◌∷◌, append_assoc}
use lib.ListN.{length, take, drop, length-append}
use lib.Seq.{sets, drop-drop, take-add, length-take-le}
use Rattle.wire.specs.Wire.{le_at, le_bytes}
use Rattle.wire.proofs.Laws.{sets-append, le_bytes-at, length-le_bytes}
use Rattle.ray_tracing.specs.declared.Version.{Version}
use Rattle.ray_tracing.specs.declared.Version.TheVariants as version
use Rattle.ray_tracing.specs.declared.Sheet.{Sheet}
use Rattle.ray_tracing.specs.Layout.{version_number, layout_in, size, size_in}
use Rattle.ray_tracing.specs.Reading.{fine, judge_lent, version_in, past, from, table, sheet_of, accepted, read_sheet, judge_sheet}
use Rattle.ray_tracing.specs.Canonical.{count_of, section_bytes, header_bytes, sheet_bytes, canonical_table, canonical_tables, canonical}
use Rattle.ray_tracing.proofs.Each.{size-positive}
use Rattle.ray_tracing.proofs.Instances.{Below}
use Rattle.ray_tracing.proofs.Reading.{past_more, section_most}
use Rattle.ray_tracing.proofs.Sheets.{accepted-version, accepted-section, accepted-whole, accepted-length, accepted-lent, table_section}
use Rattle.ray_tracing.proofs.Canonical.{count_same, length_at}
use Rattle.sheet_write.specs.Sections.{section_written}

pub read_of : (s : List ℕ) → judge_sheet s ≡ fine → read_sheet s ≡ accepted (sheet_of s)
unfolding read_sheet
read_of s e = rw e

pub first_past : (s : List ℕ) → past s 0 ≡ 13
unfolding past
first_past s = refl

pub first-from : (s : List ℕ) → from s 0 ≡ 13
unfolding from
first-from s = refl

module _ (s : List ℕ) (f : judge_sheet s ≡ fine) where
  abbrev x : Sheet
  x = sheet_of s

  e : read_sheet s ≡ accepted x
  e = read_of s f

  abbrev v : Version
  v = version_in s

  abbrev tables : ℕ → List ℕ
  tables = canonical_tables s

  module _ (k : ℕ) (h : k < 9) where
    pub whole : past s k + 2 + le_at 2 s (past s k) * size_in v (k + 1) ≤ length s
    whole = accepted-whole s x e k h

    -- the table of section k is there
    pub from_past : from s k ≤ past s k
    unfolding past from
    from_past = go k h
      where
        go : (j : ℕ) → j < 9 → from s j ≤ past s j
        go zero l = omega arith
        go (suc j) l = omega arith

    pub table_here : take (past s k + 2 + le_at 2 s (past s k) * size_in v (k + 1) - (past s k + 2)) (drop (past s k + 2) s) ≡ table s (k + 1)
    table_here =
        let d : past s k + 2 + le_at 2 s (past s k) * size_in v (k + 1) - (past s k + 2) ≡ le_at 2 s (past s k) * size_in v (k + 1) = omega arith in
        rw d (sym (table_section s k))

    pub table-length : length (table s (k + 1)) ≡ le_at 2 s (past s k) * size_in v (k + 1)
    table-length = accepted-length s x e k h

    pub lent-here : judge_lent (k + 1) (layout_in v (k + 1)) (size_in v (k + 1 - 1)) (table s k) (table s (k + 1)) ≡ fine
    lent-here =
        let j : k + 1 - 1 ≡ k = omega arith in
        rw j (accepted-lent s x e k h)

  -- the header is there
  pub header_there : 13 ≤ length s
  header_there = omega (arith, whole 0 (omega arith), first_past s)

  -- at most 128 Blases
  pub few-blases : (k : ℕ) → k < 9 → k + 1 ≡ 3 → length (table s k) / size 2 ≤ 128
  few-blases k h j =
      let i : k ≡ 2 = omega arith in
      let l : length (table s 2) ≡ le_at 2 s (past s 1) * size 2 = accepted-length s x e 1 (omega arith) in
      let m = section_most s 1 (from s 1) (past s 1) (accepted-section s x e 1 (omega arith)) in
      rw (i, l) (omega (arith, m, mul-div_cancel (le_at 2 s (past s 1)) (size-positive v 2 (omega arith))))

  -- the sections from k on, after those before
  pub sections_next :
      (out out₁ : List ℕ) (k : ℕ)
      → k < 9
      → out₁ ≡ sets out (past s k) (section_written s k)
      → sets out₁ (past s (k + 1)) (section_bytes v tables (k + 1) (9 - (k + 1))) ≡ sets out (past s k) (section_bytes v tables k (9 - k))
  unfolding section_bytes
  sections_next out out₁ k h p =
      let w = section_written s k in
      let r = section_bytes v tables (k + 1) (9 - (k + 1)) in
      let n : 9 - k ≡ suc (9 - (k + 1)) = omega arith in
      let l : past s (k + 1) ≡ past s k + length w =
      past_more s k
      ∙ omega (arith, length-append (le_bytes 2 (count_of v tables (k + 1))) (tables (k + 1)), length-le_bytes 2 (count_of v tables (k + 1)), length_at s x e k h) in
      ap (λ (o : List ℕ). sets o (past s (k + 1)) r) p
      ∙ ap (λ (at : ℕ). sets (sets out (past s k) w) at r) l
      ∙ sets-append w r out (past s k)
      ∙ ap (sets out (past s k)) (append_assoc (le_bytes 2 (count_of v tables (k + 1))) (tables (k + 1)) r)
      ∙ ap (λ (m : ℕ). sets out (past s k) (section_bytes v tables k m)) (sym n)

  module _ (b : Below s) where
    module _ (k : ℕ) (h : k < 9) where
      -- its count's bytes
      count-bytes : take 2 (drop (past s k) s) ≡ le_bytes 2 (count_of v tables (k + 1))
      count-bytes = rw (count_same s x e k h) (sym (le_bytes-at 2 s (past s k) b (omega (arith, whole k h))))

      pub section-made :
          (out out₁ out₂ : List ℕ)
          → out₁ ≡ sets out (past s k) (take (past s k + 2 - past s k) (drop (past s k) s))
          → out₂ ≡ sets out₁ (past s k + 2) (canonical_table v (k + 1) (table s k) (table s (k + 1)))
          → out₂ ≡ sets out (past s k) (section_written s k)
      section-made out out₁ out₂ p q =
          let d : past s k + 2 - past s k ≡ 2 = omega arith in
          let p' : out₁ ≡ sets out (past s k) (le_bytes 2 (count_of v tables (k + 1))) = p ∙ rw (d, count-bytes) in
          let count = le_bytes 2 (count_of v tables (k + 1)) in
          let j : k + 1 - 1 ≡ k = omega arith in
          let q' : out₂ ≡ sets out₁ (past s k + 2) (tables (k + 1)) =
          q ∙ ap (λ (i : ℕ). sets out₁ (past s k + 2) (canonical_table v (k + 1) (table s i) (table s (k + 1)))) (sym j) in
          q'
          ∙ ap (λ (o : List ℕ). sets o (past s k + 2) (tables (k + 1))) p'
          ∙ ap (λ (n : ℕ). sets (sets out (past s k) count) (past s k + n) (tables (k + 1))) (sym (length-le_bytes 2 (count_of v tables (k + 1))))
          ∙ sets-append count (tables (k + 1)) out (past s k)

    -- the version byte, and then the rest
    pub header-put :
        (out out₁ out₂ : List ℕ)
        → out₁ ≡ sets out 0 (le_bytes 1 (le_at 1 s 0))
        → out₂ ≡ sets out₁ 1 (take 12 (drop 1 s))
        → out₂ ≡ sets out 0 (take 13 s)
    header-put out out₁ out₂ p q =
        let i : le_bytes 1 (le_at 1 s 0) ≡ take 1 s = le_bytes-at 1 s 0 b (omega (arith, header_there)) in
        let l : length (take 1 s) ≡ 1 = length-take-le 1 s (omega (arith, header_there)) in
        q
        ∙ ap (λ (o : List ℕ). sets o 1 (take 12 (drop 1 s))) (p ∙ ap (sets out 0) i)
        ∙ ap (λ (n : ℕ). sets (sets out 0 (take 1 s)) n (take 12 (drop 1 s))) (sym l ∙ sym (zero-add (length (take 1 s))))
        ∙ sets-append (take 1 s) (take 12 (drop 1 s)) out 0
        ∙ ap (sets out 0) (sym (take-add 1 12 s))

    pub header_made : take 13 s ≡ header_bytes v (le_at 4 s 1) (le_at 8 s 5)
    header_made =
        let l = header_there in
        let i : take 1 s ≡ version_number v ∷ [] = sym (le_bytes-at 1 s 0 b (omega arith)) ∙ ap (le_bytes 1) (accepted-version s x e) ∙ one v in
        take-add 1 12 s
        ∙ rw i
        (ap (λ (t : List ℕ). version_number v ∷ t)
        (take-add 4 8 (drop 1 s)
        ∙ rw (drop-drop 4 1 s, le_bytes-at 4 s 1 b (omega arith), le_bytes-at 8 s 5 b (omega arith))))
      where
        one : (u : Version) → le_bytes 1 (version_number u) ≡ version_number u ∷ []
        one version.One = unfold le_bytes in refl
        one version.Two = unfold le_bytes in refl

    -- all of them, after the header; none are left
    pub sheet-made :
        (out out₁ out₂ : List ℕ)
        → out₁ ≡ sets out 0 (take 13 s)
        → sets out₂ (past s 9) (section_bytes v tables 9 0) ≡ sets out₁ (past s 0) (section_bytes v tables 0 9)
        → out₂ ≡ sets out 0 (canonical s)
    unfolding canonical sheet_bytes section_bytes past
    sheet-made out out₁ out₂ p q =
        let t = header_bytes v (le_at 4 s 1) (le_at 8 s 5) in
        let l : length t ≡ 13 = omega (arith, length-append (le_bytes 4 (le_at 4 s 1)) (le_bytes 8 (le_at 8 s 5)), length-le_bytes 4 (le_at 4 s 1), length-le_bytes 8 (le_at 8 s 5)) in
        q
        ∙ ap (λ (o : List ℕ). sets o 13 (section_bytes v tables 0 9)) (p ∙ ap (sets out 0) header_made)
        ∙ ap (λ (n : ℕ). sets (sets out 0 t) n (section_bytes v tables 0 9)) (sym l ∙ sym (zero-add (length t)))
        ∙ sets-append t (section_bytes v tables 0 9) out 0

-- where the header and the sections of an accepted sheet stand
pub ruleset sections_stand = (header_there, whole, from_past, first_past, first-from)
