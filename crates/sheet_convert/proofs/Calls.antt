-- What a call answers and leaves: an empty sheet, another version, what the reader refuses, an offset that does not fit, too little room, and
-- where it writes.
use Prim.Native.Nat.{ℕ, ◌+◌, ◌-◌, ◌*◌, ◌/◌, ◌≤◌, ◌<◌}
use native.Mathlib.Nat.{mul-div_cancel}
use native.Mathlib.Omega.{arith}
use Rattle.std.specs.Prelude.{Err}
use mathlib.Core.Bool.{cond}
use mathlib.Core.Path.{◌≡◌, refl, sym, ap, ◌∙◌}
use mathlib.Core.List.{List, [], ◌∷◌, ◌++◌}
use lib.Dec.{ltb, lit<}
use lib.ListN.{length, take, drop, length-drop, take-append-drop}
use lib.Seq.{sets, length-take-le}
use borrow.Author.Tests.{lt-ltb, le-ltb, eq-eqb, ne_eqb}
use Rattle.wire.specs.Wire.{le_at, le_bytes}
use Rattle.wire.proofs.Laws.{sets-append}
use Rattle.ray_tracing.specs.declared.Version.{Version}
use Rattle.ray_tracing.specs.declared.Version.TheVariants as version
use Rattle.ray_tracing.specs.declared.Sheet.{Sheet}
use Rattle.ray_tracing.specs.declared.ConvertSheetError.{ConvertSheetError}
use Rattle.ray_tracing.specs.declared.ConvertSheetError.TheVariants as convert-sheet
use Rattle.ray_tracing.specs.Layout.{version_number, size, size_in}
use Rattle.ray_tracing.specs.Layout as layout
use Rattle.ray_tracing.specs.Reading.{fine, judge_lent, version_in, past, from, table, section_of, accepted, rejected, read_sheet}
use Rattle.ray_tracing.specs.Canonical.{wrote, unwritten}
use Rattle.ray_tracing.specs.Conversion.{other, converted_table, converted_records, converted, judge_offsets, unless_refused, convert_rule, converting_of, Converts}
use Rattle.ray_tracing.proofs.Each.{size-positive}
use Rattle.ray_tracing.proofs.Reading.{past_more, from_more}
use Rattle.ray_tracing.proofs.Sheets.{accepted-version, accepted-whole, accepted-length, accepted-lent}
use Rattle.ray_tracing.proofs.Converted as Converted
use Rattle.ray_tracing.proofs.Conversion.{there-length}
use Rattle.sheet_convert.specs.Judged.{offsets_of, Taken}
use Rattle.sheet_convert.proofs.Laws.{records_first}

-- ---- before the sheet is read

module _ (w : Version) (s out : List ℕ) where
  pub empty_call : length s < 1 → Converts w s out (unwritten 2 0) out
  unfolding convert_rule
  empty_call h = let e = lt-ltb (length s) 1 h in record { answer = rw e; left = rw e }

  pub other-call : 1 ≤ length s → ¬ (le_at 1 s 0 ≡ version_number (other w)) → Converts w s out (unwritten 1 0) out
  unfolding convert_rule
  other-call h d =
      let e = le-ltb (length s) 1 h in
      let f = ne_eqb (le_at 1 s 0) (version_number (other w)) d in
      record { answer = rw (e, f); left = rw (e, f) }

  pub refused-call :
      1 ≤ length s → le_at 1 s 0 ≡ version_number (other w) → (n p : ℕ) → rejected n p ≡ read_sheet s → Converts w s out (unwritten n p) out
  unfolding convert_rule
  refused-call h k n p r =
      let e = le-ltb (length s) 1 h in
      let f = eq-eqb (le_at 1 s 0) (version_number (other w)) k in
      record { answer = rw (e, f, ← r); left = rw (e, f, ← r) }

-- ---- a sheet that is read, and of the other version

version_byte : (w : Version) → le_bytes 1 (version_number w) ≡ version_number w ∷ []
unfolding le_bytes
version_byte version.One = refl
version_byte version.Two = refl

-- where its geometries stand
pub stands :
    (v : Version) (s : List ℕ) (x : Sheet)
    → read_sheet s ≡ accepted x
    → version_in s ≡ v
    → (13 ≤ (section_of s 5).start) × ((section_of s 5).start + (section_of s 5).count * size_in v 6 ≤ length s)
unfolding past
stands v s x r k = (omega arith, rw k at (accepted-whole s x r 5 (lit< tt)))

module _ {v w : Version} {s : List ℕ} {at n : ℕ} (t : Taken v w s at n) where
  from_is : at ≡ from s 6
  from_is = t.there.0 ∙ sym (from_more s 5)

  past_is : past s 6 ≡ at + n * size_in v 6
  past_is = rw (past_more s 5, t.known, t.there.0, t.there.1)

  count_is : n ≡ length (table s 6) / size_in v 6
  count_is =
      let l = rw t.known at (accepted-length s t.sheet t.read 5 (lit< tt)) in
      rw (l, ← t.there.1) (sym (mul-div_cancel n (size-positive v 6 (omega arith))))

  pub long : length s - n * size_in v 6 + n * size_in w 6 ≡ length (converted w s)
  long =
      let l = rw (← count_is) at (there-length v w t.way s t.sheet t.read t.known) in
      omega (arith, l, t.inside)

  geometries : converted_records v w (drop at s) n ≡ converted_table v w (table s 6)
  geometries =
      let e : drop at s ≡ table s 6 ++ drop (past s 6 - from s 6) (drop (from s 6) s) =
      ap (λ (k : ℕ). drop k s) from_is ∙ sym (take-append-drop (past s 6 - from s 6) (drop (from s 6) s)) in
      let l = rw t.known at (accepted-length s t.sheet t.read 5 (lit< tt)) in
      rw e (records_first v w n (table s 6) (drop (past s 6 - from s 6) (drop (from s 6) s)) (rw (l, t.there.1) (omega arith)))
      ∙ ap (converted_records v w (table s 6)) count_is

  lent : judge_lent 6 (layout.geometries v) (size 5) (table s 5) (table s 6) ≡ fine
  lent = rw t.known at (accepted-lent s t.sheet t.read 5 (lit< tt))

  -- its four parts, one after the other
  pub whole_written :
      (out out₁ out₂ out₃ : List ℕ) {out₄ : List ℕ}
      → out₁ ≡ sets out 0 (le_bytes 1 (version_number w))
      → out₂ ≡ sets out₁ 1 (take (at - 1) (drop 1 s))
      → out₃ ≡ sets out₂ at (converted_records v w (drop at s) n)
      → out₄ ≡ sets out₃ (at + n * size_in w 6) (drop (at + n * size_in v 6) s)
      → out₄ ≡ sets out 0 (converted w s)
  unfolding converted
  whole_written out out₁ out₂ out₃ a b c d =
      let x = version_number w ∷ [] in
      let y = take (at - 1) (drop 1 s) in
      let z = converted_records v w (drop at s) n in
      let r = drop (at + n * size_in v 6) s in
      let ly : length y ≡ at - 1 = length-take-le (at - 1) (drop 1 s) (rw length-drop (omega (arith, t.starts, t.inside))) in
      let lz : length z ≡ n * size_in w 6 =
      ap length geometries ∙ Converted.table-length v w (table s 5) (table s 6) lent ∙ ap (λ (k : ℕ). k * size_in w 6) (sym count_is) in
      let p : at + n * size_in w 6 ≡ at + length z = omega (arith, lz) in
      let q : at ≡ 1 + length y = omega (arith, ly, t.starts) in
      d
      ∙ ap (λ (u : List ℕ). sets u (at + n * size_in w 6) r) c
      ∙ ap (λ (k : ℕ). sets (sets out₂ at z) k r) p
      ∙ sets-append z r out₂ at
      ∙ ap (λ (u : List ℕ). sets u at (z ++ r)) b
      ∙ ap (λ (k : ℕ). sets (sets out₁ 1 y) k (z ++ r)) q
      ∙ sets-append y (z ++ r) out₁ 1
      ∙ ap (λ (u : List ℕ). sets u 1 (y ++ (z ++ r))) (a ∙ ap (sets out 0) (version_byte w))
      ∙ sets-append x (y ++ (z ++ r)) out 0
      ∙ (λ i. sets out 0 (version_number w ∷ (take (from_is i - 1) (drop 1 s) ++ ((geometries ∙ ap (λ (u : Version). converted_table u w (table s 6)) (sym t.way)) i ++ drop (sym past_is i) s))))

  -- the rule, past the reader
  rule_is :
      (room : ℕ)
      → convert_rule w s room
      ≡ unless_refused (judge_offsets v w s at n)
      (cond (ltb room (length (converted w s))) (unwritten 39 0) (wrote (length (converted w s))))
  unfolding convert_rule
  rule_is room =
      let k = accepted-version s t.sheet t.read ∙ ap version_number (t.known ∙ sym t.way) in
      rw (
        le-ltb (length s) 1 (omega (arith, t.starts, t.inside)),
        eq-eqb (le_at 1 s 0) (version_number (other w)) k,
        t.read,
        t.way,
        ← count_is,
        ← from_is,
      )

  module _ (out : List ℕ) where
    pub far_call : (r : ConvertSheetError) → offsets_of (Err r) ≡ judge_offsets v w s at n → Converts w s out (converting_of (Err r)) out
    far_call (convert-sheet.Malformed r) e = record { answer = rw (rule_is (length out), ← e); left = rw (rule_is (length out), ← e) }
    far_call (convert-sheet.OffsetTooFar p) e = record { answer = rw (rule_is (length out), ← e); left = rw (rule_is (length out), ← e) }
    far_call convert-sheet.OutputTooShort e = record { answer = rw (rule_is (length out), ← e); left = rw (rule_is (length out), ← e) }

    module _ (e : fine ≡ judge_offsets v w s at n) where
      pub short-call : length out < length (converted w s) → Converts w s out (unwritten 39 0) out
      short-call h =
          let l = lt-ltb (length out) (length (converted w s)) h in
          record { answer = rw (rule_is (length out), ← e, l); left = rw (rule_is (length out), ← e, l) }

      pub written-call :
          length (converted w s) ≤ length out → (p : List ℕ) → p ≡ sets out 0 (converted w s) → Converts w s out (wrote (length (converted w s))) p
      written-call h p g =
          let l = le-ltb (length out) (length (converted w s)) h in
          record { answer = rw (rule_is (length out), ← e, l); left = rw (rule_is (length out), ← e, l) g }
