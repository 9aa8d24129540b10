-- "Going there and back gives the same bytes": of any two calls of the converters, each by the definition that its contract cites. And a
-- converted sheet is read, and builds and submits as it did.
use Prim.Native.Nat.{ℕ, zero, suc, ◌+◌, ◌-◌, ◌*◌, ◌/◌, ◌^◌, ◌≤◌, ◌<◌}
use native.Mathlib.Nat.{suc-mul, mul-le-mul_right}
use native.Mathlib.Omega.{arith}
use mathlib.Core.Bool.{Bool, true, false, not}
use mathlib.Core.Path.{◌≡◌, refl, sym, ap, ◌∙◌, subst}
use mathlib.Core.List.{List, ◌++◌}
use lib.Dec.{ltb, lit<}
use lib.ListN.{length, take, drop, length-append, length-drop}
use lib.Seq.{sets, length-take-le}
use borrow.Author.Tests.{ltb-true, ltb-false, lt-ltb, le-ltb, eq-eqb, eqb-true, not-false}
use Rattle.wire.specs.Wire.{le_at}
use Rattle.wire.proofs.Laws.{le_below, le_drop, le_take}
use Rattle.ray_tracing.specs.declared.Version.{Version}
use Rattle.ray_tracing.specs.declared.Version.TheVariants as version
use Rattle.ray_tracing.specs.declared.BlasGeometry.{BlasGeometry}
use Rattle.ray_tracing.specs.declared.Sheet.{Sheet}
use Rattle.ray_tracing.specs.Layout.{version_number, offset_width, size_in}
use Rattle.ray_tracing.specs.Reading.{Judged, fine, refused, judged_when, ◌and_next◌, version_in, past, from, table, accepted, read_sheet}
use Rattle.ray_tracing.specs.Plan.{Tables, tables_of, sheet_tables, passed, judge_tables, Outputs, plan_of, build, outputs_after, geometry_of}
use Rattle.ray_tracing.specs.Report.{answer_lines, built_lines, reading_lines, report}
use Rattle.ray_tracing.specs.Canonical.{sheet_bytes, header_bytes, Writing, wrote, unwritten, writing_leaves}
use Rattle.ray_tracing.specs.Writing.{sheet_with}
use Rattle.ray_tracing.specs.Conversion.{other, converted_table, converted, judge_version, judge_offsets, unless_refused, convert_rule, Converts}
use Rattle.ray_tracing.proofs.Instances.{Below}
use Rattle.ray_tracing.proofs.Each.{each}
use Rattle.ray_tracing.proofs.Reading.{refused_not_fine, or_fine, on_fine, past_more, from_more}
use Rattle.ray_tracing.proofs.Sheets.{accepted_is, accepted-version, accepted-alignment, accepted-whole, accepted-length, accepted-lent}
use Rattle.ray_tracing.proofs.Accepted.{build_takes}
use Rattle.ray_tracing.proofs.Writing.{version_is, written-table, written_read}
use Rattle.ray_tracing.proofs.Versions.{geometry-size, version-known}
use Rattle.ray_tracing.proofs.Canonical.{below-table, sections_cong, wrote_not, wrote-read, wrote-fits, written_back}
use Rattle.ray_tracing.proofs.SameGeometries.{with_geometries, plan-same, build_same, after_same, lines_same}
use Rattle.ray_tracing.proofs.Converted.{Fits, many_size, table-length, table-back, table_same}
use Rattle.ray_tracing.proofs.ConvertedSheet.{sheet_again, tables_in, AllLent, lent_others, converted_is}

pub other-other : (v : Version) → other (other v) ≡ v
other-other version.One = refl
other-other version.Two = refl

-- ---- offsets that fit

offsets_fit :
    (v w : Version) (s : List ℕ) (n at : ℕ)
    → judge_offsets v w s at n ≡ fine
    → (g : ℕ)
    → g < n
    → le_at (offset_width v) s (at + (g * size_in v 6 + 5)) < 256 ^ offset_width w
unfolding judge_offsets
offsets_fit v w s zero at e g h = absurd (omega arith)
offsets_fit v w s (suc n) at e zero h =
    let x = or_fine (judged_when (not (ltb (le_at (offset_width v) s (at + 5)) (256 ^ offset_width w))) (refused 47 _)) _ e in
    let z : at + (0 * size_in v 6 + 5) ≡ at + 5 = omega arith in
    rw z (ltb-true (le_at (offset_width v) s (at + 5)) (256 ^ offset_width w) (not-false _ (on_fine _ 47 _ x.0)))
offsets_fit v w s (suc n) at e (suc g) h =
    let x = or_fine (judged_when (not (ltb (le_at (offset_width v) s (at + 5)) (256 ^ offset_width w))) (refused 47 _)) _ e in
    let z : at + (suc g * size_in v 6 + 5) ≡ at + size_in v 6 + (g * size_in v 6 + 5) = omega (arith, suc-mul g (size_in v 6)) in
    rw z (offsets_fit v w s n (at + size_in v 6) x.1 g (omega arith))

fit_offsets :
    (v w : Version) (s : List ℕ) (n at : ℕ)
    → ((g : ℕ) → g < n → le_at (offset_width v) s (at + (g * size_in v 6 + 5)) < 256 ^ offset_width w)
    → judge_offsets v w s at n ≡ fine
unfolding judge_offsets
fit_offsets v w s zero at f = refl
fit_offsets v w s (suc n) at f =
    let z : at + (0 * size_in v 6 + 5) ≡ at + 5 = omega arith in
    rw (lt-ltb (le_at (offset_width v) s (at + 5)) (256 ^ offset_width w) (rw z at (f 0 (omega arith))))
    (fit_offsets v w s n (at + size_in v 6) (λ g h. later g (f (suc g) (omega arith))))
  where
    later : (g : ℕ) → le_at (offset_width v) s (at + (suc g * size_in v 6 + 5)) < 256 ^ offset_width w
        → le_at (offset_width v) s (at + size_in v 6 + (g * size_in v 6 + 5)) < 256 ^ offset_width w
    later g l =
        let z : at + (suc g * size_in v 6 + 5) ≡ at + size_in v 6 + (g * size_in v 6 + 5) = omega (arith, suc-mul g (size_in v 6)) in
        rw z at l

-- ---- an accepted sheet of version v

module _ (v : Version) (s : List ℕ) (x : Sheet) (e : read_sheet s ≡ accepted x) (k : version_in s ≡ v) where
  abbrev pub geometry_table : List ℕ
  geometry_table = table s 6

  abbrev pub many : ℕ
  many = length (table s 6) / size_in v 6

  lent : AllLent v (table s)
  lent = subst (λ (u : Version). AllLent u (table s)) k (λ j h. accepted-lent s x e j h)

  pub table-size : past s 6 - from s 6 ≡ many * size_in v 6
  table-size =
      let a : past s 6 - from s 6 ≡ le_at 2 s (past s 5) * size_in v 6 = rw (past_more s 5, from_more s 5, k) (omega arith) in
      let l = rw k at (accepted-length s x e 5 (lit< tt)) in
      omega (arith, a, l, many_size v v (table s 5) (table s 6) (lent 5 (lit< tt)))

  -- an offset of the table is the sheet's
  offset_there : (g : ℕ) → g < many → le_at (offset_width v) (table s 6) (g * size_in v 6 + 5) ≡ le_at (offset_width v) s (from s 6 + (g * size_in v 6 + 5))
  offset_there g h =
      le_take (offset_width v) (past s 6 - from s 6) (drop (from s 6) s) (g * size_in v 6 + 5)
      (rw table-size (omega (arith, geometry-size v, suc-mul g (size_in v 6), mul-le-mul_right (size_in v 6) h)))
      ∙ le_drop (offset_width v) (from s 6) s (g * size_in v 6 + 5)

  pub judged_fits : (w : Version) → judge_offsets v w s (from s 6) many ≡ fine → Fits v w (table s 6) many
  judged_fits w f g h = rw (offset_there g h) (offsets_fit v w s many (from s 6) f g h)

  pub fits_judged : (w : Version) → Fits v w (table s 6) many → judge_offsets v w s (from s 6) many ≡ fine
  fits_judged w f = fit_offsets v w s many (from s 6) (λ g h. rw (← offset_there g h) (f g h))

-- ---- as one of version w

module _ (v w : Version) (o : other w ≡ v) (o' : other v ≡ w) (s : List ℕ) (x : Sheet) (e : read_sheet s ≡ accepted x) (k : version_in s ≡ v) (b : Below s) where
  abbrev alignment : ℕ
  alignment = le_at 4 s 1

  abbrev counter : ℕ
  counter = le_at 8 s 5

  abbrev others : ℕ → List ℕ
  others = tables_in v w (table s)

  fine_here : AllLent v (table s)
  fine_here = lent v s x e k

  fine-there : AllLent w others
  fine-there = lent_others v w alignment counter (table s) fine_here

  again : s ≡ sheet_bytes v alignment counter (table s)
  again = subst (λ (u : Version). s ≡ sheet_bytes u alignment counter (table s)) k (sheet_again s x e b)

  there : converted w s ≡ sheet_bytes w alignment counter others
  there = ap (converted w) again ∙ converted_is v w alignment counter (table s) fine_here o

  positive : 0 < alignment
  positive = rw (accepted_is s x e) at (accepted-alignment s x e)

  -- it is read
  pub there-read : read_sheet (converted w s) ≡ accepted (sheet_with w alignment counter others)
  there-read = ap read_sheet there ∙ written_read w alignment counter others fine-there positive (le_below 4 s 1 b) (le_below 8 s 5 b)

  there-version : version_in (converted w s) ≡ w
  there-version = ap version_in there ∙ version_is w alignment counter others

  there-table : (j : ℕ) → j < 9 → table (converted w s) (j + 1) ≡ others (j + 1)
  there-table j h = ap (λ (u : List ℕ). table u (j + 1)) there ∙ written-table w alignment counter others fine-there j h

  -- where every offset fits
  module _ (fit : Fits v w (table s 6) (many v s x e k)) where
    back-table : (j : ℕ) → j < 9 → tables_in w v others (j + 1) ≡ table s (j + 1)
    back-table =
        each (λ (j : ℕ). tables_in w v others (j + 1) ≡ table s (j + 1)) 9 (
          refl,
          (
            refl,
            (refl, (refl, (refl, (table-back v w (table s 5) (table s 6) (fine_here 5 (lit< tt)) fit (below-table s 6 b), (refl, (refl, (refl, tt))))))),
          ),
        )

    -- "Going there and back gives the same bytes."
    pub there_back : converted v (converted w s) ≡ s
    unfolding sheet_bytes
    there_back =
        ap (converted v) there
        ∙ converted_is w v alignment counter others fine-there o'
        ∙ ap (λ (u : List ℕ). header_bytes v alignment counter ++ u) (sections_cong v (tables_in w v others) (table s) back-table 9 0 (omega arith))
        ∙ sym again

    -- the tables of a build, and of the converted sheet's
    abbrev here : Tables
    here = sheet_tables v alignment (table s)

    abbrev wide : Tables
    wide = with_geometries here w (converted_table v w (table s 6))

    tables-there : sheet_tables w alignment (table (converted w s)) ≡ wide
    tables-there =
        λ i. tables_of w alignment
        (there-table 0 (lit< tt) i)
        (there-table 1 (lit< tt) i)
        (there-table 2 (lit< tt) i)
        (there-table 3 (lit< tt) i)
        (there-table 4 (lit< tt) i)
        (there-table 5 (lit< tt) i)
        (there-table 6 (lit< tt) i)
        (there-table 7 (lit< tt) i)

    same : (g : ℕ) → geometry_of wide g ≡ geometry_of here g
    same = table_same v w (table s 5) (table s 6) (fine_here 5 (lit< tt)) fit

    takes-here : judge_tables here ≡ passed
    takes-here =
        subst (λ (u : Version). judge_tables (sheet_tables u alignment (table s)) ≡ passed) k
        (rw (accepted_is s x e) at (build_takes s x e))

    takes-wide : judge_tables wide ≡ passed
    takes-wide =
        subst (λ (t : Tables). judge_tables t ≡ passed) tables-there
        (build_takes (converted w s) (sheet_with w alignment counter others) there-read)

    -- its build answers as before, and leaves the same
    pub there-build : (p : Outputs) → build (sheet_tables w alignment (table (converted w s))) p ≡ build here p
    there-build p =
        ap (λ (t : Tables). build t p) tables-there ∙ build_same here w (converted_table v w (table s 6)) same takes-wide takes-here p

    pub there-leaves : (p : Outputs) → outputs_after (sheet_tables w alignment (table (converted w s))) p ≡ outputs_after here p
    there-leaves p =
        ap (λ (t : Tables). outputs_after t p) tables-there ∙ after_same here w (converted_table v w (table s 6)) same takes-wide takes-here p

    -- and so does its submission: it prints the same lines
    pub there-report : report (converted w s) ≡ report s
    unfolding report built_lines
    there-report =
        let plan = plan-same here w (converted_table v w (table s 6)) same in
        let build' = build_same here w (converted_table v w (table s 6)) same takes-wide takes-here in
        ap (reading_lines (converted w s)) there-read
        ∙ (λ i. answer_lines counter (tables-there i) (there-table 8 (lit< tt) i) (build (tables-there i) (plan_of (tables-there i))))
        ∙ lines_same here w (converted_table v w (table s 6)) same counter (table s 9) (build wide (plan_of wide))
        ∙ ap (answer_lines counter here (table s 9)) (build' (plan_of wide) ∙ ap (build here) plan)
        ∙ (λ i. answer_lines counter (sheet_tables (sym k i) alignment (table s)) (table s 9)
        (build (sheet_tables (sym k i) alignment (table s)) (plan_of (sheet_tables (sym k i) alignment (table s)))))
        ∙ sym (ap (reading_lines s) (e ∙ ap accepted (accepted_is s x e)))

    -- the other way every offset fits
    back_fits : Fits w v (table (converted w s) 6) (many w (converted w s) (sheet_with w alignment counter others) there-read there-version)
    back_fits g h =
        rw (there-table 5 (lit< tt), ap (λ (q : BlasGeometry). q.first) (same g)) (le_below (offset_width v) (table s 6) (g * size_in v 6 + 5) (below-table s 6 b))

    back-judged :
        judge_offsets w v (converted w s) (from (converted w s) 6) (length (table (converted w s) 6) / size_in w 6) ≡ fine
    back-judged = fits_judged w (converted w s) (sheet_with w alignment counter others) there-read there-version v back_fits

-- how long it is

module _ (v w : Version) (o : other w ≡ v) (s : List ℕ) (x : Sheet) (e : read_sheet s ≡ accepted x) (k : version_in s ≡ v) where
  pub there-length : length (converted w s) + many v s x e k * size_in v 6 ≡ length s + many v s x e k * size_in w 6
  unfolding converted
  there-length =
      let l = accepted-whole s x e 5 (lit< tt) in
      let m = table-size v s x e k in
      let f = from_more s 5 in
      let p = past_more s 5 in
      let a = take (from s 6 - 1) (drop 1 s) in
      let c = converted_table v w (table s 6) in
      let r = drop (past s 6) s in
      rw o
      (omega (
        arith,
        length-append a (c ++ r),
        length-append c r,
        length-take-le (from s 6 - 1) (drop 1 s) (rw length-drop (omega arith)),
        table-length v w (table s 5) (table s 6) (lent v s x e k 5 (lit< tt)),
        length-drop (past s 6) s,
      ))

-- ---- calls

refused_none : (n : ℕ) (j : Judged) (a : Writing) → wrote n ≡ unless_refused j a → (j ≡ fine) × (wrote n ≡ a)
refused_none n fine a q = (refl, q)
refused_none n (refused m p) a q = absurd (wrote_not n m p q)

version_judged : (v : Version) (s : List ℕ) → judge_version v s ≡ fine → le_at 1 s 0 ≡ version_number v
version_judged v s f =
    let x = or_fine (judged_when (ltb (length s) 1) (refused 2 0)) _ f in
    eqb-true (le_at 1 s 0) (version_number v) (not-false _ (on_fine _ 1 0 x.1))

-- what an accepted sheet of the other version whose offsets fit is answered
module _ (w : Version) (s : List ℕ) (x : Sheet) (e : read_sheet s ≡ accepted x) (k : version_in s ≡ other w) where
  pub converts_fitting :
      judge_offsets (other w) w s (from s 6) (length (table s 6) / size_in (other w) 6) ≡ fine
      → (room : ℕ)
      → length (converted w s) ≤ room
      → convert_rule w s room ≡ wrote (length (converted w s))
  unfolding convert_rule
  converts_fitting f room l =
      let n = accepted-version s x e ∙ ap version_number k in
      rw (
        le-ltb (length s) 1 (omega (arith, accepted-whole s x e 0 (lit< tt))),
        eq-eqb (le_at 1 s 0) (version_number (other w)) n,
        e,
        f,
        le-ltb room (length (converted w s)) l,
      )

  -- "then 47", "then 39": an offset that does not fit is refused whatever room there is
  pub converts_far :
      (m q : ℕ)
      → judge_offsets (other w) w s (from s 6) (length (table s 6) / size_in (other w) 6) ≡ refused m q
      → (room : ℕ)
      → convert_rule w s room ≡ unwritten m q
  unfolding convert_rule
  converts_far m q f room =
      let n = accepted-version s x e ∙ ap version_number k in
      rw (
        le-ltb (length s) 1 (omega (arith, accepted-whole s x e 0 (lit< tt))),
        eq-eqb (le_at 1 s 0) (version_number (other w)) n,
        e,
        f,
      )

-- a call that wrote n bytes of out, and left p
module _ (w : Version) (s out p : List ℕ) (n : ℕ) (call : Converts w s out (wrote n) p) (b : Below s) where
  abbrev fitting : Type 0
  fitting = judge_offsets (other w) w s (from s 6) (length (table s 6) / size_in (other w) 6) ≡ fine

  ruled :
      (le_at 1 s 0 ≡ version_number (other w))
      × ((x : Sheet) × ((read_sheet s ≡ accepted x) × (fitting × ((length (converted w s) ≤ length out) × (n ≡ length (converted w s))))))
  unfolding convert_rule
  ruled =
      let a = refused_none n (judge_version (other w) s) _ call.answer in
      let r = wrote-read n (read_sheet s) _ a.1 in
      let j = refused_none n (judge_offsets (other w) w s (from s 6) (length (table s 6) / size_in (other w) 6)) _ r.1.1 in
      let f = wrote-fits n (length (converted w s)) (ltb (length out) (length (converted w s))) j.1 in (
        version_judged (other w) s a.0,
        (r.0, (r.1.0, (j.0, (ltb-false (length out) (length (converted w s)) f.0, f.1)))),
      )

  sheet : Sheet
  sheet = ruled.1.0

  read : read_sheet s ≡ accepted sheet
  unfolding sheet
  read = ruled.1.1.0

  known : version_in s ≡ other w
  known = version-known s (other w) ruled.0

  fit : Fits (other w) w (table s 6) (many (other w) s sheet read known)
  fit = judged_fits (other w) s sheet read known w ruled.1.1.1.0

  -- what it wrote
  pub converts_bytes : take n p ≡ converted w s
  converts_bytes =
      let r = ruled.1.1.1.1 in
      let e : p ≡ sets out 0 (converted w s) = call.left ∙ ap (λ (a : Writing). writing_leaves a (converted w s) out) (sym call.answer) in
      rw (e, r.1) (written_back (converted w s) out r.0)

  -- it is read, as one of version w
  pub converts_read : (y : Sheet) × ((read_sheet (take n p) ≡ accepted y) × (y.version ≡ w))
  converts_read = (
    sheet_with w (le_at 4 s 1) (le_at 8 s 5) (tables_in (other w) w (table s)),
    (rw converts_bytes (there-read (other w) w refl (other-other w) s sheet read known b), refl),
  )

  -- its build answers as before, and leaves the same
  pub converts_build :
      (o : Outputs)
      → (build (sheet_tables w (le_at 4 s 1) (table (take n p))) o ≡ build (sheet_tables (other w) (le_at 4 s 1) (table s)) o)
      × (outputs_after (sheet_tables w (le_at 4 s 1) (table (take n p))) o ≡ outputs_after (sheet_tables (other w) (le_at 4 s 1) (table s)) o)
  converts_build o =
      rw converts_bytes (
        there-build (other w) w refl (other-other w) s sheet read known b fit o,
        there-leaves (other w) w refl (other-other w) s sheet read known b fit o,
      )

  -- and so does its submission: the same lines are printed
  pub converts_report : report (take n p) ≡ report s
  converts_report = rw converts_bytes (there-report (other w) w refl (other-other w) s sheet read known b fit)

  -- "Going there and back gives the same bytes": a call the other way, lent as much as the sheet was
  pub converts_back :
      (out₂ q : List ℕ) (a : Writing)
      → Converts (other w) (take n p) out₂ a q
      → length s ≤ length out₂
      → (a ≡ wrote (length s)) × (take (length s) q ≡ s)
  converts_back out₂ q a second l =
      (second.answer ∙ rule, ap (take (length s)) (second.left ∙ (λ i. writing_leaves (rule i) (back i) out₂)) ∙ written_back s out₂ l)
    where
      back : converted (other w) (take n p) ≡ s
      back = rw converts_bytes (there_back (other w) w refl (other-other w) s sheet read known b fit)

      y : Sheet
      y = sheet_with w (le_at 4 s 1) (le_at 8 s 5) (tables_in (other w) w (table s))

      taken : convert_rule (other w) (converted w s) (length out₂) ≡ wrote (length (converted (other w) (converted w s)))
      taken =
          converts_fitting (other w) (converted w s) y
          (there-read (other w) w refl (other-other w) s sheet read known b)
          (there-version (other w) w refl (other-other w) s sheet read known b ∙ sym (other-other w))
          (rw (other-other w) (back-judged (other w) w refl (other-other w) s sheet read known b fit))
          (length out₂)
          (rw (there_back (other w) w refl (other-other w) s sheet read known b fit) l)

      rule : convert_rule (other w) (take n p) (length out₂) ≡ wrote (length s)
      rule =
          ap (λ (u : List ℕ). convert_rule (other w) u (length out₂)) converts_bytes
          ∙ taken
          ∙ ap (λ (u : List ℕ). wrote (length u)) (there_back (other w) w refl (other-other w) s sheet read known b fit)

-- "1 to 2 always": with room no accepted sheet of version 1 is refused
pub widens_always :
    (s : List ℕ) (x : Sheet)
    → read_sheet s ≡ accepted x
    → x.version ≡ version.One
    → Below s
    → (out p : List ℕ) (a : Writing)
    → Converts version.Two s out a p
    → length (converted version.Two s) ≤ length out
    → a ≡ wrote (length (converted version.Two s))
widens_always s x e v b out p a call l =
    let k : version_in s ≡ version.One = sym (ap (λ (y : Sheet). y.version) (accepted_is s x e)) ∙ v in
    call.answer
    ∙ converts_fitting version.Two s x e k
    (fits_judged version.One s x e k version.Two (λ g h. omega (arith, le_below 4 (table s 6) (g * 44 + 5) (below-table s 6 b)))) (length out) l

-- of n geometries from a place on, the one whose offset stands at q is past w's width, and those before it are not
abbrev pub FirstFar : Version → Version → List ℕ → ℕ → ℕ → ℕ → Type 0
FirstFar v w s n at q =
    (g : ℕ)
    × ((g < n)
    × ((q ≡ at + (g * size_in v 6 + 5))
    × ((256 ^ offset_width w ≤ le_at (offset_width v) s q)
    × ((j : ℕ) → j < g → le_at (offset_width v) s (at + (j * size_in v 6 + 5)) < 256 ^ offset_width w))))

-- "2 to 1 only where every box offset and first vertex fits", "47 at the byte place of the first that doesn't fit"
pub first_far :
    (v w : Version) (s : List ℕ) (n at m q : ℕ) → judge_offsets v w s at n ≡ refused m q → (m ≡ 47) × FirstFar v w s n at q
unfolding judge_offsets
first_far v w s zero at m q e = absurd (refused_not_fine m q (sym e))
first_far v w s (suc n) at m q e =
    go (ltb (le_at (offset_width v) s (at + 5)) (256 ^ offset_width w)) refl e (λ f. first_far v w s n (at + size_in v 6) m q f)
  where
    before :
        (g : ℕ)
        → le_at (offset_width v) s (at + 5) < 256 ^ offset_width w
        → ((j : ℕ) → j < g → le_at (offset_width v) s (at + size_in v 6 + (j * size_in v 6 + 5)) < 256 ^ offset_width w)
        → (j : ℕ)
        → j < suc g
        → le_at (offset_width v) s (at + (j * size_in v 6 + 5)) < 256 ^ offset_width w
    before g f h zero l =
        let z : at + (0 * size_in v 6 + 5) ≡ at + 5 = omega arith in
        rw z f
    before g f h (suc j) l =
        let z : at + (suc j * size_in v 6 + 5) ≡ at + size_in v 6 + (j * size_in v 6 + 5) = omega (arith, suc-mul j (size_in v 6)) in
        rw z (h j (omega arith))

    go :
        (t : Bool)
        → ltb (le_at (offset_width v) s (at + 5)) (256 ^ offset_width w) ≡ t
        → (judged_when (not t) (refused 47 (at + 5)) and_next judge_offsets v w s (at + size_in v 6) n) ≡ refused m q
        → (judge_offsets v w s (at + size_in v 6) n ≡ refused m q → (m ≡ 47) × FirstFar v w s n (at + size_in v 6) q)
        → (m ≡ 47) × FirstFar v w s (suc n) at q
    go false t f r =
        let a : at + 5 ≡ q = cc in (
          cc,
          (0, (omega arith, (omega arith, (rw (← a) (ltb-false (le_at (offset_width v) s (at + 5)) (256 ^ offset_width w) t), λ j h. absurd (omega arith))))),
        )
    go true t f r =
        let x = r f in
        let g = x.1.0 in (
          x.0,
          (
            suc g,
            (
              omega (arith, x.1.1.0),
              (
                omega (arith, x.1.1.1.0, suc-mul g (size_in v 6)),
                (
                  x.1.1.1.1.0,
                  before g (ltb-true (le_at (offset_width v) s (at + 5)) (256 ^ offset_width w) t) x.1.1.1.1.1,
                ),
              ),
            ),
          ),
        )
