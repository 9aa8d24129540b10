-- The mark that names each Tlas's Blases, kind 5: an action of it is a Build of its lists, so that a call answers and leaves what it would
-- with Builds in their place; there is no kind above it; and no sheet that is accepted has one, so that a report makes none.
use Prim.Native.Nat.{ℕ, zero, suc, ◌+◌, ◌*◌, ◌/◌, ◌<◌}
use native.Mathlib.Nat.{zero-add}
use native.Mathlib.Omega.{arith}
use mathlib.Core.Path.{◌≡◌, refl, sym, ap, ◌∙◌}
use mathlib.Core.Bool.{Bool, true, false, ◌&&◌, ◌||◌, cond, false≢true}
use mathlib.Core.List.{List, [], ◌∷◌, ◌++◌}
use mathlib.Core.Logic.{◌↔◌}
use Rattle.std.specs.Prelude.{Result}
use lib.ListN.{length}
use lib.Dec.{eqb, ltb, leb, lit<}
use borrow.Author.Tests.{eqb-true, ne_eqb, leb-true}
use Rattle.ray_tracing.specs.declared.Sheet.{Sheet}
use Rattle.ray_tracing.specs.declared.SubmissionRefusal.{SubmissionRefusal}
use Rattle.ray_tracing.specs.declared.CommandIndices.{CommandIndices}
use Rattle.ray_tracing.specs.declared.Validated.{Validated}
use Rattle.ray_tracing.specs.Layout.{layout, size}
use Rattle.ray_tracing.specs.Records.{field_at}
use Rattle.ray_tracing.specs.Reading.{accepted, read_sheet, table}
use Rattle.ray_tracing.specs.Plan.{Tables, records_in}
use Rattle.ray_tracing.specs.Submission.{Piece, malformed, taken_for, action_of, action, decode_cells, decode, Buffers, Submits, Validates}
use Rattle.ray_tracing.specs.MarkBuilt.{as_builds, with_builds}
use Rattle.ray_tracing.specs.Report.{kept, cells_of, action_cells, sheet_piece}
use Rattle.ray_tracing.proofs.Sheets.{lent_tells, accepted-lent}
use Rattle.ray_tracing.proofs.Inside.{records_each, field_fits}

-- ---- "Every rule takes it for a Build of those lists"

-- one action, whatever is lent and wherever its lists run
pub marks_as_builds : (lists : List ℕ) (o b t : ℕ) → action lists 5 o b t ≡ action lists 1 o b t
unfolding action
marks_as_builds lists o b t = refl

by_kind : (lists : List ℕ) (k o b t : ℕ) → action lists (cond (eqb k 5) 1 k) o b t ≡ action lists k o b t
by_kind lists k o b t = go (eqb k 5) refl
  where
    go : (m : Bool) → eqb k 5 ≡ m → action lists (cond m 1 k) o b t ≡ action lists k o b t
    go true e = rw (eqb-true k 5 e) (sym (marks_as_builds lists o b t))
    go false e = refl

cells-as_builds : (lists s : List ℕ) → decode_cells lists (as_builds s) ≡ decode_cells lists s
unfolding decode_cells
cells-as_builds lists [] = refl
cells-as_builds lists (k ∷ []) = refl
cells-as_builds lists (k ∷ o ∷ []) = refl
cells-as_builds lists (k ∷ o ∷ b ∷ []) = refl
cells-as_builds lists (k ∷ o ∷ b ∷ t ∷ more) = λ i. by_kind lists k o b t i ∷ cells-as_builds lists more i

-- a submission's actions, all of them
pub decoded_as_builds : (p : Piece) → decode (with_builds p) ≡ decode p
decoded_as_builds p = cells-as_builds p.lists p.actions

-- so of any call: on the same start, with Builds in place of the marks, the same answer, and the same is left
pub submits_as_builds : (n : ℕ) (x y : Buffers) (p : Piece) (r : Result ℕ SubmissionRefusal) → Submits n x p r y ↔ Submits n x (with_builds p) r y
submits_as_builds n x y p r = (λ c. rw (decoded_as_builds p) c, λ c. rw (decoded_as_builds p) at c)

pub validates_as_builds :
    (i j : CommandIndices) (x y : Buffers) (p : Piece) (v : Validated) → Validates i x p v j y ↔ Validates i x (with_builds p) v j y
validates_as_builds i j x y p v =
    (λ c. record { shows = rw (decoded_as_builds p) c.shows; unmoved = c.unmoved }, λ c. record { shows = rw (decoded_as_builds p) at c.shows; unmoved = c.unmoved })

-- ---- no other kind

taken_for_itself : (k : ℕ) → 5 < k → taken_for k ≡ k
taken_for_itself k h = rw (ne_eqb k 5 (λ e. omega arith))

no_kind : (lists : List ℕ) (k o b t : ℕ) → 5 < k → action_of lists k o b t ≡ malformed
no_kind lists k o b t h =
    rw (action_of, ne_eqb k 1 (λ e. omega arith), ne_eqb k 2 (λ e. omega arith), ne_eqb k 3 (λ e. omega arith), ne_eqb k 4 (λ e. omega arith))

pub no_kind_above : (lists : List ℕ) (k o b t : ℕ) → 5 < k → action lists k o b t ≡ malformed
unfolding action
no_kind_above lists k o b t h = ap (λ (m : ℕ). action_of lists m o b t) (taken_for_itself k h) ∙ no_kind lists k o b t h

-- ---- "an action of library submissions only"

within : (a b : Bool) → ((a && b) || false) ≡ true → b ≡ true
within true true e = refl
within true false e = e
within false b e = absurd (false≢true e)

module _ (s : List ℕ) (x : Sheet) (e : read_sheet s ≡ accepted x) where
  -- an accepted sheet has none
  pub sheet_kinds : (i : ℕ) → i < length (table s 9) / size 9 → ¬ (field_at 9 (table s 9) (i * size 9) 0 ≡ 5)
  sheet_kinds i h z =
      let t = lent_tells 9 (layout 9) _ _ _ (accepted-lent s x e 8 (lit< tt)) in
      let r = records_each _ (layout 9).fields (table s 9) (length (table s 9) / size 9) 0 t.records i h in
      let f = (field_fits _ _ _ _ _ (rw zero-add at r)).0 in
      let v = field_at 9 (table s 9) (i * size 9) 0 in
      let k = leb-true v 4 (within (ltb 0 v) (leb v 4) f) in
      omega (arith, k, z)

-- four cells of no such mark, before others
kept-cells : (k o b t : ℕ) (more : List ℕ) → eqb k 5 ≡ false → as_builds more ≡ more → as_builds (k ∷ o ∷ b ∷ t ∷ more) ≡ k ∷ o ∷ b ∷ t ∷ more
kept-cells k o b t more e r = rw (e, r)

made_cells :
    (x : Tables) (k o : ℕ) (more : List ℕ) (keep : Bool) → eqb k 5 ≡ false → as_builds more ≡ more
    → as_builds (cond keep (cells_of x k o) [] ++ more) ≡ cond keep (cells_of x k o) [] ++ more
made_cells x k o more false e r = r
made_cells x k o more true e r = go (eqb k 1)
  where
    go : (one : Bool)
        → as_builds (cond one (1 ∷ 0 ∷ records_in x 5 ∷ records_in x 7 ∷ []) (k ∷ o ∷ 0 ∷ 0 ∷ []) ++ more)
        ≡ cond one (1 ∷ 0 ∷ records_in x 5 ∷ records_in x 7 ∷ []) (k ∷ o ∷ 0 ∷ 0 ∷ []) ++ more
    go true = kept-cells 1 0 (records_in x 5) (records_in x 7) more refl r
    go false = kept-cells k o 0 0 more e r

made :
    (x : Tables) (was_recorded : Bool) (a : List ℕ) (n i : ℕ)
    → ((j : ℕ) → j < i + n → ¬ (field_at 9 a (j * size 9) 0 ≡ 5))
    → as_builds (action_cells x was_recorded a i n) ≡ action_cells x was_recorded a i n
unfolding action_cells
made x was_recorded a zero i f = refl
made x was_recorded a (suc n) i f =
    let k = field_at 9 a (i * size 9) 0 in
    made_cells x k (field_at 9 a (i * size 9) 1) (action_cells x was_recorded a (i + 1) n) (kept was_recorded k) (ne_eqb k 5 (f i (omega arith)))
    (made x was_recorded a n (i + 1) (λ j h. f j (omega arith)))

-- and a report, of whatever build, makes none of it
pub report_makes_none :
    (s : List ℕ) (y : Sheet) → read_sheet s ≡ accepted y → (x : Tables) (was_recorded : Bool)
    → with_builds (sheet_piece x was_recorded (table s 9)) ≡ sheet_piece x was_recorded (table s 9)
report_makes_none s y e x was_recorded =
    let c = made x was_recorded (table s 9) (length (table s 9) / size 9) 0 (λ j h. sheet_kinds s y e j (omega arith)) in
    ap (λ (cells : List ℕ). record { actions = cells; lists = (sheet_piece x was_recorded (table s 9)).lists }) c
