-- The mark that names each Tlas's Blases, computed over lent bytes, and demand 3 at a list of calls that has one: example 7 with such a mark of
-- B0 and of T0 over B0 in place of the first Build.
use Prim.Native.Nat.{ℕ, zero, suc, ◌<◌}
use native.Mathlib.Omega.{arith}
use mathlib.Core.Path.{◌≡◌, refl, sym, ap}
use mathlib.Core.Bool.{Bool, true, false}
use mathlib.Core.List.{List, [], ◌∷◌, ◌++◌, flatten}
use Rattle.std.specs.Prelude.{Ok, Err}
use lib.ListN.{get_or}
use lib.Dec.{lit<}
use Rattle.wire.specs.Wire.{le_at, le_bytes}
use Rattle.ray_tracing.specs.declared.Version.TheVariants as version
use Rattle.ray_tracing.specs.declared.CommandIndices.{CommandIndices}
use Rattle.ray_tracing.specs.declared.Validated.{Validated}
use Rattle.ray_tracing.specs.declared.ValidateAsActionsError.TheVariants as error
use Rattle.ray_tracing.specs.Guard.{refuse}
use Rattle.ray_tracing.specs.Reading as reading
use Rattle.ray_tracing.specs.Reading.{rejected, judge_fields, judge_records, judge_drawn, sum_of_counts, judge_lent, version_in, past, from, judge_section, judge_sections, judge_sheet, sheet_of, read_sheet, table}
use Rattle.ray_tracing.specs.Canonical.{section_bytes, sheet_bytes}
use Rattle.ray_tracing.specs.Records.{field_at}
use Rattle.ray_tracing.specs.Causes.{cause, bare}
use Rattle.ray_tracing.specs.Plan.{Tables}
use Rattle.ray_tracing.specs.Submission.{Lent, Buffers, buffers_of, blas_count, tlas_count, blas, tlas, malformed, accepted, refused, ◌leaving◌, blas_in, tlas_in, list_in, judge, judge_lists, packages_at, packages_lent, action, decode_cells, decode, before, built_blas, built_blases, built_tlas, build_tlases, act, step, run, submission, Submits, Shown, shown, Validates}
use Rattle.ray_tracing.specs.MarkBuilt.{with_builds}
use Rattle.ray_tracing.specs.Report.{sheet_piece}
use Rattle.ray_tracing.specs.History.{among, Built, allowed, acts, tell_action, tell_actions, history}
use Rattle.ray_tracing.specs.Claim.{SubmitShows, ValidateShows, no_call, call, send, send_refused, Each, Usable, NumbersBelow, ByHistory, Demand-3}
use Rattle.ray_tracing.proofs.DemandExamples.{Example, submitting, cutting, telling, AllShow, lent, piece, lists_7, first_7, second_7, single, blas_with, start, built_7}
use Rattle.ray_tracing.proofs.DemandExamples as examples
use Rattle.ray_tracing.proofs.MarkBuilt.{submits_as_builds, validates_as_builds, no_kind_above, sheet_kinds, report_makes_none}
use Rattle.ray_tracing.proofs.Callers.{demand_3_of_submit, demand_3_of_validate}

-- "such a mark of B0 and of T0 over B0 in place of the first Build", use T0
abbrev marked_7 : List ℕ
marked_7 = 5 ∷ 0 ∷ 1 ∷ 1 ∷ 2 ∷ 0 ∷ 0 ∷ 0 ∷ []

-- what the first half leaves, and the second
abbrev then_7 : Lent
then_7 = lent 6 5 0 5 (0 ∷ []) 511

abbrev end_7 : Lent
end_7 = lent 7 6 0 5 (0 ∷ []) 511

-- the mark of B0 and of T0 over B0, one of B1, use T0, and what they leave
abbrev marked_after : List ℕ
marked_after = 5 ∷ 0 ∷ 1 ∷ 1 ∷ 5 ∷ 4 ∷ 1 ∷ 0 ∷ 2 ∷ 0 ∷ 0 ∷ 0 ∷ []

abbrev lists-after : List ℕ
lists-after = lists_7 ++ (1 ∷ [])

abbrev after_7 : Lent
after_7 = lent 7 5 6 5 (0 ∷ []) 511

-- the old marks of B0 and T0, use T0, then mark B0, use T0
abbrev old_marks : List ℕ
old_marks = 3 ∷ 0 ∷ 0 ∷ 0 ∷ 4 ∷ 0 ∷ 0 ∷ 0 ∷ 2 ∷ 0 ∷ 0 ∷ 0 ∷ second_7

abbrev pub list : List Example
list =
    -- 0: example 7 with the mark, in two pieces, and as one list: it "ends in 44", next 7
    submitting start (piece marked_7 lists_7) (accepted leaving then_7)
    ∷ submitting then_7 (piece second_7 []) (refused 1 (cause 44 0 0 0) leaving end_7)
    ∷ cutting (piece (marked_7 ++ second_7) lists_7) (piece marked_7 lists_7 ∷ piece second_7 [] ∷ [])
    ∷ submitting start (piece (marked_7 ++ second_7) lists_7) (refused 3 (cause 44 0 0 0) leaving end_7)
    -- 4: the old mark "gives a Tlas an empty plant list, so an outside tool's house is drawn even over plants rebuilt since"
    ∷ submitting start (piece old_marks []) (accepted leaving lent 8 7 0 6 [] 512)
    -- 5: the history has the mark as it has example 7's Build
    ∷ telling start (decode (piece marked_7 lists_7)) (built_7 ∷ [])
    -- 6: "Errors: a Build's, in its order and in what they leave": a list past what is lent, an id outside its table before a counter of 0, a
    -- compacted Blas after it; 42 leaves the counter's step and the Blas
    ∷ submitting start (piece (5 ∷ 0 ∷ 1 ∷ 2 ∷ []) lists_7) (refused 0 (bare 5) leaving start)
    ∷ submitting (single 0 (blas_with 3 0 5) 4) (piece (5 ∷ 0 ∷ 1 ∷ 0 ∷ []) (1 ∷ [])) (refused 0 (bare 6) leaving single 0 (blas_with 3 0 5) 4)
    ∷ submitting (single 0 (blas_with 3 0 5) 4) (piece (5 ∷ 0 ∷ 1 ∷ 0 ∷ []) (0 ∷ [])) (refused 0 (bare 40) leaving single 0 (blas_with 3 0 5) 4)
    ∷ submitting (single 9 (blas_with 3 0 5) 4) (piece (5 ∷ 0 ∷ 1 ∷ 0 ∷ []) (0 ∷ [])) (refused 0 (cause 41 0 0 0) leaving single 9 (blas_with 3 0 5) 4)
    ∷ submitting then_7 (piece (5 ∷ 1 ∷ 1 ∷ 1 ∷ []) (7 ∷ 0 ∷ 0 ∷ 1 ∷ 1 ∷ [])) (refused 0 (cause 42 1 0 0) leaving end_7)
    -- 11: kind 6 is none
    ∷ submitting start (piece (6 ∷ 0 ∷ 1 ∷ 1 ∷ []) lists_7) (refused 0 (bare 5) leaving start)
    -- 12: T0 marked over B0, then a mark of B1 alone: the use passes
    ∷ submitting start (piece marked_after lists-after) (accepted leaving after_7)
    ∷ []

pub all : AllShow list
unfolding judge judge_lent judge_records judge_fields judge_lists le_at le_bytes blas_in tlas_in list_in refuse packages_at packages_lent action decode_cells before built_blas built_blases built_tlas build_tlases act step run submission allowed acts tell_action tell_actions flatten
all = (refl, (refl, (refl, (refl, (refl, (refl, (refl, (refl, (refl, (refl, (refl, (refl, (refl, tt)))))))))))))

-- ---- "an action of library submissions only"

-- a sheet of a use of Tlas 0 and an action of that kind: 5, at its kind's byte
abbrev sheet-with : ℕ → List ℕ
sheet-with kind =
    sheet_bytes version.One 256 1 (λ k. get_or ([] ∷ [] ∷ [] ∷ [] ∷ [] ∷ [] ∷ [] ∷ [] ∷ [] ∷ (2 ∷ 0 ∷ 0 ∷ kind ∷ 0 ∷ 0 ∷ []) ∷ []) k [])

pub sheet-refused : read_sheet (sheet-with 5) ≡ rejected 5 34
unfolding le_at le_bytes refuse judge_fields judge_records judge_drawn sum_of_counts version_in past from judge_section judge_sections judge_sheet read_sheet section_bytes sheet_bytes
sheet-refused = refl

-- and with a mark of Tlas 0 in its place it is accepted, has none, and its report makes none
read_4 : read_sheet (sheet-with 4) ≡ reading.accepted (sheet_of (sheet-with 4))
unfolding le_at le_bytes refuse judge_fields judge_records judge_drawn sum_of_counts version_in past from judge_section judge_sections judge_sheet read_sheet section_bytes sheet_bytes
read_4 = refl

kind_4 : ¬ (field_at 9 (table (sheet-with 4) 9) 3 0 ≡ 5)
unfolding le_at le_bytes version_in past from section_bytes sheet_bytes
kind_4 = sheet_kinds (sheet-with 4) (sheet_of (sheet-with 4)) read_4 1 (lit< tt)

makes_none : (x : Tables) → with_builds (sheet_piece x false (table (sheet-with 4) 9)) ≡ sheet_piece x false (table (sheet-with 4) 9)
makes_none x = report_makes_none (sheet-with 4) (sheet_of (sheet-with 4)) read_4 x false

-- ---- no kind above it

six : action lists_7 6 0 1 1 ≡ malformed
six = no_kind_above lists_7 6 0 1 1 (lit< tt)

-- ---- demand 3 of calls, at this list

abbrev buffers : Lent → Buffers
buffers l = buffers_of l.blases l.tlases l.dependency_counts l.dependencies

abbrev shown_7 : Shown
shown_7 = shown (accepted leaving then_7)

abbrev shown_44 : Shown
shown_44 = shown (refused 1 (cause 44 0 0 0) leaving end_7)

demand : Demand-3 SubmitShows 5 (buffers start)
demand = demand_3_of_submit 5 (buffers start) (omega arith) (examples.all).0

call_7 : SubmitShows 5 (buffers start) (piece marked_7 lists_7) shown_7
call_7 = record { answer = Ok 6; called = sym all.0; numbers = refl; counter = refl }

call_44 : SubmitShows 6 (buffers then_7) (piece second_7 []) shown_44
call_44 =
    record {
      answer = Err (record { error = (error.BlasNewerThenTlas (record { 0 = 0 }) (record { 0 = 0 })); action = 1; counter = 7 });
      called = sym all.1.0;
      numbers = refl;
      counter = refl;
    }

-- with a Build in its place it is example 7's own call
build_7 : Submits 5 (buffers start) (piece first_7 lists_7) (Ok 6) (buffers then_7)
build_7 = (submits_as_builds 5 (buffers start) (buffers then_7) (piece marked_7 lists_7) (Ok 6)).0 (sym all.0)

-- cut in two calls: the uncut list's refusal, 44 at action 3, and all that it leaves
cuts_7 : shown (refused 3 (cause 44 0 0 0) leaving end_7) ≡ shown (submission start (decode (piece (marked_7 ++ second_7) lists_7)))
unfolding packages_at packages_lent action decode_cells
cuts_7 =
    demand.cuts (piece (marked_7 ++ second_7) lists_7) (piece marked_7 lists_7 ∷ piece second_7 [] ∷ []) all.1.1.0 _
    (send call_7 refl (send_refused call_44 (λ e. omega (arith, e))))

-- "demand 3's last sentence too": the first call's use passes, so the rule holds of the mark's log; the second's does not, and so it does not
rule_7 : Usable start (built_7 ∷ []) 0
unfolding packages_at packages_lent action decode_cells history allowed acts tell_action tell_actions blas_in tlas_in list_in le_at le_bytes
rule_7 = ((demand.uses [] 5 (buffers start) no_call (piece marked_7 lists_7) shown_7 call_7 1 0 refl (lit< tt)).rule refl).0 refl

abbrev remarked : Built
remarked = record { number = 6; blases = 0 ∷ []; tlases = [] }

rule_44 : Usable start (remarked ∷ built_7 ∷ []) 0 → ◌≡◌ {A = Bool} false true
unfolding packages_at packages_lent action decode_cells history allowed acts tell_action tell_actions blas_in tlas_in list_in le_at le_bytes
rule_44 =
    ((demand.uses (piece marked_7 lists_7 ∷ []) 6 (buffers then_7) (call call_7 no_call) (piece second_7 []) shown_44 call_44 1 0 refl (lit< tt)).rule refl).1

-- a start without numbers has none above its counter
none-numbered : NumbersBelow start
unfolding blas_in tlas_in le_at le_bytes
none-numbered = record { blases = blases; tlases = tlases }
  where
    blases : (b : ℕ) → b < blas_count start → ¬ ((blas start b).built_index ≡ 0) → (blas start b).built_index < 5
    blases zero k n = absurd (n refl)
    blases (suc zero) k n = absurd (n refl)
    blases (suc (suc b)) k n = let q : blas_count start ≡ 2 = refl in absurd (omega arith)

    tlases : (t : ℕ) → t < tlas_count start → ¬ ((tlas start t).built_index ≡ 0) → (tlas start t).built_index < 5
    tlases zero k n = absurd (n refl)
    tlases (suc t) k n = let q : tlas_count start ≡ 1 = refl in absurd (omega arith)

-- B1 was marked after T0's own mark, the use passes, and B0, which T0 lists, was not marked by it
fresh_7 : Each (λ (b : ℕ). Each (λ (e : Built). among b e.blases ≡ false) (record { number = 6; blases = 1 ∷ []; tlases = [] } ∷ [])) (0 ∷ [])
unfolding packages_at packages_lent action decode_cells history allowed acts tell_action tell_actions blas_in tlas_in list_in le_at le_bytes
fresh_7 =
    (demand.uses [] 5 (buffers start) no_call (piece marked_after lists-after) (shown (accepted leaving after_7))
    (record { answer = Ok 7; called = sym all.1.1.1.1.1.1.1.1.1.1.1.1.0; numbers = refl; counter = refl }) 2 0 refl (lit< tt)).fresh none-numbered refl

-- the tables after both calls are the history's
tables_7 : ByHistory start (remarked ∷ built_7 ∷ []) end_7
unfolding packages_at packages_lent action decode_cells history allowed acts tell_action tell_actions blas_in tlas_in list_in le_at le_bytes
tables_7 = demand.tables (piece marked_7 lists_7 ∷ piece second_7 [] ∷ []) 7 (buffers end_7) (call call_7 (call call_44 no_call))

-- the same cut of `validate_acceleration_structure_actions`
abbrev pub indices : ℕ → CommandIndices
indices n = record { active_submission_index = 9; next_acceleration_structure_build_command_index = n }

abbrev pub fine : Validated
fine = record { number = 0; action = 0; first = 0; second = 0 }

called_7 : Validates (indices 5) (buffers start) (piece marked_7 lists_7) fine (indices 6) (buffers then_7)
called_7 = record { shows = ap shown (sym all.0); unmoved = refl }

validate_7 : ValidateShows 5 (buffers start) (piece marked_7 lists_7) shown_7
validate_7 =
    record {
      indices = indices 5;
      stepped = indices 6;
      answer = fine;
      called = called_7;
      lent = refl;
      numbers = refl;
      counter = refl;
    }

validated_build_7 : Validates (indices 5) (buffers start) (piece first_7 lists_7) fine (indices 6) (buffers then_7)
validated_build_7 = (validates_as_builds (indices 5) (indices 6) (buffers start) (buffers then_7) (piece marked_7 lists_7) fine).0 called_7

validate_44 : ValidateShows 6 (buffers then_7) (piece second_7 []) shown_44
validate_44 =
    record {
      indices = indices 6;
      stepped = indices 7;
      answer = record { number = 44; action = 1; first = 0; second = 0 };
      called = record { shows = ap shown (sym all.1.0); unmoved = refl };
      lent = refl;
      numbers = refl;
      counter = refl;
    }

validated_7 : shown (refused 3 (cause 44 0 0 0) leaving end_7) ≡ shown (submission start (decode (piece (marked_7 ++ second_7) lists_7)))
unfolding packages_at packages_lent action decode_cells
validated_7 =
    (demand_3_of_validate 5 (buffers start) (omega arith) (examples.all).0).cuts (piece (marked_7 ++ second_7) lists_7)
    (piece marked_7 lists_7 ∷ piece second_7 [] ∷ []) all.1.1.0 _ (send validate_7 refl (send_refused validate_44 (λ e. omega (arith, e))))
