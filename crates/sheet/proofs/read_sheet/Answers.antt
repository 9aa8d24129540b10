-- `sheet::read_sheet` meets its contract: `Known` after each section.
use Prim.Native.Nat.{◌+◌}
use native.Mathlib.Omega.{arith}
use mathlib.Core.Path.{◌≡◌, refl, sym, ap, ◌∙◌}
use Rattle.std.proofs.lemmas.Result.{err_from_is_err_and}
use Rattle.ray_tracing.specs.declared.Version.{Version}
use Rattle.ray_tracing.specs.Layout.{size_in}
use Rattle.ray_tracing.specs.Reading.{fine, version_in, past, from, judge_section, accepted}
use Rattle.ray_tracing.specs.Code.{judged_of}
use Rattle.sheet.specs.Found.{judge_header}
use Rattle.sheet.proofs.Sections.{header_refused, header-fine, header-there, count_there, count_early, section_early, known_next, refused-at, left_over, read, sheet-found}
use Rattle.sheet.proofs.read_sheet.Goals as goal

pub returns-in_err-judge_header : goal.returns-in_err-judge_header
returns-in_err-judge_header c =
    let e = err_from_is_err_and c.from_residual.result c.from_residual.ensures.1 in
    rw (e.1, e.2) (sym (header_refused _ _ _ (sym c.judge_header.ensures ∙ ap judged_of c.in_err-judge_header.was)))

pub loop-k-init : goal.loop-k-init
unfolding from past
loop-k-init c =
    -- a header that is not refused is there
    let f : judge_header c.args.sheet.now ≡ fine = sym c.judge_header.ensures ∙ ap judged_of c.in_ok-judge_header.was in
    record {
      order = omega arith;
      header = omega (arith, c.size_of-p.ensures);
      whole = omega (arith, c.size_of-p.ensures, header-there c.args.sheet.now f);
      nine = refl;
      begins = rw c.size_of-p.ensures;
      ends = rw c.size_of-p.ensures;
      found_is = λ j h. absurd (omega arith);
      judged = header-fine _ f;
    }

pub returns-in_default : goal.returns-in_default
returns-in_default c =
    let l = c.loop-k in
    let early = rw (c.new-reader.ensures.0, c.new-reader.ensures.1) at (sym c.count.ensures ∙ c.in_default.is) in
    sym (refused-at _ _ _ _ _ l.invariant 2 l.p c.loop-k-test.true (section_early _ l.k l.a l.p (count_early c.args.sheet.now l.p early)))

pub returns-in_err-section : goal.returns-in_err-section
returns-in_err-section c =
    let e = err_from_is_err_and c.from_residual-in_err-section.result c.from_residual-in_err-section.ensures.1 in
    let judged = rw (c.new-reader.ensures.0, c.new-reader.ensures.1) at (sym c.section.ensures ∙ ap judged_of c.in_err-section.was) in
    rw (e.1, e.2) (sym (refused-at _ _ _ _ _ c.loop-k.invariant _ _ c.loop-k-test.true judged))

pub loop-k-preserved : goal.loop-k-preserved
loop-k-preserved c =
    let s = c.args.sheet.now in
    let l = c.loop-k in
    -- the count is there
    let counted = count_there _ _ _ (rw (c.new-reader.ensures.0, c.new-reader.ensures.1) at (sym c.count.ensures ∙ c.in-Some.is)) in
    let judged : judge_section s l.k l.a l.p ≡ fine = rw (c.new-reader.ensures.0, c.new-reader.ensures.1) at (sym c.section.ensures ∙ ap judged_of c.in_ok-section.was) in
    -- a record's size is that of the sheet's version
    let sized : c.size_of.result ≡ size_in (version_in s) (l.k + 1) = c.size_of.ensures ∙ ap (λ (v : Version). size_in v (l.k + 1)) c.version_in-version.ensures in
    rw (c.from-count.ensures, counted.1, sized)
    (known_next _ _ _ _ _ l.invariant c.loop-k-test.true judged)

pub returns-then-p-sheet : goal.returns-then-p-sheet
returns-then-p-sheet c = sym (left_over _ _ _ _ _ c.loop-k.invariant (omega arith) (omega arith))

pub returns : goal.returns
returns c =
    let g = c.loop-k.invariant in
    ap accepted (c.sheet_from.ensures ∙ sheet-found _ _ _ _ _ g (omega arith))
    ∙ sym (read _ _ _ _ _ g (omega arith) (omega arith))
