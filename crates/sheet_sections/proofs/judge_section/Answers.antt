-- `sheet_sections::judge_section` meets its contract: the tests in their order.
use Prim.Native.Nat.{ℕ, ◌+◌, ◌-◌, ◌≤◌}
use native.Mathlib.Omega.{arith}
use mathlib.Core.Bool.{not}
use mathlib.Core.Path.{◌≡◌, ◌∙◌}
use mathlib.Core.List.{List}
use lib.Dec.{ltb}
use lib.ListN.{length, take, drop}
use borrow.Author.Tests.{lt-ltb, le-ltb}
use Rattle.wire.specs.Wire.{le_at}
use Rattle.ray_tracing.specs.Layout.{layout, layout_in, size_in}
use Rattle.ray_tracing.specs.Reading.{refused, judged_when, ◌and_next◌, adds_up, judge_table, judge_section, version_in}
use Rattle.ray_tracing.proofs.Versions.{most_same}
use Rattle.sheet_sections.proofs.judge_section.Goals as goal

-- a section whose count n is there, under a limit that is the same in either version
counted :
    (s : List ℕ) (k a p n most : ℕ)
    → p + 2 ≤ length s
    → n ≡ le_at 2 s p
    → most ≡ (layout (k + 1)).most
    → judge_section s k a p
    ≡ (judged_when (ltb most n) (refused 4 p)
    and_next judged_when (not (adds_up (k + 1) (take (p - a) (drop a s)) n)) (refused 5 p)
    and_next judge_table (k + 1) (layout_in (version_in s) (k + 1)).fields (size_in (version_in s) k) (take (p - a) (drop a s)) s (p + 2) n)
unfolding judge_section
counted s k a p n most h e m =
    rw (le-ltb (length s) (p + 2) h, ← e, most_same (version_in s) (k + 1), ← m)

pub returns-then-most_of-n : goal.returns-then-most_of-n
returns-then-most_of-n c =
    let a = c.args in
    rw (
      counted a.sheet.now a.k a.a a.at _ _ (omega arith) (c.from-n.ensures ∙ c.u16_at.ensures) c.most_of.ensures,
      lt-ltb c.most_of.result c.from-n.result (omega arith),
    )

pub returns-then-not-adds_up : goal.returns-then-not-adds_up
returns-then-not-adds_up c =
    let a = c.args in
    rw (
      counted a.sheet.now a.k a.a a.at _ _ (omega arith) (c.from-n.ensures ∙ c.u16_at.ensures) c.most_of.ensures,
      le-ltb c.most_of.result c.from-n.result (omega arith),
      ← c.adds_up.ensures,
      c.if-not-adds_up.true,
    )

pub returns : goal.returns
returns c =
    let a = c.args in
    rw (
      counted a.sheet.now a.k a.a a.at _ _ (omega arith) (c.from-n.ensures ∙ c.u16_at.ensures) c.most_of.ensures,
      le-ltb c.most_of.result c.from-n.result (omega arith),
      ← c.adds_up.ensures,
      c.if-not-adds_up.false,
      ← c.version_in-version.ensures,
      ← c.size_of.ensures,
    )
    c.judge_table.ensures
