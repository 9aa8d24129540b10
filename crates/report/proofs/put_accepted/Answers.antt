-- `report::put_accepted` meets its contract: each part is its section of the sheet.
use Prim.Native.Nat.{ℕ, ◌*◌}
use native.Mathlib.Omega.{arith}
use mathlib.Core.Path.{refl, ap, ◌∙◌}
use lib.Dec.{lit<}
use lib.ListN.{take, drop}
use Rattle.ray_tracing.specs.declared.Sheet.{Sheet}
use Rattle.ray_tracing.proofs.Versions.{geometry-size, offset-width}
use Rattle.report.proofs.Sections.{part-inside, part_is, parts_lendable, accepted-lines, accepted-refusal}
use borrow.Author.Rules.{rules}
use Rattle.report.proofs.put_accepted.Goals as goal

pub part-buffers-requires : goal.part-buffers-requires
part-buffers-requires c = (search rules, part-inside c.args.sheet.now c.args.x c.requires.0 0 (lit< tt) (λ (x : Sheet). x.buffers) refl)

pub part-blases-requires : goal.part-blases-requires
part-blases-requires c = (search rules, part-inside c.args.sheet.now c.args.x c.requires.0 1 (lit< tt) (λ (x : Sheet). x.blases) refl)

pub part-declared-requires : goal.part-declared-requires
part-declared-requires c = (search rules, part-inside c.args.sheet.now c.args.x c.requires.0 2 (lit< tt) (λ (x : Sheet). x.declared) refl)

pub part-tlases-requires : goal.part-tlases-requires
part-tlases-requires c = (search rules, part-inside c.args.sheet.now c.args.x c.requires.0 3 (lit< tt) (λ (x : Sheet). x.tlases) refl)

pub part-entries-requires : goal.part-entries-requires
part-entries-requires c = (search rules, part-inside c.args.sheet.now c.args.x c.requires.0 4 (lit< tt) (λ (x : Sheet). x.entries) refl)

pub part-geometries-requires : goal.part-geometries-requires
part-geometries-requires c =
    let version = c.args.x.version in (
      omega (arith, c.geometry_size.ensures, geometry-size version, offset-width version),
      rw c.geometry_size.ensures (part-inside c.args.sheet.now c.args.x c.requires.0 5 (lit< tt) (λ (x : Sheet). x.geometries) refl),
    )

pub part-packages-requires : goal.part-packages-requires
part-packages-requires c = (search rules, part-inside c.args.sheet.now c.args.x c.requires.0 6 (lit< tt) (λ (x : Sheet). x.packages) refl)

pub part-slots-requires : goal.part-slots-requires
part-slots-requires c = (search rules, part-inside c.args.sheet.now c.args.x c.requires.0 7 (lit< tt) (λ (x : Sheet). x.slots) refl)

pub part-actions-requires : goal.part-actions-requires
part-actions-requires c = (search rules, part-inside c.args.sheet.now c.args.x c.requires.0 8 (lit< tt) (λ (x : Sheet). x.actions) refl)

pub put_built-requires-clause-lendable : goal.put_built-requires-clause-lendable
put_built-requires-clause-lendable c =
    parts_lendable c.args.sheet.now c.args.x c.requires.0
    (c.part-blases.ensures ∙ part_is c.args.sheet.now c.args.x c.requires.0 1 (lit< tt) (λ (x : Sheet). x.blases) refl)
    (c.part-tlases.ensures ∙ part_is c.args.sheet.now c.args.x c.requires.0 3 (lit< tt) (λ (x : Sheet). x.tlases) refl)
    (c.part-entries.ensures ∙ part_is c.args.sheet.now c.args.x c.requires.0 4 (lit< tt) (λ (x : Sheet). x.entries) refl)
    (c.part-packages.ensures ∙ part_is c.args.sheet.now c.args.x c.requires.0 6 (lit< tt) (λ (x : Sheet). x.packages) refl)
    (c.part-actions.ensures ∙ part_is c.args.sheet.now c.args.x c.requires.0 8 (lit< tt) (λ (x : Sheet). x.actions) refl)

pub returns : goal.returns
returns c =
    let t1 = c.part-buffers.ensures ∙ part_is c.args.sheet.now c.args.x c.requires.0 0 (lit< tt) (λ (x : Sheet). x.buffers) refl in
    let t2 = c.part-blases.ensures ∙ part_is c.args.sheet.now c.args.x c.requires.0 1 (lit< tt) (λ (x : Sheet). x.blases) refl in
    let t3 = c.part-declared.ensures ∙ part_is c.args.sheet.now c.args.x c.requires.0 2 (lit< tt) (λ (x : Sheet). x.declared) refl in
    let t4 = c.part-tlases.ensures ∙ part_is c.args.sheet.now c.args.x c.requires.0 3 (lit< tt) (λ (x : Sheet). x.tlases) refl in
    let t5 = c.part-entries.ensures ∙ part_is c.args.sheet.now c.args.x c.requires.0 4 (lit< tt) (λ (x : Sheet). x.entries) refl in
    let sized = ap (λ (n : ℕ). take (c.args.x.geometries.count * n) (drop c.args.x.geometries.start c.args.sheet.now)) c.geometry_size.ensures in
    let t6 = c.part-geometries.ensures ∙ sized ∙ part_is c.args.sheet.now c.args.x c.requires.0 5 (lit< tt) (λ (x : Sheet). x.geometries) refl in
    let t7 = c.part-packages.ensures ∙ part_is c.args.sheet.now c.args.x c.requires.0 6 (lit< tt) (λ (x : Sheet). x.packages) refl in
    let t8 = c.part-slots.ensures ∙ part_is c.args.sheet.now c.args.x c.requires.0 7 (lit< tt) (λ (x : Sheet). x.slots) refl in
    let t9 = c.part-actions.ensures ∙ part_is c.args.sheet.now c.args.x c.requires.0 8 (lit< tt) (λ (x : Sheet). x.actions) refl in
    record {
      put = rw (accepted-lines c.args.sheet.now c.args.x t1 t2 t3 t4 t5 t6 t7 t8 t9) at c.put_built.ensures.put;
      refuses = rw (accepted-refusal c.args.sheet.now c.args.x t1 t2 t3 t4 t5 t6 t7 t8 t9) at c.put_built.ensures.refuses;
    }
