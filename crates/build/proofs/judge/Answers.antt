-- `build::judge` meets its contract: by what judging found, and what counting counts.
use Rattle.std.proofs.Common.{◌∙◌}
use Rattle.ray_tracing.specs.Plan.{lent_tables, lent_outputs}
use Rattle.build.proofs.Judged.{nothing-build, record-build, nothing-drawn, record-plannable, writes}
use Rattle.build.proofs.judge.Goals as goal

pub counts-requires : goal.counts-requires
counts-requires c =
    let p = record-plannable (lent_tables c.args.tables.now) c.are_bytes.ensures _ (rw c.in-Some.is at c.in_ok-size.ensures) in
    (p.entry-blases, p.geometries-drawn, p.slots-drawn)

pub count_ranges-requires : goal.count_ranges-requires
count_ranges-requires c = nothing-drawn (lent_tables c.args.tables.now) c.are_bytes.ensures (rw c.in-None.is at c.in_ok-size.ensures)

pub returns-in-Some : goal.returns-in-Some
returns-in-Some c =
    let x = lent_tables c.args.tables.now in
    let o = lent_outputs c.args.outputs.now in
    let e = c.recorded_if.ensures ∙ rw c.lengths-lent.ensures (record-build x o _ (rw c.in-Some.is at c.in_ok-size.ensures) c.counts.ensures) in
    record { answer = e; writes = writes x o c.are_bytes.ensures e }

pub returns-in-None : goal.returns-in-None
returns-in-None c =
    let x = lent_tables c.args.tables.now in
    let o = lent_outputs c.args.outputs.now in
    let e = c.nothing_if.ensures ∙ rw c.lengths-lent.ensures (nothing-build x o (rw c.in-None.is at c.in_ok-size.ensures) c.count_ranges.ensures) in
    record { answer = e; writes = writes x o c.are_bytes.ensures e }
