-- `build_judge::judge_records` meets its contract: where the tables and the ids pass all records lie inside.
use Rattle.std.proofs.Common.{sym}
use Rattle.ray_tracing.specs.Plan.{lent_tables}
use Rattle.ray_tracing.proofs.Inside.{inside, tables-drawn, tables-slots}
use Rattle.build_entries.proofs.Within.{entries-inside, indexable}
use Rattle.build_judge.proofs.Build.{packages-inside}
use Rattle.build_judge.proofs.judge_records.Goals as goal

pub judge_ids-requires : goal.judge_ids-requires
judge_ids-requires c =
    let x = lent_tables c.args.tables.now in
    let t = sym c.in_ok-judge_tables.ensures in
    record { entries_value = tables-drawn x t; packages_value = tables-slots x t }

pub judge_entries-requires : goal.judge_entries-requires
judge_entries-requires c =
    let x = lent_tables c.args.tables.now in
    let h = inside x (sym c.in_ok-judge_tables.ensures) (sym c.in_ok-judge_ids.ensures) in
    (entries-inside x h, indexable x h)

pub judge_packages-requires : goal.judge_packages-requires
judge_packages-requires c =
    let x = lent_tables c.args.tables.now in
    packages-inside x (inside x (sym c.in_ok-judge_tables.ensures) (sym c.in_ok-judge_ids.ensures))
