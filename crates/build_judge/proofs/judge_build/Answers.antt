-- `build_judge::judge_build` meets its contract: the ends of judging in turn.
use Rattle.std.proofs.Common.{rules, arith}
use Rattle.std.proofs.lemmas.Result.{err_from_is_err_and}
use Rattle.ray_tracing.specs.Plan.{lent_tables}
use Rattle.build_judge.specs.Judging.{judge_build}
use Rattle.build_judge.proofs.Build.{records_inside, build_final}
use Rattle.build_judge.proofs.judge_build.Goals as goal

pub returns-in_err-judge_records : goal.returns-in_err-judge_records
unfolding judge_build
returns-in_err-judge_records c = search rules

pub scratch_size-requires : goal.scratch_size-requires
scratch_size-requires c =
    let h = records_inside (lent_tables c.args.tables.now) c.in_ok-judge_records.ensures in
    (h.aligned, h.entry-blas, h.package_tlas)

pub judge_states-requires : goal.judge_states-requires
judge_states-requires c =
    let h = records_inside (lent_tables c.args.tables.now) c.in_ok-judge_records.ensures in
    (h.entry-blas, h.package_tlas)

pub returns-in_err-judge_states : goal.returns-in_err-judge_states
returns-in_err-judge_states c =
    let p = err_from_is_err_and c.from_residual-in_err-judge_states.result c.from_residual-in_err-judge_states.ensures.1 in
    rw (p.1, p.2)
    (build_final (lent_tables c.args.tables.now) c.in_ok-judge_records.ensures c.in_ok-size.ensures (λ z. omega (arith, z)) c.in_err-judge_states.ensures)
