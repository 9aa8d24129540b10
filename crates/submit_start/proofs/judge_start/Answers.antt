-- A table that was not refused has few records; and the start is judged the same whatever the counter.
use Rattle.std.proofs.Common.{[], arith, ◌∙◌}
use Rattle.ray_tracing.specs.Layout.{layout, size}
use Rattle.ray_tracing.specs.Submission.{judge}
use Rattle.submit_checks.proofs.Judged.{nothing, or_pass}
use Rattle.submit_start.proofs.Lists.{lists_look}
use Rattle.submit_start.proofs.Start.{few_of_table}
use Rattle.submit_start.proofs.judge_start.Goals as goal

pub judge_room-requires : goal.judge_room-requires
judge_room-requires c = few_of_table 4 (layout 4) (size 3) [] c.args.tlases.now (nothing c.judge_table-2.ensures c.in_ok-judge_table-2.was)

pub overflow_cast-tlas_count : goal.overflow_cast-tlas_count
overflow_cast-tlas_count c = omega (arith, few_of_table 4 (layout 4) (size 3) [] c.args.tlases.now (nothing c.judge_table-2.ensures c.in_ok-judge_table-2.was))

pub returns : goal.returns
unfolding judge
returns c = λ n. or_pass c.judge_table.ensures c.in_ok-judge_table.was (or_pass c.judge_table-2.ensures c.in_ok-judge_table-2.was (or_pass c.judge_room.ensures c.in_ok-judge_room.was (c.judge_lists.ensures ∙ lists_look n _ _ _ _ _ _)))
