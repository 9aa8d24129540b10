-- `sheet_fields::judge_record` meets its contract: a record is judged by its section's fields.
use mathlib.Core.Path.{◌∙◌}
use Rattle.ray_tracing.specs.Reading.{begin}
use Rattle.sheet_fields.proofs.Laws.{by_views}
use Rattle.sheet_fields.proofs.judge_record.Goals as goal

pub returns : goal.returns
returns c =
    let a = c.args in
    c.judge_fields.ensures
    ∙ by_views a.version a.section _ (begin a.before.now.each a.before.now.records.now a.boxes) a.s.now a.at c.requires.1 (c.fields_of.ensures a.version)
