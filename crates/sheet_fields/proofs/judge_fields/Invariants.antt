-- What is left of the fields, from the place reached, is judged as all of them are.
use Rattle.std.proofs.Common.{◌≡◌, ◌≤◌, length, drop, map}
use Rattle.ray_tracing.specs.Reading.{begin}
use Rattle.sheet_fields.specs.Table.{seen, judge_views, view_of}
use Rattle.sheet_fields.proofs.judge_fields.Given as goal

abbrev pub invariant-loop-field : goal.invariant-loop-field
invariant-loop-field l =
    record {
      within : l.p ≤ length l.s;
      left :
          judge_views (seen l.before.records.now l.before.each l.boxes l.none) l.s l.p (map (view_of l.version) (drop l.field-index l.fields))
          ≡ judge_views (begin l.before.each l.before.records.now l.initial.boxes) l.s l.at (map (view_of l.version) l.fields);
    }
