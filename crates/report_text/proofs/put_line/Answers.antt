-- `report_text::put_line` meets its contract: three writes end to end are one.
use Rattle.std.proofs.Common.{arith}
use Rattle.ray_tracing.specs.Report.{line}
use Rattle.report_text.proofs.Laws.{put_then, put_same_length, spaced-most}
use Rattle.report_text.proofs.put_line.Goals as goal

pub put_byte-requires : goal.put_byte-requires
put_byte-requires c =
    omega (arith, put_same_length c.put-named.ensures, put_same_length c.put_numbers-numbered.ensures, c.put-named.ensures.ends, c.put_numbers-numbered.ensures.ends, spaced-most c.args.numbers.now)

pub returns : goal.returns
unfolding line
returns c = put_then c.put-named.ensures (put_then c.put_numbers-numbered.ensures c.put_byte.ensures)
