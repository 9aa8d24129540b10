-- What a call answers and leaves: where the reader refuses, where there is too little room, and where it writes.
use Prim.Native.Nat.{ℕ, ◌≤◌, ◌<◌}
use mathlib.Core.Path.{◌≡◌, sym}
use mathlib.Core.List.{List}
use lib.ListN.{length}
use lib.Seq.{sets}
use borrow.Author.Tests.{lt-ltb, le-ltb}
use Rattle.ray_tracing.specs.declared.Sheet.{Sheet}
use Rattle.ray_tracing.specs.Reading.{fine, accepted, rejected, read_sheet, judge_sheet}
use Rattle.ray_tracing.specs.Canonical.{canonical, wrote, unwritten, write_rule, WritesSheet}
use Rattle.ray_tracing.proofs.Instances.{Below}
use Rattle.ray_tracing.proofs.Sheets.{accepted_judged}
use Rattle.ray_tracing.proofs.Canonical.{output_length}

module _ (s out : List ℕ) where
  pub refused-call : (n p : ℕ) → rejected n p ≡ read_sheet s → WritesSheet s out (unwritten n p) out
  unfolding write_rule
  refused-call n p e = record { answer = rw (← e); left = rw (← e) }

  module _ (x : Sheet) (e : accepted x ≡ read_sheet s) (b : Below s) where
    pub call-judged : judge_sheet s ≡ fine
    call-judged = accepted_judged s x (sym e)

    as_long : length (canonical s) ≡ length s
    as_long = output_length s x (sym e) b

    pub short-call : length out < length s → WritesSheet s out (unwritten 39 0) out
    unfolding write_rule
    short-call h =
        let t = lt-ltb (length out) (length s) h in
        record { answer = rw (← e, as_long, t); left = rw (← e, as_long, t) }

    pub written-call : length s ≤ length out → (p : List ℕ) → p ≡ sets out 0 (canonical s) → WritesSheet s out (wrote (length s)) p
    unfolding write_rule
    written-call h p g =
        let t = le-ltb (length out) (length s) h in
        record { answer = rw (← e, as_long, t); left = rw (← e, as_long, t) g }
