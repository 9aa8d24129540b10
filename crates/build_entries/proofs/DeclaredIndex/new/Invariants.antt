-- `build_entries::DeclaredIndex::new` keeps the index's ghost fields: before the pass reaches declared geometry i, the heads and the nexts are those of the declared geometries from i on.
use Rattle.std.proofs.Common.{◌≡◌, length}
use Rattle.build_entries.proofs.Index.{HeadsFrom, NextsFrom}
use Rattle.build_entries.proofs.DeclaredIndex.new.Given as goal

abbrev pub invariant-loop-i : goal.invariant-loop-i
invariant-loop-i l =
    record {
      of_heads : length l.head ≡ 128;
      of_nexts : length l.next ≡ 512;
      heads : HeadsFrom l.declared l.head l.i;
      nexts : NextsFrom l.declared l.next l.i;
    }
