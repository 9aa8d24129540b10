-- The invariant: what is left to do, done from here, is what the whole was to be.
use Rattle.std.proofs.Common.{◌≡◌, ◌+◌, length, drop}
use lib.Seq.{sets}
use Rattle.submit_build.proofs.put_list.Given as goal

abbrev pub invariant-loop-k : goal.invariant-loop-k
invariant-loop-k l = record {
  size : length l.cells ≡ length l.initial.cells;
  same : sets l.cells (l.at + l.k) (drop l.k l.list) ≡ sets l.initial.cells l.at l.list;
}
