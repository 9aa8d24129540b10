-- `build_lists::write_lists` meets its contract: two lists, one after the other.
use borrow.Author.Rules.{rules}
use lib.ListN.{length-append}
use Rattle.build_ranges.proofs.Appending.{both_written}
use Rattle.ray_tracing.proofs.Plan.{blases-length}
use Rattle.ray_tracing.specs.Parts.{entries_in, of_entries}
use mathlib.Core.List.{[]}
use Rattle.build_lists.specs.Lists.{blas_list, package_lists_in}
use Rattle.build_lists.proofs.write_lists.Goals as goal

pub write_entry_blases-requires : goal.write_entry_blases-requires
write_entry_blases-requires c = let room = rw (length-append, blases-length) at c.requires.slots_in_bounds in
    search rules

pub write_packages-requires : goal.write_packages-requires
write_packages-requires c = let room = rw (length-append, blases-length) at c.requires.slots_in_bounds in
    search rules

pub returns : goal.returns
returns c = let a = c.args in
    let n = entries_in a.entries.now in
    both_written a.out.now (blas_list a.entries.now) (package_lists_in a.packages.now a.slots.now) n
    (blases-length (of_entries [] a.entries.now) 0 n) c.write_entry_blases.ensures c.write_packages.ensures
