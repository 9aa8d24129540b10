-- `build_plan::write_offsets` meets its contract. The invariant: what is left, written from here on, is the whole.
use Rattle.std.proofs.Common.{◌≡◌, ◌-◌}
use Rattle.std.proofs.lemmas.List.Edits.{sets}
use Rattle.ray_tracing.specs.Plan.{lent_tables, total_from, offsets_from}
use Rattle.build_plan.specs.Parts.{structures_in, structure_sizes, structure_offsets}
use Rattle.build_plan.proofs.write_offsets.Given as goal

abbrev pub invariant-loop-i : goal.invariant-loop-i
invariant-loop-i l =
    let x = lent_tables l.tables in
    let f = structure_sizes l.of x in record {
      so_far : l.total ≡ total_from f x.alignment 0 0 l.i;
      left : sets l.out l.i (offsets_from f x.alignment l.total l.i (structures_in l.of x - l.i)) ≡ sets l.initial.out 0 (structure_offsets l.of x);
    }
