-- What `Inside` tells of the tables that judging entries reads, what the loops over them turn on, and how the parts of one geometry's
-- check make the rule.
use Rattle.std.proofs.Common.{ℕ, ◌+◌, ◌<◌, ◌≡◌, ◌∙◌, arith}
use Rattle.std.proofs.Math.Option.{Option}
use Rattle.ray_tracing.specs.declared.Blas.{Blas}
use Rattle.ray_tracing.specs.declared.BlasBuildEntry.{BlasBuildEntry}
use Rattle.ray_tracing.specs.declared.BlasGeometry.{BlasGeometry}
use Rattle.ray_tracing.specs.declared.BlasGeometrySizeDescriptor.{BlasGeometrySizeDescriptor}
use Rattle.ray_tracing.specs.Checks.{Checked}
use Rattle.ray_tracing.specs.Plan.{Tables, records_in, entry_of, geometry_of, geometry_count, blas_of_entry, declared_of, checked_at}
use Rattle.ray_tracing.proofs.Inside.{Inside, drawn_before, drawn-none, drawn_more}
use Rattle.ray_tracing.proofs.Verdicts.{found, onward, ended, from_start_drawing, found-drawing, onward-drawing, ended-drawing}
use Rattle.build_entries.specs.Index.{Indexable}
use Rattle.build_entries.specs.Kinds.{by_kind}
use Rattle.build_entries.proofs.Index.{nth_found}
use Rattle.build_entries.specs.Within.{GeometryInside, EntriesInside}

-- what closes the goals of the loops
pub ruleset in_turn = (found, onward, ended, nth_found)

pub ruleset drawing = (from_start_drawing, found-drawing, onward-drawing, ended-drawing, drawn-none, drawn_more)

module _ (x : Tables) (h : Inside x) where
  pub geometry-inside :
      (i j : ℕ) → i < records_in x 5 → j < geometry_count x i → GeometryInside x i (drawn_before x i + j)
  geometry-inside i j a b =
      record {
        entry = a;
        geometry = omega (arith, h.drawn i a);
        blas = h.entry-blas i a;
        data_buffer = h.data_buffer i j a b;
        index_buffer = h.index_buffer i j a b;
        transform_buffer = h.transform_buffer i j a b;
      }

  pub entries-inside : EntriesInside x
  entries-inside =
      record {
        few = h.most 2 (omega arith) (omega arith);
        blas = h.entry-blas;
        drawn = h.drawn;
        geometries = geometry-inside;
      }

  pub indexable : Indexable x.declared
  indexable =
      record {
        few = h.most 3 (omega arith) (omega arith);
        small = λ k l. omega (arith, h.declared-blas k l, h.most 2 (omega arith) (omega arith));
      }

-- the rule over what was read is the rule over the tables
pub checked-at :
    (x : Tables) (i g : ℕ) {entry : BlasBuildEntry} {geometry : BlasGeometry}
    → entry ≡ entry_of x i
    → geometry ≡ geometry_of x g
    → (j : ℕ) {b : Blas} {d : Option BlasGeometrySizeDescriptor} {v : Checked}
    → b ≡ blas_of_entry x i
    → d ≡ declared_of x (entry_of x i).blas.0 j
    → v ≡ by_kind x.buffers entry.kind b d geometry
    → v ≡ checked_at x i j g
checked-at x i g e q j b d v = v ∙ (λ k. by_kind x.buffers (e k).kind (b k) (d k) (q k))
