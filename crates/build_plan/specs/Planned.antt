-- What a recorded build writes, from the sections that it looks at. Assumes nothing.
use Rattle.std.specs.Prelude.{◌≤◌, length}
use Rattle.ray_tracing.specs.declared.RunningTotal.TheVariants as running-total
use Rattle.ray_tracing.specs.Plan.{Tables, Outputs}
use Rattle.ray_tracing.specs.Parts.{PackagesNamed, EntriesNamed}
use Rattle.build_ranges.specs.Ranges.{ranges_in, DrawnFit}
use Rattle.build_lists.specs.Lists.{Drawn, lists_in}
use Rattle.build_plan.specs.Parts.{TotalBelow, structure_offsets, staging_in, instances_in, compactable_in, AllWritable}

abbrev pub planned : Tables → Outputs
planned x =
    record {
      blas_offsets = structure_offsets running-total.Entries x;
      tlas_offsets = structure_offsets running-total.Packages x;
      staging_ranges = staging_in x.packages x.slots;
      instances = instances_in x.blases x.slots;
      init_ranges = ranges_in x.version x.entries x.geometries;
      compactable = compactable_in x.blases x.entries;
      lists = lists_in x.entries x.packages x.slots;
    }

-- what judging showed of them
pub record Plannable (x : Tables) : Type 0 where
  pub aligned : 1 ≤ x.alignment
  pub entry-blases : EntriesNamed x.blases x.entries
  pub blas-below : TotalBelow running-total.Entries x
  pub package_tlases : PackagesNamed x.tlases x.packages
  pub tlas-below : TotalBelow running-total.Packages x
  pub slots-drawn : Drawn x.packages x.slots
  pub writable : AllWritable x.blases x.slots
  pub geometries-drawn : DrawnFit x.version x.entries x.geometries

-- no output is too short
pub record PlanRoom (p o : Outputs) : Type 0 where
  pub blas-offsets : length p.blas_offsets ≤ length o.blas_offsets
  pub tlas-offsets : length p.tlas_offsets ≤ length o.tlas_offsets
  pub staging-ranges : length p.staging_ranges ≤ length o.staging_ranges
  pub instances : length p.instances ≤ length o.instances
  pub init-ranges : length p.init_ranges ≤ length o.init_ranges
  pub compactable : length p.compactable ≤ length o.compactable
  pub lists : length p.lists ≤ length o.lists
