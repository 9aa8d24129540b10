-- The exported answers as records of numbers: what the definitions' answers come to, unused fields 0. Assumes nothing.
use Rattle.std.specs.Prelude.{ℕ}
use Rattle.ray_tracing.specs.Layout.{version_number}
use Rattle.ray_tracing.specs.Reading.{Reading, accepted, rejected}
use Rattle.ray_tracing.specs.Plan.{Building, recorded, nothing-recorded, not_built}
use Rattle.ray_tracing.specs.Instances.{Appending, in_use, refused}
use Rattle.ray_tracing.specs.AppendMany.{AppendingMany, all_in_use, none_appended}
use Rattle.ray_tracing.specs.ReadInstances.{ReadingInstances, all_read, none_read}
use Rattle.ray_tracing.specs.Report.{Reporting}
use Rattle.ray_tracing.specs.Canonical.{Writing, wrote, unwritten}
use Rattle.ray_tracing.specs.Groups.{Opening, opened, unopened}
use Rattle.ray_tracing.specs.declared.SheetAnswer.{SheetAnswer}
use Rattle.ray_tracing.specs.declared.WriteAnswer.{WriteAnswer}
use Rattle.ray_tracing.specs.declared.OpenAnswer.{OpenAnswer}
use Rattle.ray_tracing.specs.declared.BuildAnswer.{BuildAnswer}
use Rattle.ray_tracing.specs.declared.AppendAnswer.{AppendAnswer}
use Rattle.ray_tracing.specs.declared.InstancesAnswer.{InstancesAnswer}
use Rattle.ray_tracing.specs.declared.ReportAnswer.{ReportAnswer}

-- "number, place", or where each section starts and how many records it has
abbrev pub sheet_answer : Reading → SheetAnswer
sheet_answer (accepted x) =
    record {
      number = 0;
      place = 0;
      version = version_number x.version;
      alignment = x.alignment;
      counter = x.counter;
      buffers_start = x.buffers.start;
      buffers_count = x.buffers.count;
      blases_start = x.blases.start;
      blases_count = x.blases.count;
      declared_start = x.declared.start;
      declared_count = x.declared.count;
      tlases_start = x.tlases.start;
      tlases_count = x.tlases.count;
      entries_start = x.entries.start;
      entries_count = x.entries.count;
      geometries_start = x.geometries.start;
      geometries_count = x.geometries.count;
      packages_start = x.packages.start;
      packages_count = x.packages.count;
      slots_start = x.slots.start;
      slots_count = x.slots.count;
      actions_start = x.actions.start;
      actions_count = x.actions.count;
    }
sheet_answer (rejected n p) =
    record {
      number = n;
      place = p;
      version = 0;
      alignment = 0;
      counter = 0;
      buffers_start = 0;
      buffers_count = 0;
      blases_start = 0;
      blases_count = 0;
      declared_start = 0;
      declared_count = 0;
      tlases_start = 0;
      tlases_count = 0;
      entries_start = 0;
      entries_count = 0;
      geometries_start = 0;
      geometries_count = 0;
      packages_start = 0;
      packages_count = 0;
      slots_start = 0;
      slots_count = 0;
      actions_start = 0;
      actions_count = 0;
    }

-- how many bytes of a sheet were written, anew or in the other version, or why not and where
abbrev pub write_answer : Writing → WriteAnswer
write_answer (wrote n) = record { number = 0; place = 0; written = n }
write_answer (unwritten n p) = record { number = n; place = p; written = 0 }

-- how many bytes of slots were written, or why not and where
abbrev pub open_answer : Opening → OpenAnswer
open_answer (opened n) = record { number = 0; place = 0; group = 0; item = 0; written = n }
open_answer (unopened n p g i) = record { number = n; place = p; group = g; item = i; written = 0 }

-- how many elements of each output a build wrote, or E and the cause with its figures
abbrev pub built_answer : Building → BuildAnswer
built_answer (recorded size w) =
    record {
      number = 0;
      e0 = 0;
      e1 = 0;
      f0 = 0;
      f1 = 0;
      f2 = 0;
      recorded = 1;
      scratch_size = size;
      blas_offsets = w.blas_offsets;
      tlas_offsets = w.tlas_offsets;
      staging_ranges = w.staging_ranges;
      instances = w.instances;
      init_ranges = w.init_ranges;
      compactable = w.compactable;
      lists = w.lists;
    }
built_answer (nothing-recorded n) =
    record {
      number = 0;
      e0 = 0;
      e1 = 0;
      f0 = 0;
      f1 = 0;
      f2 = 0;
      recorded = 0;
      scratch_size = 0;
      blas_offsets = 0;
      tlas_offsets = 0;
      staging_ranges = 0;
      instances = 0;
      init_ranges = n;
      compactable = 0;
      lists = 0;
    }
built_answer (not_built e f c) =
    record {
      number = c.number;
      e0 = e;
      e1 = f;
      f0 = c.first;
      f1 = c.second;
      f2 = c.third;
      recorded = 0;
      scratch_size = 0;
      blas_offsets = 0;
      tlas_offsets = 0;
      staging_ranges = 0;
      instances = 0;
      init_ranges = 0;
      compactable = 0;
      lists = 0;
    }

-- the bytes in use, which a refusal leaves as they were, and the cause with its figures; E is 0, 0
abbrev pub append_answer : ℕ → Appending → AppendAnswer
append_answer used (in_use n) = record { number = 0; e0 = 0; e1 = 0; f0 = 0; f1 = 0; f2 = 0; used = n }
append_answer used (refused c) =
    record { number = c.number; e0 = 0; e1 = 0; f0 = c.first; f1 = c.second; f2 = c.third; used = used }

-- of many: E is 0 and the position
abbrev pub append_many_answer : ℕ → AppendingMany → AppendAnswer
append_many_answer used (all_in_use n) = record { number = 0; e0 = 0; e1 = 0; f0 = 0; f1 = 0; f2 = 0; used = n }
append_many_answer used (none_appended e f c) =
    record { number = c.number; e0 = e; e1 = f; f0 = c.first; f1 = c.second; f2 = c.third; used = used }

-- how many bytes of instances were written, or why none and the record
abbrev pub instances_answer : ReadingInstances → InstancesAnswer
instances_answer (all_read n) = record { number = 0; e0 = 0; e1 = 0; written = n }
instances_answer (none_read n e f) = record { number = n; e0 = e; e1 = f; written = 0 }

-- "lent output too short | 39", or how many bytes were written
abbrev pub report_answer : Reporting → ReportAnswer
report_answer r = record { number = r.number; written = r.written }
