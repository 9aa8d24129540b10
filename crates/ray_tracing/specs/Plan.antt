-- "Building, in order": the first refusal with E and its figures, or the plan and the recorded action. Assumes nothing.
use Rattle.std.specs.Prelude.{ℕ, zero, suc, ◌+◌, ◌-◌, ◌*◌, ◌/◌, ◌%◌, ◌^◌, max, ◌≡◌, Bool, true, false, ◌||◌, cond, List, [], ◌∷◌, ◌++◌, length, get_or, leb, ltb, eqb, Result, Ok, Err}
use Rattle.std.proofs.Math.Option.{Option, none, some}
use Rattle.std.proofs.lemmas.List.Edits.{sets}
use Rattle.scratch.specs.Scratch.{add_rounded}
use Rattle.ray_tracing.specs.declared.Version.{Version}
use Rattle.ray_tracing.specs.declared.Blas.{Blas}
use Rattle.ray_tracing.specs.declared.BlasGeometrySizeDescriptor.{BlasGeometrySizeDescriptor}
use Rattle.ray_tracing.specs.declared.Tlas.{Tlas}
use Rattle.ray_tracing.specs.declared.BlasBuildEntry.{BlasBuildEntry}
use Rattle.ray_tracing.specs.declared.BlasGeometry.{BlasGeometry}
use Rattle.ray_tracing.specs.declared.TlasPackage.{TlasPackage}
use Rattle.ray_tracing.specs.declared.Written.{Written}
use Rattle.ray_tracing.specs.declared.BuildTables.{BuildTables}
use Rattle.ray_tracing.specs.declared.BuildOutputs.{BuildOutputs}
use Rattle.ray_tracing.specs.declared.BuildRefusal.{BuildRefusal}
use Rattle.ray_tracing.specs.declared.Built.{Built}
use Rattle.ray_tracing.specs.declared.Built.TheVariants as built
use Rattle.ray_tracing.specs.Layout.{layout_in, size, size_in}
use Rattle.ray_tracing.specs.Reading as reading
use Rattle.ray_tracing.specs.Records.{field_at, declared_at, entry_at, geometry_at, package_at}
use Rattle.ray_tracing.specs.Causes.{Cause, cause, bare, build_cause}
use Rattle.ray_tracing.specs.Checks as checks
use Rattle.ray_tracing.specs.Triangles.{unless_none, triangles_rule}
use Rattle.ray_tracing.specs.Boxes.{boxes_rule}
use Rattle.ray_tracing.specs.Mentions.{buffer_mention, blas_mention, tlas_mention, buffer_of, blas_of, tlas_of}
use Rattle.ray_tracing.specs.Instances.{present_at, slot_mention, slot_rule, present_of, slots_bytes}

infixr 20 ◌or◌
-- what a build is lent to read: the scratch alignment, and sections 1 to 8 of a version
pub record Tables : Type 0 where
  pub version : Version
  pub alignment : ℕ
  pub buffers : List ℕ
  pub blases : List ℕ
  pub declared : List ℕ
  pub tlases : List ℕ
  pub entries : List ℕ
  pub geometries : List ℕ
  pub packages : List ℕ
  pub slots : List ℕ

-- the version, the scratch alignment and the eight tables, as a call is lent them
abbrev pub tables_of : Version → ℕ → List ℕ → List ℕ → List ℕ → List ℕ → List ℕ → List ℕ → List ℕ → List ℕ → Tables
tables_of v alignment buffers blases declared tlases entries geometries packages slots =
    record {
      version = v;
      alignment = alignment;
      buffers = buffers;
      blases = blases;
      declared = declared;
      tlases = tlases;
      entries = entries;
      geometries = geometries;
      packages = packages;
      slots = slots;
    }

-- as a call of the code is lent them
abbrev pub lent_tables : BuildTables → Tables
lent_tables t =
    tables_of t.version t.alignment t.buffers.now t.blases.now t.declared.now t.tlases.now t.entries.now t.geometries.now
    t.packages.now t.slots.now

-- those of a sheet, by section
abbrev pub sheet_tables : Version → ℕ → (ℕ → List ℕ) → Tables
sheet_tables v alignment table =
    tables_of v alignment (table 1) (table 2) (table 3) (table 4) (table 5) (table 6) (table 7) (table 8)

-- nothing to refuse, or the first refusal: "E is entry and its geometry, or package and its slot, from 0 (second 0 where there is none)"
pub data Verdict : Type 0 where
  passed : Verdict
  refused : ℕ → ℕ → Cause → Verdict

abbrev pub on : Bool → Verdict → Verdict
on true v = v
on false v = passed

-- the first of two
abbrev pub ◌or◌ : Verdict → Verdict → Verdict
◌or◌ passed v = v
◌or◌ (refused e f c) v = refused e f c

-- a cause with no figures, by its number, at E; 0 is none
abbrev pub at_e : ℕ → ℕ → ℕ → Verdict
at_e e f zero = passed
at_e e f (suc n) = refused e f (bare (suc n))

-- the first of n, from i on
unfoldable pub first_of : (ℕ → Verdict) → ℕ → ℕ → Verdict
first_of f i zero = passed
first_of f i (suc n) = f i or first_of f (i + 1) n

-- the first of n that draw in turn from another section: the i-th draws `count i` records, from g on
unfoldable pub first_drawing : (ℕ → ℕ → Verdict) → (ℕ → ℕ) → ℕ → ℕ → ℕ → Verdict
first_drawing f count i g zero = passed
first_drawing f count i g (suc n) = f i g or first_drawing f count (i + 1) (g + count i) n

-- The tables and their records

-- section k
abbrev pub table_of : Tables → ℕ → List ℕ
table_of x k =
    get_or
    ([]
    ∷ x.buffers
    ∷ x.blases
    ∷ x.declared
    ∷ x.tlases
    ∷ x.entries
    ∷ x.geometries
    ∷ x.packages
    ∷ x.slots
    ∷ [])
    k
    []

-- how many records a section has
abbrev pub records_in : Tables → ℕ → ℕ
records_in x k = length (table_of x k) / size_in x.version k

abbrev pub entry_of : Tables → ℕ → BlasBuildEntry
entry_of x i = entry_at x.entries (i * size 5)

abbrev pub geometry_of : Tables → ℕ → BlasGeometry
geometry_of x g = geometry_at x.version x.geometries (g * size_in x.version 6)

abbrev pub package_of : Tables → ℕ → TlasPackage
package_of x p = package_at x.packages (p * size 7)

abbrev pub geometry_count : Tables → ℕ → ℕ
geometry_count x i = (entry_of x i).geometry_count

abbrev pub slot_count : Tables → ℕ → ℕ
slot_count x p = (package_of x p).slot_count

-- the Blas of an entry, and the Tlas of a package
abbrev pub blas_of_entry : Tables → ℕ → Blas
blas_of_entry x i = blas_of x.blases (entry_of x i).blas.0

abbrev pub tlas_of_package : Tables → ℕ → Tlas
tlas_of_package x p = tlas_of x.tlases (package_of x p).tlas.0

-- of slot s
abbrev pub slot_present : List ℕ → ℕ → Bool
slot_present slots s = present_at slots (s * size 8)

abbrev pub slot_blas : List ℕ → ℕ → ℕ
slot_blas slots s = field_at 8 slots (s * size 8) 1

-- "A Blas's list is its records in order": of the n declared geometries from i on, those of the Blas
unfoldable pub declared_from : List ℕ → ℕ → ℕ → ℕ → List BlasGeometrySizeDescriptor
declared_from t blas i zero = []
declared_from t blas i (suc n) =
    cond (eqb (field_at 3 t (i * size 3) 0) blas) (declared_at t (i * size 3) ∷ declared_from t blas (i + 1) n)
    (declared_from t blas (i + 1) n)

-- the j-th of a list, if it has so many
abbrev pub nth : List BlasGeometrySizeDescriptor → ℕ → Option BlasGeometrySizeDescriptor
nth [] j = none
nth (d ∷ ds) zero = some d
nth (d ∷ ds) (suc j) = nth ds j

abbrev pub declared_of : Tables → ℕ → ℕ → Option BlasGeometrySizeDescriptor
declared_of x blas j = nth (declared_from x.declared blas 0 (records_in x 3)) j

-- The tables and lists first

-- "in section order, with section and record (0 for 4 and sums) as E"
abbrev pub by_section : ℕ → reading.Judged → Verdict
by_section k reading.fine = passed
by_section k (reading.refused n r) = refused k r (bare n)

abbrev pub judge_lent_section : Tables → ℕ → Verdict
judge_lent_section x k =
    by_section k
    (reading.judge_lent k (layout_in x.version k) (size_in x.version (k - 1)) (table_of x (k - 1)) (table_of x k))

-- "0, 0 for the scratch alignment"
unfoldable pub judge_tables : Tables → Verdict
judge_tables x = on (eqb x.alignment 0) (refused 0 0 (bare 5)) or first_of (judge_lent_section x) 1 8

-- "Ids first: per entry, each geometry's data, index and transform buffer, then the Blas; per package, each present slot's Blas, then
-- the Tlas."

-- an index or a transform buffer, unless it is none
abbrev pub optional_mention : Tables → ℕ → ℕ
optional_mention x id = cond (eqb id 65535) 0 (buffer_mention x.buffers id)

abbrev pub geometry_ids : Tables → ℕ → ℕ → ℕ → Verdict
geometry_ids x i j g =
    at_e i j (buffer_mention x.buffers (geometry_of x g).buffer.0)
    or on (eqb (entry_of x i).kind 0) (at_e i j (optional_mention x (geometry_of x g).index_buffer.0))
    or on (eqb (entry_of x i).kind 0) (at_e i j (optional_mention x (geometry_of x g).transform_buffer.0))

abbrev pub entry_ids : Tables → ℕ → ℕ → Verdict
entry_ids x i g =
    first_of (λ j. geometry_ids x i j (g + j)) 0 (geometry_count x i) or at_e i 0 (blas_mention x.blases (entry_of x i).blas.0)

abbrev pub slot_ids : Tables → ℕ → ℕ → ℕ → Verdict
slot_ids x p j s = at_e p j (slot_mention x.blases x.slots (s * size 8))

abbrev pub package_ids : Tables → ℕ → ℕ → Verdict
package_ids x p s =
    first_of (λ j. slot_ids x p j (s + j)) 0 (slot_count x p) or at_e p 0 (tlas_mention x.tlases (package_of x p).tlas.0)

unfoldable pub judge_ids : Tables → Verdict
judge_ids x =
    first_drawing (entry_ids x) (geometry_count x) 0 0 (records_in x 5)
    or first_drawing (package_ids x) (slot_count x) 0 0 (records_in x 7)

-- "Then entries, geometries in turn"

-- the j-th geometry of entry i, which is geometry g of section 6, by the entry's kind
abbrev pub checked_at : Tables → ℕ → ℕ → ℕ → checks.Checked
checked_at x i j g =
    cond (eqb (entry_of x i).kind 0)
    (triangles_rule
    (blas_of_entry x i)
    (declared_of x (entry_of x i).blas.0 j)
    (geometry_of x g)
    (buffer_of x.buffers (geometry_of x g).buffer.0)
    (unless_none (buffer_of x.buffers) (geometry_of x g).index_buffer.0)
    (unless_none (buffer_of x.buffers) (geometry_of x g).transform_buffer.0))
    (boxes_rule
    (blas_of_entry x i)
    (declared_of x (entry_of x i).blas.0 j)
    (geometry_of x g)
    (buffer_of x.buffers (geometry_of x g).buffer.0))

abbrev pub checked_e : ℕ → ℕ → checks.Checked → Verdict
checked_e i j (checks.asks r) = passed
checked_e i j (checks.refused c) = refused i j c

abbrev pub judge_entry : Tables → ℕ → ℕ → Verdict
judge_entry x i g = first_of (λ j. checked_e i j (checked_at x i j (g + j))) 0 (geometry_count x i)

unfoldable pub judge_entries : Tables → Verdict
judge_entries x = first_drawing (judge_entry x) (geometry_count x) 0 0 (records_in x 5)

-- "Per present slot: 34, its bytes, 35; after the slots, 36."

abbrev pub judge_slot : Tables → ℕ → ℕ → ℕ → Verdict
judge_slot x p j s = at_e p j (slot_rule (tlas_of_package x p) x.blases x.slots (s * size 8))

-- "too many present slots | 36 | E, count, most"
abbrev pub judge_package : Tables → ℕ → ℕ → Verdict
judge_package x p s =
    first_of (λ j. judge_slot x p j (s + j)) 0 (slot_count x p)
    or on
    (ltb (tlas_of_package x p).max_instance_count (present_of x.slots s (slot_count x p)))
    (refused p 0 (cause 36 (present_of x.slots s (slot_count x p)) (tlas_of_package x p).max_instance_count 0))

unfoldable pub judge_packages : Tables → Verdict
judge_packages x = first_drawing (judge_package x) (slot_count x) 0 0 (records_in x 7)

-- "Blas scratch runs from 0, each size rounded up to the alignment", "Packages run their own total from 0.": whole numbers, since passing
-- 2^64 - 1 is reported "instead of stopping there"

-- the total after n more sizes, from the i-th on
unfoldable pub total_from : (ℕ → ℕ) → ℕ → ℕ → ℕ → ℕ → ℕ
total_from size_of alignment total i zero = total
total_from size_of alignment total i (suc n) = total_from size_of alignment (add_rounded total (size_of i) alignment) (i + 1) n

-- each one's offset is the total before it
unfoldable pub offsets_from : (ℕ → ℕ) → ℕ → ℕ → ℕ → ℕ → List ℕ
offsets_from size_of alignment total i zero = []
offsets_from size_of alignment total i (suc n) =
    total ∷ offsets_from size_of alignment (add_rounded total (size_of i) alignment) (i + 1) n

abbrev pub blas_scratch : Tables → ℕ → ℕ
blas_scratch x i = (blas_of_entry x i).build_scratch_size

abbrev pub tlas_scratch : Tables → ℕ → ℕ
tlas_scratch x p = (tlas_of_package x p).build_scratch_size

abbrev pub blas_total : Tables → ℕ
blas_total x = total_from (blas_scratch x) x.alignment 0 0 (records_in x 5)

abbrev pub tlas_total : Tables → ℕ
tlas_total x = total_from (tlas_scratch x) x.alignment 0 0 (records_in x 7)

-- they share the scratch
unfoldable pub scratch_size : Tables → ℕ
scratch_size x = max (blas_total x) (tlas_total x)

-- "reaches 2^64 - 1 or would pass it", "with the entry or package, 0, and a first figure of 1 for an entry or 2 for a package": 37 at the
-- i-th, whose total is that of all up to it
abbrev pub reached_at : (ℕ → ℕ) → ℕ → ℕ → ℕ → Verdict
reached_at size_of alignment figure i =
    on (leb (2 ^ 64 - 1) (total_from size_of alignment 0 0 (i + 1))) (refused i 0 (cause 37 figure 0 0))

-- "37 then gives the first entry at which the running Blas total reaches 2^64 - 1 or would pass it"
abbrev pub blas_reached : Tables → Verdict
blas_reached x = first_of (reached_at (blas_scratch x) x.alignment 1) 0 (records_in x 5)

-- "if the Blas total stays below, the first such package"
abbrev pub tlas_reached : Tables → Verdict
tlas_reached x = first_of (reached_at (tlas_scratch x) x.alignment 2) 0 (records_in x 7)

unfoldable pub judge_scratch : Tables → Verdict
judge_scratch x = blas_reached x or tlas_reached x

-- "Tlases destroyed: 21. Per entry: 21, 38."

abbrev pub tlas_destroyed : Tables → ℕ → Verdict
tlas_destroyed x p =
    on (eqb (tlas_of_package x p).destroyed 1) (refused p 0 (cause 21 3 (package_of x p).tlas.0 0))

abbrev pub blas_buildable : Tables → ℕ → Verdict
blas_buildable x i =
    on (eqb (blas_of_entry x i).destroyed 1) (refused i 0 (cause 21 2 (entry_of x i).blas.0 0))
    or on (eqb (blas_of_entry x i).compacted_state 3) (refused i 0 (bare 38))

abbrev pub judge_states : Tables → Verdict
judge_states x = first_of (tlas_destroyed x) 0 (records_in x 7) or first_of (blas_buildable x) 0 (records_in x 5)

-- "2^64 - 1: 37", before those
unfoldable pub judge_final : Tables → Verdict
judge_final x = judge_scratch x or judge_states x

-- The plan

-- lent output: one offset per entry, one per package, start and end per package, 64 bytes per present slot, three cells per range, the
-- compactable Blases, and the recorded action's lists
pub record Outputs : Type 0 where
  pub blas_offsets : List ℕ
  pub tlas_offsets : List ℕ
  pub staging_ranges : List ℕ
  pub instances : List ℕ
  pub init_ranges : List ℕ
  pub compactable : List ℕ
  pub lists : List ℕ

-- as a call is lent them
abbrev pub outputs_of : List ℕ → List ℕ → List ℕ → List ℕ → List ℕ → List ℕ → List ℕ → Outputs
outputs_of blas-offsets tlas-offsets staging-ranges instances init-ranges compactable lists =
    record {
      blas_offsets = blas-offsets;
      tlas_offsets = tlas-offsets;
      staging_ranges = staging-ranges;
      instances = instances;
      init_ranges = init-ranges;
      compactable = compactable;
      lists = lists;
    }

-- as a call of the code is lent them
abbrev pub lent_outputs : BuildOutputs → Outputs
lent_outputs o =
    outputs_of o.blas_offsets.now o.tlas_offsets.now o.staging_ranges.now o.instances.now o.init_ranges.now o.compactable.now
    o.lists.now

-- they are still the slices that the caller lent
abbrev pub SameOutputs : BuildOutputs → BuildOutputs → Type 0
SameOutputs o p =
    (p.blas_offsets.ghost_name ≡ o.blas_offsets.ghost_name)
    × (p.tlas_offsets.ghost_name ≡ o.tlas_offsets.ghost_name)
    × (p.staging_ranges.ghost_name ≡ o.staging_ranges.ghost_name)
    × (p.instances.ghost_name ≡ o.instances.ghost_name)
    × (p.init_ranges.ghost_name ≡ o.init_ranges.ghost_name)
    × (p.compactable.ghost_name ≡ o.compactable.ghost_name)
    × (p.lists.ghost_name ≡ o.lists.ghost_name)

-- "Package ranges follow on without gap or overlap, 64 bytes per present slot": of n packages from p on, whose slots stand from s on
unfoldable pub staging_from : Tables → ℕ → ℕ → ℕ → ℕ → List ℕ
staging_from x start p s zero = []
staging_from x start p s (suc n) =
    start
    ∷ (start + 64 * present_of x.slots s (slot_count x p))
    ∷ staging_from x (start + 64 * present_of x.slots s (slot_count x p)) (p + 1) (s + slot_count x p) n

-- the initialisation ranges as asked for, data, index, transform: by the n geometries of entry i from the j-th on, and by n entries from i on
abbrev pub asked : checks.Checked → List ℕ
asked (checks.asks r) = r.of_data ++ (r.of_indices ++ r.of_transform)
asked (checks.refused c) = []

unfoldable pub ranges_of_entry : Tables → ℕ → ℕ → ℕ → ℕ → List ℕ
ranges_of_entry x i j g zero = []
ranges_of_entry x i j g (suc n) = asked (checked_at x i j g) ++ ranges_of_entry x i (j + 1) (g + 1) n

unfoldable pub ranges_from : Tables → ℕ → ℕ → ℕ → List ℕ
ranges_from x i g zero = []
ranges_from x i g (suc n) = ranges_of_entry x i 0 g (geometry_count x i) ++ ranges_from x (i + 1) (g + geometry_count x i) n

-- the compactable list: flag 4 is ALLOW_COMPACTION; ids in the entries' order
unfoldable pub compactable_from : Tables → ℕ → ℕ → List ℕ
compactable_from x i zero = []
compactable_from x i (suc n) =
    cond (eqb ((blas_of_entry x i).flags / 4 % 2) 1) ((entry_of x i).blas.0 ∷ []) [] ++ compactable_from x (i + 1) n

-- the recorded action, a Build: the entries' Blases, then for each package its Tlas, how many Blases it lists, and its present slots'
-- Blases
unfoldable pub entry_blases : Tables → ℕ → ℕ → List ℕ
entry_blases x i zero = []
entry_blases x i (suc n) = (entry_of x i).blas.0 ∷ entry_blases x (i + 1) n

unfoldable pub dependencies_from : List ℕ → ℕ → ℕ → List ℕ
dependencies_from slots s zero = []
dependencies_from slots s (suc n) = cond (slot_present slots s) (slot_blas slots s ∷ []) [] ++ dependencies_from slots (s + 1) n

unfoldable pub package_lists : Tables → ℕ → ℕ → ℕ → List ℕ
package_lists x p s zero = []
package_lists x p s (suc n) =
    ((package_of x p).tlas.0
    ∷ present_of x.slots s (slot_count x p)
    ∷ dependencies_from x.slots s (slot_count x p))
    ++ package_lists x (p + 1) (s + slot_count x p) n

-- what a recorded build writes
unfoldable pub plan_of : Tables → Outputs
plan_of x =
    record {
      blas_offsets = offsets_from (blas_scratch x) x.alignment 0 0 (records_in x 5);
      tlas_offsets = offsets_from (tlas_scratch x) x.alignment 0 0 (records_in x 7);
      staging_ranges = staging_from x 0 0 0 (records_in x 7);
      instances = slots_bytes x.blases x.slots 0 (records_in x 8);
      init_ranges = ranges_from x 0 0 (records_in x 5);
      compactable = compactable_from x 0 (records_in x 5);
      lists = entry_blases x 0 (records_in x 5) ++ package_lists x 0 0 (records_in x 7);
    }

-- "Last: 39": each output against what this build writes
abbrev pub short : List ℕ → List ℕ → Bool
short values lent = ltb (length lent) (length values)

abbrev pub too_short : Outputs → Outputs → Bool
too_short p o =
    short p.blas_offsets o.blas_offsets
    || (short p.tlas_offsets o.tlas_offsets
    || (short p.staging_ranges o.staging_ranges
    || (short p.instances o.instances
    || (short p.init_ranges o.init_ranges
    || (short p.compactable o.compactable || short p.lists o.lists)))))

-- The answer

-- how many elements of each output are written
abbrev pub counts_of : Outputs → Written
counts_of p =
    record {
      blas_offsets = length p.blas_offsets;
      tlas_offsets = length p.tlas_offsets;
      staging_ranges = length p.staging_ranges;
      instances = length p.instances;
      init_ranges = length p.init_ranges;
      compactable = length p.compactable;
      lists = length p.lists;
    }

-- recorded, with the scratch size and the counts; nothing recorded, with the count of the initialisation ranges' cells; or refused
pub data Building : Type 0 where
  recorded : ℕ → Written → Building
  nothing-recorded : ℕ → Building
  not_built : ℕ → ℕ → Cause → Building

-- what the code's answer says
abbrev pub building_of : Result Built BuildRefusal → Building
building_of (Ok (built.Recorded size w)) = recorded size w
building_of (Ok (built.NothingRecorded n)) = nothing-recorded n
building_of (Err r) = not_built r.e0 r.e1 (build_cause r.error)

abbrev pub unless : Verdict → Building → Building
unless passed a = a
unless (refused e f c) a = not_built e f c

-- "Larger total 0: accepted, nothing recorded, only initialisation ranges written (39 if short)"
unfoldable pub build : Tables → Outputs → Building
build x o =
    unless (judge_tables x or judge_ids x or judge_entries x or judge_packages x)
    (cond (eqb (scratch_size x) 0)
    (unless (on (short (plan_of x).init_ranges o.init_ranges) (refused 0 0 (bare 39)))
    (nothing-recorded (length (plan_of x).init_ranges)))
    (unless (judge_final x or on (too_short (plan_of x) o) (refused 0 0 (bare 39)))
    (recorded (scratch_size x) (counts_of (plan_of x)))))

-- "Lent output past what is written keeps its bytes"; a refusal leaves all as it was
abbrev pub written : Outputs → Outputs → Outputs
written p o =
    record {
      blas_offsets = sets o.blas_offsets 0 p.blas_offsets;
      tlas_offsets = sets o.tlas_offsets 0 p.tlas_offsets;
      staging_ranges = sets o.staging_ranges 0 p.staging_ranges;
      instances = sets o.instances 0 p.instances;
      init_ranges = sets o.init_ranges 0 p.init_ranges;
      compactable = sets o.compactable 0 p.compactable;
      lists = sets o.lists 0 p.lists;
    }

abbrev pub only_ranges : Outputs → Outputs → Outputs
only_ranges p o = written (outputs_of [] [] [] [] p.init_ranges [] []) o

abbrev pub leaves : Building → Outputs → Outputs → Outputs
leaves (recorded n w) p o = written p o
leaves (nothing-recorded n) p o = only_ranges p o
leaves (not_built e f c) p o = o

-- what a build leaves of its outputs
abbrev pub outputs_after : Tables → Outputs → Outputs
outputs_after x o = leaves (build x o) (plan_of x) o

-- A call

-- lent the tables x and the outputs o, it answered a, by what it says of a build, and left p
pub record BuildsAs {A : Type 0} (says : Building → A) (x : Tables) (o : Outputs) (a : A) (p : Outputs) : Type 0 where
  pub answer : a ≡ says (build x o)
  pub left : p ≡ outputs_after x o

-- it answered a itself
abbrev pub Builds : Tables → Outputs → Building → Outputs → Type 0
Builds x o a p = BuildsAs (λ b. b) x o a p
