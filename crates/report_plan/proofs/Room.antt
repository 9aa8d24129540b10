-- A build of whatever tables writes at most so many elements of each output, so outputs with that much room draw no 39.
use Prim.Native.Nat.{ℕ, zero, suc, ◌+◌, ◌*◌, ◌/◌, ◌%◌, ◌≤◌}
use native.Mathlib.Nat.{zero-add, add-zero}
use native.Mathlib.Omega.{arith}
use mathlib.Core.Bool.{Bool, true, false, cond}
use mathlib.Core.Option.{Option, none, some}
use mathlib.Core.Path.{◌≡◌, refl, sym, ap}
use mathlib.Core.List.{List, [], ◌∷◌}
use lib.Dec.{eqb}
use lib.ListN.{length, length-append, replicate, length-replicate}
use borrow.Author.Tests.{le-ltb}
use Rattle.ray_tracing.specs.declared.Blas.{Blas}
use Rattle.ray_tracing.specs.declared.Buffer.{Buffer}
use Rattle.ray_tracing.specs.declared.BlasGeometry.{BlasGeometry}
use Rattle.ray_tracing.specs.declared.BlasGeometrySizeDescriptor.{BlasGeometrySizeDescriptor}
use Rattle.ray_tracing.specs.Guard.{refuse}
use Rattle.ray_tracing.specs.Causes.{Cause, bare}
use Rattle.ray_tracing.specs.Checks.{Checked, asks, ranges, refused, ◌then◌, usable_buffer}
use Rattle.ray_tracing.specs.Triangles.{unless_none, descriptor_rule, index_sizes_rule, vertices_rule, index_width, index_region_rule, indices_rule, transform_rule, is_lent, index_part, transform_part, triangles_rule}
use Rattle.ray_tracing.specs.Boxes.{boxes_rule}
use Rattle.ray_tracing.specs.Mentions.{buffer_of}
use Rattle.ray_tracing.specs.Instances.{present_of}
use Rattle.ray_tracing.specs.Plan as plan
use Rattle.ray_tracing.specs.Plan.{
  Tables,
  ◌or◌,
  Outputs,
  Building,
  records_in,
  entry_of,
  geometry_of,
  package_of,
  blas_of_entry,
  declared_of,
  geometry_count,
  slot_count,
  slot_present,
  slot_blas,
  checked_at,
  asked,
  offsets_from,
  staging_from,
  ranges_of_entry,
  ranges_from,
  compactable_from,
  entry_blases,
  dependencies_from,
  package_lists,
  plan_of,
  too_short,
  short,
  blas_scratch,
  tlas_scratch,
  judge_tables,
  judge_ids,
  judge_entries,
  judge_packages,
  judge_final,
  scratch_size,
  counts_of,
  build,
}
use Rattle.ray_tracing.proofs.Instances.{present_bound, slots_length}
use Rattle.ray_tracing.proofs.Plan.{offsets_length, staging_length, blases-length, present_zero, packages-length}
use Rattle.ray_tracing.proofs.Verdicts.{or-passed}
use Rattle.ray_tracing.proofs.Inside.{Inside, inside, drawn_before, slots_before, drawn-none, drawn_more, slots-none}

-- ---- the ranges that a geometry's checks ask for

abbrev Few : ℕ → Checked → Type 0
Few n c = length (asked c) ≤ n

refuse-few : (n : ℕ) (t : Bool) (c : Cause) (d : Checked) → Few n d → Few n (refuse t (refused c) d)
unfolding refuse
refuse-few n true c d h = omega arith
refuse-few n false c d h = h

then_few : (m n : ℕ) (c d : Checked) → Few m c → Few n d → Few (m + n) (c then d)
then_few m n (asks a) (asks b) h k =
    let p = simp length-append at h in
    let q = simp length-append at k in
    simp length-append (omega arith)
then_few m n (asks a) (refused c) h k = omega arith
then_few m n (refused c) d h k = omega arith

usable-few : (n id : ℕ) (b : Buffer) (d : Checked) → Few n d → Few n (usable_buffer id b d)
usable-few n id b d h = refuse-few n _ _ _ (refuse-few n _ _ _ h)

descriptor_few : (d : BlasGeometrySizeDescriptor) (g : BlasGeometry) → Few 0 (descriptor_rule d g)
descriptor_few d g =
    refuse-few 0 _ _ _ (refuse-few 0 _ _ _ (refuse-few 0 _ _ _ (refuse-few 0 _ _ _ (refuse-few 0 _ _ (asks (ranges [] [] [])) (omega arith)))))

index_sizes_few : (d : BlasGeometrySizeDescriptor) (g : BlasGeometry) (b : Bool) → Few 0 (index_sizes_rule d g b)
index_sizes_few d g b = refuse-few 0 _ _ _ (refuse-few 0 _ _ _ (refuse-few 0 _ _ _ (refuse-few 0 _ _ (asks (ranges [] [] [])) (omega arith))))

vertices-few : (g : BlasGeometry) (b : Buffer) → Few 3 (vertices_rule g b)
vertices-few g b = usable-few 3 _ b _ (refuse-few 3 _ _ _ (omega arith))

index_region_few : (g : BlasGeometry) (w : ℕ) (b : Buffer) → Few 3 (index_region_rule g w b)
index_region_few g w b = refuse-few 3 _ _ _ (refuse-few 3 _ _ _ (refuse-few 3 _ _ _ (refuse-few 3 _ _ _ (omega arith))))

indices-few : (g : BlasGeometry) (w : ℕ) (b : Buffer) → Few 3 (indices_rule g w b)
indices-few g w b =
    refuse-few 3 _ _ _ (refuse-few 3 _ _ _ (usable-few 3 _ b _ (refuse-few 3 _ _ _ (index_region_few g w b))))

transform-few : (flags : ℕ) (g : BlasGeometry) (b : Buffer) → Few 3 (transform_rule flags g b)
transform-few flags g b =
    refuse-few 3 _ _ _
    (refuse-few 3 _ _ _
    (usable-few 3 _ b _ (refuse-few 3 _ _ _ (refuse-few 3 _ _ _ (refuse-few 3 _ _ _ (omega arith))))))

index_part-few : (g : BlasGeometry) (b : Option Buffer) → Few 3 (index_part g b)
index_part-few g none = omega arith
index_part-few g (some b) = indices-few g (index_width g.index_format) b

transform_part-few : (flags : ℕ) (g : BlasGeometry) (b : Option Buffer) → Few 3 (transform_part flags g b)
transform_part-few flags g none = refuse-few 3 _ _ (asks (ranges [] [] [])) (omega arith)
transform_part-few flags g (some b) = transform-few flags g b

triangles-few :
    (blas : Blas) (d : Option BlasGeometrySizeDescriptor) (g : BlasGeometry) (v : Buffer) (i t : Option Buffer)
    → Few 9 (triangles_rule blas d g v i t)
triangles-few blas none g v i t = refuse-few 9 _ _ _ (omega arith)
triangles-few blas (some d) g v i t =
    let transform = transform_part blas.flags g t in
    let buffers = vertices_rule g v then index_part g i then transform in
    refuse-few 9 _ _ _
    (then_few 0 9 (descriptor_rule d g) (index_sizes_rule d g (is_lent i) then buffers) (descriptor_few d g)
    (then_few 0 9 (index_sizes_rule d g (is_lent i)) buffers (index_sizes_few d g (is_lent i))
    (then_few 3 6 (vertices_rule g v) (index_part g i then transform) (vertices-few g v)
    (then_few 3 3 (index_part g i) transform (index_part-few g i) (transform_part-few blas.flags g t)))))

boxes-few : (blas : Blas) (d : Option BlasGeometrySizeDescriptor) (g : BlasGeometry) (b : Buffer) → Few 9 (boxes_rule blas d g b)
boxes-few blas none g b = refuse-few 9 _ _ _ (omega arith)
boxes-few blas (some d) g b =
    refuse-few 9 _ _ _
    (refuse-few 9 _ _ _
    (refuse-few 9 _ _ _
    (refuse-few 9 _ _ _
    (refuse-few 9 _ _ _ (usable-few 9 _ b _ (refuse-few 9 _ _ _ (refuse-few 9 _ _ _ (omega arith))))))))

cond-few : (n : ℕ) (b : Bool) (c d : Checked) → Few n c → Few n d → Few n (cond b c d)
cond-few n true c d h k = h
cond-few n false c d h k = k

checked_few : (x : Tables) (i j g : ℕ) → Few 9 (checked_at x i j g)
checked_few x i j g =
    let blas = blas_of_entry x i in
    let d = declared_of x (entry_of x i).blas.0 j in
    let geometry = geometry_of x g in
    let b = buffer_of x.buffers geometry.buffer.0 in
    let index = unless_none (buffer_of x.buffers) geometry.index_buffer.0 in
    let transform = unless_none (buffer_of x.buffers) geometry.transform_buffer.0 in
    cond-few 9 (eqb (entry_of x i).kind 0) (triangles_rule blas d geometry b index transform) (boxes_rule blas d geometry b)
    (triangles-few blas d geometry b index transform)
    (boxes-few blas d geometry b)

-- ---- the other lists

one-most : (b : Bool) (v : ℕ) → length (cond b (v ∷ []) []) ≤ 1
one-most true v = omega arith
one-most false v = omega arith

module _ (x : Tables) where
  compactable-most : (i n : ℕ) → length (compactable_from x i n) ≤ n
  unfolding compactable_from
  compactable-most i zero = omega arith
  compactable-most i (suc n) =
      simp length-append
      (omega (arith, one-most (eqb ((blas_of_entry x i).flags / 4 % 2) 1) (entry_of x i).blas.0, compactable-most (i + 1) n))

  entry_ranges-most : (i j g n : ℕ) → length (ranges_of_entry x i j g n) ≤ 9 * n
  unfolding ranges_of_entry
  entry_ranges-most i j g zero = omega arith
  entry_ranges-most i j g (suc n) =
      simp length-append (omega (arith, checked_few x i j g, entry_ranges-most i (j + 1) (g + 1) n))

  ranges-most : (i g n : ℕ) → length (ranges_from x i g n) + 9 * drawn_before x i ≤ 9 * drawn_before x (i + n)
  unfolding ranges_from
  ranges-most i g zero = omega (arith, ap (drawn_before x) (add-zero i))
  ranges-most i g (suc n) =
      let e : i + suc n ≡ i + 1 + n = omega arith in
      rw e
      (simp length-append
      (omega (
        arith,
        drawn_more x i,
        entry_ranges-most i 0 g (geometry_count x i),
        ranges-most (i + 1) (g + geometry_count x i) n,
      )))

-- ---- how many elements of each output are written at most

module _ (x : Tables) (i : Inside x) where
  most_5 : records_in x 5 ≤ 64
  most_5 = i.most 5 (omega arith) (omega arith)

  most_7 : records_in x 7 ≤ 32
  most_7 = i.most 7 (omega arith) (omega arith)

  most_8 : records_in x 8 ≤ 512
  most_8 = i.most 8 (omega arith) (omega arith)

  most-blas_offsets : length (plan_of x).blas_offsets ≤ 64
  unfolding plan_of
  most-blas_offsets = omega (arith, offsets_length (blas_scratch x) x.alignment 0 0 (records_in x 5), most_5)

  most-tlas_offsets : length (plan_of x).tlas_offsets ≤ 32
  unfolding plan_of
  most-tlas_offsets = omega (arith, offsets_length (tlas_scratch x) x.alignment 0 0 (records_in x 7), most_7)

  most-staging_ranges : length (plan_of x).staging_ranges ≤ 64
  unfolding plan_of
  most-staging_ranges = omega (arith, staging_length x 0 0 0 (records_in x 7), most_7)

  most-instances : length (plan_of x).instances ≤ 32768
  unfolding plan_of
  most-instances =
      omega (arith, slots_length x.blases x.slots 0 (records_in x 8), present_bound x.slots 0 (records_in x 8), most_8)

  most-init_ranges : length (plan_of x).init_ranges ≤ 2304
  unfolding plan_of
  most-init_ranges =
      omega (
        arith,
        ranges-most x 0 0 (records_in x 5),
        drawn-none x,
        ap (drawn_before x) (zero-add (records_in x 5)),
        i.drawn-all,
        i.most 6 (omega arith) (omega arith),
      )

  most-compactable : length (plan_of x).compactable ≤ 64
  unfolding plan_of
  most-compactable = omega (arith, compactable-most x 0 (records_in x 5), most_5)

  most-lists : length (plan_of x).lists ≤ 640
  unfolding plan_of
  most-lists =
      simp length-append
      (omega (
        arith,
        blases-length x 0 (records_in x 5),
        packages-length x 0 0 (records_in x 7) (sym (slots-none x)),
        present_zero x.slots 0,
        ap (λ (n : ℕ). present_of x.slots 0 (slots_before x n)) (zero-add (records_in x 7)),
        ap (present_of x.slots 0) i.slots-all,
        present_bound x.slots 0 (records_in x 8),
        most_5,
        most_7,
        most_8,
      ))

-- ---- outputs with room for any of them

pub record Roomy (o : Outputs) : Type 0 where
  pub blas-offsets : 64 ≤ length o.blas_offsets
  pub tlas-offsets : 32 ≤ length o.tlas_offsets
  pub staging-ranges : 64 ≤ length o.staging_ranges
  pub instances : 32768 ≤ length o.instances
  pub init-ranges : 2304 ≤ length o.init_ranges
  pub compactable : 64 ≤ length o.compactable
  pub lists : 640 ≤ length o.lists

-- the outputs that a sheet is built into
abbrev pub rooms : Outputs
rooms =
    record {
      blas_offsets = replicate 64 0;
      tlas_offsets = replicate 32 0;
      staging_ranges = replicate 64 0;
      instances = replicate 32768 0;
      init_ranges = replicate 2304 0;
      compactable = replicate 64 0;
      lists = replicate 640 0;
    }

room_of : (n : ℕ) → n ≤ length (replicate {A = ℕ} n 0)
room_of n = rw length-replicate (omega arith)

pub roomy : Roomy rooms
roomy =
    record {
      blas-offsets = room_of 64;
      tlas-offsets = room_of 32;
      staging-ranges = room_of 64;
      instances = room_of 32768;
      init-ranges = room_of 2304;
      compactable = room_of 64;
      lists = room_of 640;
    }

fits : (values unless_none : List ℕ) → length values ≤ length unless_none → short values unless_none ≡ false
fits values unless_none h = le-ltb (length unless_none) (length values) h

module _ (x : Tables) (i : Inside x) (o : Outputs) (r : Roomy o) where
  ranges-fit : short (plan_of x).init_ranges o.init_ranges ≡ false
  ranges-fit = fits (plan_of x).init_ranges o.init_ranges (omega (arith, most-init_ranges x i, r.init-ranges))

  all_fit : too_short (plan_of x) o ≡ false
  all_fit =
      rw (
        fits (plan_of x).blas_offsets o.blas_offsets (omega (arith, most-blas_offsets x i, r.blas-offsets)),
        fits (plan_of x).tlas_offsets o.tlas_offsets (omega (arith, most-tlas_offsets x i, r.tlas-offsets)),
        fits (plan_of x).staging_ranges o.staging_ranges (omega (arith, most-staging_ranges x i, r.staging-ranges)),
        fits (plan_of x).instances o.instances (omega (arith, most-instances x i, r.instances)),
        ranges-fit,
        fits (plan_of x).compactable o.compactable (omega (arith, most-compactable x i, r.compactable)),
        fits (plan_of x).lists o.lists (omega (arith, most-lists x i, r.lists)),
      )

  pub lists_room : length (plan_of x).lists ≤ length o.lists
  lists_room = omega (arith, most-lists x i, r.lists)

short_self : (l : List ℕ) → short l l ≡ false
short_self l = fits l l (omega arith)

self_fits : (p : Outputs) → too_short p p ≡ false
self_fits p =
    rw (
      short_self p.blas_offsets,
      short_self p.tlas_offsets,
      short_self p.staging_ranges,
      short_self p.instances,
      short_self p.init_ranges,
      short_self p.compactable,
      short_self p.lists,
    )

-- what is built with so much room is what is built with room for what is written
pub build_with_room : (x : Tables) (o : Outputs) → Roomy o → build x o ≡ build x (plan_of x)
unfolding build
build_with_room x o r = go (judge_tables x or judge_ids x or judge_entries x or judge_packages x) refl
  where
    after : plan.Verdict → Outputs → Building
    after v o =
        plan.unless v
        (cond (eqb (scratch_size x) 0)
        (plan.unless
        (plan.on (short (plan_of x).init_ranges o.init_ranges) (plan.refused 0 0 (bare 39)))
        (plan.nothing-recorded (length (plan_of x).init_ranges)))
        (plan.unless
        (judge_final x or plan.on (too_short (plan_of x) o) (plan.refused 0 0 (bare 39)))
        (plan.recorded (scratch_size x) (counts_of (plan_of x)))))

    go :
        (v : plan.Verdict)
        → (judge_tables x or judge_ids x or judge_entries x or judge_packages x) ≡ v
        → after v o ≡ after v (plan_of x)
    go plan.passed e =
        let a = or-passed (judge_tables x) _ e in
        let b = or-passed (judge_ids x) _ a.1 in
        let i = inside x a.0 b.0 in
        rw (all_fit x i o r, ranges-fit x i o r, self_fits (plan_of x), short_self (plan_of x).init_ranges)
    go (plan.refused e f c) h = refl
