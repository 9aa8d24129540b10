-- Vulkan's bytes of what callers find: in the output that a recorded build leaves, each present slot's 64 bytes are those of the
-- VkAccelerationStructureInstanceKHR that the slot says; and so are an appended instance's, and those of each of many.
use Prim.Native.Nat.{ℕ, ◌+◌, ◌*◌, ◌^◌, ◌<◌, ◌≤◌}
use native.Mathlib.Nat.{zero-add}
use native.Mathlib.Omega.{arith}
use mathlib.Core.Path.{◌≡◌, refl, sym, ap, ◌∙◌}
use mathlib.Core.Bool.{true}
use mathlib.Core.List.{List, ◌++◌, append_assoc}
use lib.ListN.{length, take, drop, get_or, length-take, length-drop, get_or-append}
use lib.Seq.{sets, sets-eq, take-append-le, drop-append-le, drop-drop, drop_at, length-take-le}
use Rattle.wire.specs.Wire.{le_at, le_bytes}
use Rattle.ray_tracing.specs.declared.Written.{Written}
use Rattle.ray_tracing.specs.declared.TlasId.{TlasId}
use Rattle.ray_tracing.specs.declared.TlasInstance.{TlasInstance}
use Rattle.ray_tracing.specs.Layout.{size}
use Rattle.ray_tracing.specs.Records.{field_at}
use Rattle.ray_tracing.specs.Mentions.{blas_of, tlas_of}
use Rattle.ray_tracing.specs.Instances.{VkAccelerationStructureInstanceKHR, field, columns, vk_bytes, vk_instance, vk_slot, instance_from, instance_at, address_for, instance_bytes, present_of, in_use, Appends}
use Rattle.ray_tracing.specs.Plan.{Tables, passed, records_in, slot_count, slot_present, slot_blas, tlas_of_package, judge_slot, judge_package, judge_packages, Outputs, plan_of, Building, recorded, build, written, leaves, Builds}
use Rattle.ray_tracing.specs.AppendMany.{lent_size, lent_count, lent_instance, many_bytes, all_in_use, AppendsMany}
use Rattle.ray_tracing.proofs.EndToEnd.{set_part}
use Rattle.ray_tracing.proofs.AppendMany.{accepted_alone, alone_inside, alone_wrote, accepted-wrote, many_length, many_at}
use Rattle.ray_tracing.proofs.Verdicts.{or-passed, none-at_e, none-cond, each-passed, each-drawing}
use Rattle.ray_tracing.proofs.Inside.{slots_before, slots-none, slots_more}
use Rattle.ray_tracing.proofs.Instances.{Below, vk-bytes, bytes-length, from_lengths, from-length, patterns-read, get_or-words_at, slot_custom, rule-narrow, inside-narrow}
use Rattle.ray_tracing.proofs.Staged.{slot_placed, staging_length}
use Rattle.ray_tracing.proofs.PlanLaws.{judged, facts, room}

-- ---- 34 was judged of each present slot

module _ (x : Tables) (e : judge_packages x ≡ passed) where
  package_passed : (p : ℕ) → p < records_in x 7 → judge_package x p (slots_before x p) ≡ passed
  unfolding judge_packages
  package_passed p h =
      rw zero-add at (each-drawing (judge_package x) (slot_count x) (slots_before x) (slots_more x) (records_in x 7) 0 (rw (slots-none x) e) p h)

  slot-passed : (p j : ℕ) → p < records_in x 7 → j < slot_count x p → judge_slot x p j (slots_before x p + j) ≡ passed
  slot-passed p j h k =
      rw zero-add at
      (each-passed (λ (j : ℕ). judge_slot x p j (slots_before x p + j)) (slot_count x p) 0 (or-passed _ _ (package_passed p h)).0 j k)

  pub slot-narrow :
      (p j : ℕ)
      → p < records_in x 7
      → j < slot_count x p
      → slot_present x.slots (slots_before x p + j) ≡ true
      → field_at 8 x.slots ((slots_before x p + j) * size 8) 2 < 2 ^ 24
  slot-narrow p j h k s =
      rule-narrow (tlas_of_package x p) (blas_of x.blases (slot_blas x.slots (slots_before x p + j))) _
      (none-cond _ _ (none-at_e p j _ (slot-passed p j h k)) s)

-- ---- an instance that was read, as its slot says it

columns_same : (m n : ℕ → ℕ) {a b : ℕ} → m 0 ≡ n 0 → m 1 ≡ n 1 → m 2 ≡ n 2 → m 3 ≡ n 3 → a ≡ b → columns m a ≡ columns n b
columns_same m n p q r s t = λ j. field 32 (p j) (field 32 (q j) (field 32 (r j) (field 32 (s j) (t j))))

module _ (blases s : List ℕ) (at : ℕ) (b : Below s) where
  abbrev read : VkAccelerationStructureInstanceKHR
  read = vk_instance (instance_at s at) (address_for blases (instance_at s at))

  abbrev said : VkAccelerationStructureInstanceKHR
  said = vk_slot blases s at

  number_read : (r c : ℕ) → 4 * r + c < 12 → read.matrix r c ≡ said.matrix r c
  number_read r c h =
      ap (λ (l : List ℕ). get_or l (4 * r + c) 0) (patterns-read s (at + 1) b)
      ∙ get_or-words_at 12 s (at + 1 + 7) (4 * r + c) 0 h
      ∙ ap (le_at 4 s) (omega arith)

  line_read : (r : ℕ) → r < 3 → {m n : ℕ} → m ≡ n → columns (read.matrix r) m ≡ columns (said.matrix r) n
  line_read r h e =
      columns_same (read.matrix r) (said.matrix r) (number_read r 0 (omega arith)) (number_read r 1 (omega arith)) (number_read r 2 (omega arith))
      (number_read r 3 (omega arith)) e

  pub slot_read : vk_bytes read ≡ vk_bytes said
  unfolding vk_bytes instance_from
  slot_read =
      ap (le_bytes 64)
      (line_read 0 (omega arith)
      (line_read 1 (omega arith)
      (line_read 2 (omega arith)
      (λ j. field 24 (slot_custom s at j) (field 8 (le_at 1 s (mask-place j)) (field 24 0 (field 8 0 (field 64 read.acceleration_structure_reference 0))))))))
    where
      mask-place : at + 1 + 6 ≡ at + 7
      mask-place = omega arith

-- ---- what a recorded build leaves

whole : (vs l : List ℕ) → length vs ≤ length l → sets l 0 vs ≡ vs ++ drop (0 + length vs) l
whole vs l h = sets-eq vs l 0 (rw zero-add h)

written_part : (vs l : List ℕ) (a n : ℕ) → length vs ≤ length l → a + n ≤ length vs → take n (drop a (sets l 0 vs)) ≡ take n (drop a vs)
written_part vs l a n h k =
    ap (λ (t : List ℕ). take n (drop a t)) (whole vs l h)
    ∙ ap (take n) (drop-append-le a vs _ (omega arith))
    ∙ take-append-le n (drop a vs) _ (omega (arith, length-drop a vs))

written-cell : (vs l : List ℕ) (i : ℕ) → length vs ≤ length l → i < length vs → get_or (sets l 0 vs) i 0 ≡ get_or vs i 0
written-cell vs l i h k = ap (λ (t : List ℕ). get_or t i 0) (whole vs l h) ∙ get_or-append vs _ 0 i k

module _ (x : Tables) (o : Outputs) (n : ℕ) (w : Written) (left : Outputs) (builds : Builds x o (recorded n w) left) (bytes : Below x.slots) where
  is_recorded : build x o ≡ recorded n w
  is_recorded = sym builds.answer

  left_is : left ≡ written (plan_of x) o
  left_is = builds.left ∙ ap (λ (b : Building). leaves b (plan_of x) o) is_recorded

  -- the k-th slot of package p, if it is present: past its range's start, 64 bytes for each present slot before it
  pub build_vk :
      (p k : ℕ)
      → p < records_in x 7
      → k < slot_count x p
      → slot_present x.slots (slots_before x p + k) ≡ true
      → take 64 (drop (get_or left.staging_ranges (2 * p) 0 + 64 * present_of x.slots (slots_before x p) k) left.instances)
      ≡ vk_bytes (vk_slot x.blases x.slots ((slots_before x p + k) * size 8))
  build_vk p k h l here =
      let at = (slots_before x p + k) * size 8 in
      let ranges = (plan_of x).staging_ranges in
      let instances = (plan_of x).instances in
      let place = get_or ranges (2 * p) 0 + 64 * present_of x.slots (slots_before x p) k in
      let there = room x o n w is_recorded in
      let start : get_or left.staging_ranges (2 * p) 0 ≡ get_or ranges (2 * p) 0 =
      ap (λ (q : Outputs). get_or q.staging_ranges (2 * p) 0) left_is
      ∙ written-cell ranges o.staging_ranges (2 * p) there.staging (omega (arith, staging_length x)) in
      let placed = slot_placed x (facts x o n w is_recorded) p k h l here in
      let long : length (take 64 (drop place instances)) ≡ 64 = ap length placed ∙ from-length x.slots (at + 1) _ in
      let fits : place + 64 ≤ length instances = omega (arith, long, length-take 64 (drop place instances), length-drop place instances) in
      ap (λ (s : ℕ). take 64 (drop (s + 64 * present_of x.slots (slots_before x p) k) left.instances)) start
      ∙ ap (λ (q : Outputs). take 64 (drop place q.instances)) left_is
      ∙ written_part instances o.instances place 64 there.instances fits
      ∙ placed
      ∙ vk-bytes (instance_at x.slots at) (address_for x.blases (instance_at x.slots at)) (from_lengths x.slots (at + 1)).0 (from_lengths x.slots (at + 1)).1
      (rw (slot_custom x.slots at) (slot-narrow x (judged x o n w is_recorded).packages p k h l here))
      ∙ slot_read x.blases x.slots at bytes

-- ---- an appended instance

module _ (tlases blases : List ℕ) (tlas : TlasId) (i : TlasInstance) (b : List ℕ) (used m : ℕ) (left : List ℕ)
    (appends : Appends tlases blases tlas i b used (in_use m) left) (h : length i.transform ≡ 12) (g : length i.nan_bits ≡ 12) where
  -- the 64 bytes that were in nobody's use
  pub append_vk : take 64 (drop used left) ≡ vk_bytes (vk_instance i (address_for blases i))
  append_vk =
      let bytes = instance_bytes i (address_for blases i) in
      let long : length bytes ≡ 64 = bytes-length i (address_for blases i) h g in
      let fits = (accepted_alone tlases blases tlas i (length b) used appends.answer).1 in
      ap (λ (l : List ℕ). take 64 (drop used l)) (alone_wrote tlases blases tlas i b used appends)
      ∙ ap (λ (n : ℕ). take n (drop used (sets b used bytes))) (sym long)
      ∙ set_part bytes b used (omega arith)
      ∙ vk-bytes i (address_for blases i) h g (alone_inside tlases blases tlas i b used appends).1

-- ---- many in one call

module _ (tlases blases : List ℕ) (tlas : TlasId) (items b : List ℕ) (used m : ℕ) (left : List ℕ) (appends : AppendsMany tlases blases tlas items b used (all_in_use m) left) where
  -- the k-th's 64 bytes, past those that were in use
  pub append_many_vk :
      (k : ℕ)
      → k < lent_count items
      → take 64 (drop (used + 64 * k) left) ≡ vk_bytes (vk_instance (lent_instance items k) (address_for blases (lent_instance items k)))
  append_many_vk k h =
      let i = lent_instance items k in
      let n = lent_count items in
      let new = many_bytes blases items n in
      let done = accepted-wrote tlases blases tlas items b used appends refl in
      let fits = done.0.fits in
      let long : length new ≡ 64 * n = many_length blases items n in
      let rest = drop (used + length new) b in
      let lengths = from_lengths items (k * lent_size) in
      ap (λ (l : List ℕ). take 64 (drop (used + 64 * k) l)) (done.2 ∙ sets-eq new b used (omega arith) ∙ append_assoc (take used b) new rest)
      ∙ ap (take 64) (sym (drop-drop (64 * k) used (take used b ++ (new ++ rest))))
      ∙ ap (λ (l : List ℕ). take 64 (drop (64 * k) l)) (drop_at (take used b) (new ++ rest) used (length-take-le used b (omega arith)))
      ∙ ap (take 64) (drop-append-le (64 * k) new rest (omega arith))
      ∙ take-append-le 64 (drop (64 * k) new) rest (omega (arith, length-drop (64 * k) new))
      ∙ many_at blases items n k h
      ∙ vk-bytes i (address_for blases i) lengths.0 lengths.1 (inside-narrow (tlas_of tlases tlas.0) blases i (done.0.each k h)).1
