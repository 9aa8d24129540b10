-- Instances: their 64 bytes, how they stand in slots, what is judged of one, and what appending it does. Assumes nothing.
use Rattle.std.specs.Prelude.{ℕ, zero, suc, ◌+◌, ◌*◌, ◌/◌, ◌%◌, ◌^◌, ◌≡◌, Bool, not, ◌&&◌, cond, List, [], ◌∷◌, ◌++◌, map, length, get_or, drop, leb, ltb, eqb, Float, Result, Ok, Err}
use Rattle.std.proofs.lemmas.List.Edits.{sets}
use Rattle.std.specs.Float.{binary32}
use Rattle.std.specs.Float.Ieee.{of_bits, to_bits, nan_bits as is_nan_bits, is_nan}
use Rattle.wire.specs.Wire.{le_at, le_bytes}
use Rattle.ray_tracing.specs.declared.Blas.{Blas}
use Rattle.ray_tracing.specs.declared.Tlas.{Tlas}
use Rattle.ray_tracing.specs.declared.TlasId.{TlasId}
use Rattle.ray_tracing.specs.declared.TlasInstance.{TlasInstance}
use Rattle.ray_tracing.specs.declared.BuildAccelerationStructureError.{BuildAccelerationStructureError}
use Rattle.ray_tracing.specs.Guard.{refuse, neb}
use Rattle.ray_tracing.specs.Layout.{Field, slots, size, place_of, width_of}
use Rattle.ray_tracing.specs.Records.{field_at}
use Rattle.ray_tracing.specs.Causes.{Cause, bare, build_cause}
use Rattle.ray_tracing.specs.Mentions.{◌else◌, blas_mention, tlas_mention, blas_of, tlas_of}

-- A number and its bits

-- what is kept beside the number of the pattern b: b where it is a NaN's, else 0
unfoldable pub nan_of : ℕ → ℕ
nan_of b = cond (is_nan_bits binary32 b) b 0

-- the bits of the number x with n kept beside it: a NaN has those kept if they are a NaN's, else 0x7fc0_0000, which `to_bits` gives
unfoldable pub bits_of : Float → ℕ → ℕ
bits_of x n = cond (is_nan x && is_nan_bits binary32 n) n (to_bits binary32 x)

-- of numbers xs with ns kept beside them
unfoldable pub patterns : List Float → List ℕ → List ℕ
patterns [] ns = []
patterns (x ∷ xs) [] = []
patterns (x ∷ xs) (n ∷ ns) = bits_of x n ∷ patterns xs ns

-- The paper's 64 bytes

-- u32s end to end
unfoldable pub words : List ℕ → List ℕ
words [] = []
words (w ∷ ws) = le_bytes 4 w ++ words ws

-- "custom data in the low 24 bits with the mask above, a zero u32, the address u64"
abbrev pub tail_bytes : ℕ → ℕ → ℕ → List ℕ
tail_bytes custom-data mask address = le_bytes 4 (custom-data + 2 ^ 24 * mask) ++ (le_bytes 4 0 ++ le_bytes 8 address)

-- "Its 64 bytes are those numbers by their bits", then those
unfoldable pub instance_bytes : TlasInstance → ℕ → List ℕ
instance_bytes i address = words (patterns i.transform i.nan_bits) ++ tail_bytes i.custom_data i.mask address

-- VK_KHR_acceleration_structure

-- typedef struct VkTransformMatrixKHR {
--     float                         matrix[3][4];
-- } VkTransformMatrixKHR;
-- typedef struct VkAccelerationStructureInstanceKHR {
--     VkTransformMatrixKHR          transform;
--     uint32_t                      instanceCustomIndex:24;
--     uint32_t                      mask:8;
--     uint32_t                      instanceShaderBindingTableRecordOffset:24;
--     VkGeometryInstanceFlagsKHR    flags:8;
--     uint64_t                      acceleration_structure_reference;
-- } VkAccelerationStructureInstanceKHR;
pub record VkAccelerationStructureInstanceKHR : Type 0 where
  -- the bits of matrix[row][column]
  pub matrix : ℕ → ℕ → ℕ
  pub instance_custom_index : ℕ
  pub mask : ℕ
  pub instance_shader_binding_table_record_offset : ℕ
  pub flags : ℕ
  pub acceleration_structure_reference : ℕ

-- bit fields from the low bits on: a field of w bits, and what stands above it
abbrev pub field : ℕ → ℕ → ℕ → ℕ
field w v above = v % 2 ^ w + 2 ^ w * above

-- "matrix is a 3x4 row-major affine transformation matrix": four columns of one row
abbrev pub columns : (ℕ → ℕ) → ℕ → ℕ
columns m above = field 32 (m 0) (field 32 (m 1) (field 32 (m 2) (field 32 (m 3) above)))

-- its 64 bytes, little-endian
unfoldable pub vk_bytes : VkAccelerationStructureInstanceKHR → List ℕ
vk_bytes v =
    le_bytes 64
    (columns (v.matrix 0)
    (columns (v.matrix 1)
    (columns (v.matrix 2)
    (field 24 v.instance_custom_index
    (field 8 v.mask
    (field 24 v.instance_shader_binding_table_record_offset
    (field 8 v.flags (field 64 v.acceleration_structure_reference 0))))))))

-- the one that an instance stands for
abbrev pub vk_instance : TlasInstance → ℕ → VkAccelerationStructureInstanceKHR
vk_instance i address =
    record {
      matrix = λ r c. get_or (patterns i.transform i.nan_bits) (4 * r + c) 0;
      instance_custom_index = i.custom_data;
      mask = i.mask;
      instance_shader_binding_table_record_offset = 0;
      flags = 0;
      acceleration_structure_reference = address;
    }

-- Slots

-- n u32s end to end
unfoldable pub words_at : ℕ → List ℕ → ℕ → List ℕ
words_at zero s at = []
words_at (suc n) s at = le_at 4 s at ∷ words_at n s (at + 4)

-- a slot's fields after its present byte: Blas, custom data, mask, twelve numbers
abbrev pub instance_fields : List Field
instance_fields = drop 1 slots.fields

-- the instance whose Blas field is at a place
unfoldable pub instance_from : List ℕ → ℕ → TlasInstance
instance_from s at =
    record {
      transform = map (of_bits binary32) (words_at 12 s (place_of instance_fields at 3));
      nan_bits = map nan_of (words_at 12 s (place_of instance_fields at 3));
      custom_data = le_at (width_of instance_fields 1) s (place_of instance_fields at 1);
      mask = le_at (width_of instance_fields 2) s (place_of instance_fields at 2);
      blas = record { 0 = le_at (width_of instance_fields 0) s (place_of instance_fields at 0) };
    }

-- the instance of the slot at a place
abbrev pub instance_at : List ℕ → ℕ → TlasInstance
instance_at s at = instance_from s (place_of slots.fields at 1)

-- the VkAccelerationStructureInstanceKHR that the slot at a place says: its twelve numbers by their bits, its custom data and mask, and its
-- Blas's address
abbrev pub vk_slot : List ℕ → List ℕ → ℕ → VkAccelerationStructureInstanceKHR
vk_slot blases s at =
    record {
      matrix = λ r c. le_at 4 s (place_of slots.fields at 4 + 4 * (4 * r + c));
      instance_custom_index = field_at 8 s at 2;
      mask = field_at 8 s at 3;
      instance_shader_binding_table_record_offset = 0;
      flags = 0;
      acceleration_structure_reference = (blas_of blases (field_at 8 s at 1)).handle;
    }

-- whether the slot at a place is present
abbrev pub present_at : List ℕ → ℕ → Bool
present_at s at = neb (field_at 8 s at 0) 0

-- the address of the Blas that an instance names
abbrev pub address_for : List ℕ → TlasInstance → ℕ
address_for blases i = (blas_of blases i.blas.0).handle

-- "64 bytes per present slot": what the slot at a place writes
unfoldable pub slot_bytes : List ℕ → List ℕ → ℕ → List ℕ
slot_bytes blases s at = cond (present_at s at) (instance_bytes (instance_at s at) (address_for blases (instance_at s at))) []

-- what n slots from slot a on write, one after the other
unfoldable pub slots_bytes : List ℕ → List ℕ → ℕ → ℕ → List ℕ
slots_bytes blases s a zero = []
slots_bytes blases s a (suc n) = slots_bytes blases s a n ++ slot_bytes blases s ((a + n) * size 8)

-- how many of n slots from slot a on are present
unfoldable pub present_of : List ℕ → ℕ → ℕ → ℕ
present_of s a zero = 0
present_of s a (suc n) = present_of s a n + cond (present_at s ((a + n) * size 8)) 1 0

-- What is judged of an instance

-- flag 2 is ALLOW_RAY_HIT_VERTEX_RETURN, whatever the other bits
abbrev pub returns_vertices : ℕ → Bool
returns_vertices flags = eqb (flags / 2 % 2) 1

-- "Per present slot: 34, its bytes, 35": 34 custom data from 2^24; 35 Tlas returns vertices, Blas doesn't; 0 nothing
abbrev pub instance_rule : Tlas → Blas → ℕ → ℕ
instance_rule tlas blas custom-data =
    refuse (leb (2 ^ 24) custom-data) 34
    (refuse (returns_vertices tlas.flags && not (returns_vertices blas.flags)) 35 0)

-- with the mention of its Blas before: 6, 34, 35
abbrev pub named_instance_rule : Tlas → List ℕ → TlasInstance → ℕ
named_instance_rule tlas blases i =
    blas_mention blases i.blas.0 else instance_rule tlas (blas_of blases i.blas.0) i.custom_data

-- of the slot at a place; an absent one is refused for nothing

abbrev pub slot_mention : List ℕ → List ℕ → ℕ → ℕ
slot_mention blases s at = cond (present_at s at) (blas_mention blases (field_at 8 s at 1)) 0

abbrev pub slot_rule : Tlas → List ℕ → List ℕ → ℕ → ℕ
slot_rule tlas blases s at = cond (present_at s at) (instance_rule tlas (blas_of blases (field_at 8 s at 1)) (field_at 8 s at 2)) 0

-- Appending one instance

-- the bytes in use after it, or the cause; E is 0, 0
pub data Appending : Type 0 where
  in_use : ℕ → Appending
  refused : Cause → Appending

abbrev pub appended_of : Result ℕ BuildAccelerationStructureError → Appending
appended_of (Ok n) = in_use n
appended_of (Err e) = refused (build_cause e)

-- 6 for the Tlas, then 6, 34, 35 for the instance
unfoldable pub named_tlas_rule : List ℕ → List ℕ → TlasId → TlasInstance → ℕ
named_tlas_rule tlases blases tlas i = tlas_mention tlases tlas.0 else named_instance_rule (tlas_of tlases tlas.0) blases i

-- "Last: 39": less than 64 bytes left, or more said to be in use than is lent
abbrev pub room_rule : ℕ → ℕ → ℕ
room_rule room used = refuse (ltb room (used + 64)) 39 0

abbrev pub outcome : ℕ → ℕ → Appending
outcome zero used = in_use (used + 64)
outcome (suc n) used = refused (bare (suc n))

unfoldable pub append_rule : List ℕ → List ℕ → TlasId → TlasInstance → ℕ → ℕ → Appending
append_rule tlases blases tlas i room used = outcome (named_tlas_rule tlases blases tlas i else room_rule room used) used

-- the lent bytes after it: a refusal writes none
abbrev pub bytes_after : Appending → List ℕ → List ℕ → List ℕ
bytes_after (in_use n) new old = new
bytes_after (refused c) new old = old

unfoldable pub append_bytes : List ℕ → List ℕ → TlasId → TlasInstance → List ℕ → ℕ → List ℕ
append_bytes tlases blases tlas i instances used =
    bytes_after
    (append_rule tlases blases tlas i (length instances) used)
    (sets instances used (instance_bytes i (address_for blases i)))
    instances

-- a call of it, lent the bytes b with so many in use: it answered a, by what it says of that, and left p
pub record AppendsAs
    {A : Type 0}
    (says : Appending → A)
    (tlases blases : List ℕ)
    (tlas : TlasId)
    (i : TlasInstance)
    (b : List ℕ)
    (used : ℕ)
    (a : A)
    (p : List ℕ)
    : Type 0 where
  pub answer : a ≡ says (append_rule tlases blases tlas i (length b) used)
  pub left : p ≡ append_bytes tlases blases tlas i b used

-- it answered a itself
abbrev pub Appends : List ℕ → List ℕ → TlasId → TlasInstance → List ℕ → ℕ → Appending → List ℕ → Type 0
Appends tlases blases tlas i b used a p = AppendsAs (λ r. r) tlases blases tlas i b used a p
