-- Instances read back: "Add a reader from VK_KHR_acceleration_structure's 64-byte records to instances, finding the Blas by its address."
-- Assumes nothing.
use Rattle.std.specs.Prelude.{ℕ, zero, suc, ◌+◌, ◌*◌, ◌/◌, ◌%◌, ◌^◌, ◌≡◌, Bool, true, false, cond, List, [], ◌∷◌, ◌++◌, map, length, ltb, eqb, Result, Ok, Err}
use Rattle.std.proofs.Math.Option.{Option, none, some}
use Rattle.std.proofs.lemmas.List.Edits.{sets}
use Rattle.std.specs.Float.{binary32}
use Rattle.std.specs.Float.Ieee.{of_bits}
use Rattle.wire.specs.Wire.{le_at, le_bytes}
use Rattle.ray_tracing.specs.declared.BlasId.{BlasId}
use Rattle.ray_tracing.specs.declared.TlasInstance.{TlasInstance}
use Rattle.ray_tracing.specs.declared.ReadInstancesRefusal.{ReadInstancesRefusal}
use Rattle.ray_tracing.specs.Guard.{refuse, neb}
use Rattle.ray_tracing.specs.Layout.{size, width_of}
use Rattle.ray_tracing.specs.Causes.{bare, instances_number}
use Rattle.ray_tracing.specs.Mentions.{blas_of}
use Rattle.ray_tracing.specs.Instances.{nan_of, patterns, words, words_at, instance_fields}
use Rattle.ray_tracing.specs.Plan as plan
use Rattle.ray_tracing.specs.Plan.{Verdict, passed, on, ◌or◌, at_e, first_of}
use Rattle.ray_tracing.specs.AppendMany.{lent_size}

-- "finding the Blas by its address"

-- which of the first n Blases have an address
unfoldable pub standing_among : List ℕ → ℕ → ℕ → List ℕ
standing_among blases address zero = []
standing_among blases address (suc n) =
    standing_among blases address n ++ cond (eqb (blas_of blases n).handle address) (n ∷ []) []

-- of the whole table
abbrev pub standing_in : List ℕ → ℕ → List ℕ
standing_in blases address = standing_among blases address (length blases / size 2)

-- the one, if an id can name it; none for "no Blas or several"
abbrev pub only_one : List ℕ → Option ℕ
only_one [] = none
only_one (k ∷ []) = cond (ltb k (2 ^ 16)) (some k) none
only_one (k ∷ j ∷ l) = none

unfoldable pub blas_with : List ℕ → ℕ → Option ℕ
blas_with blases address = only_one (standing_in blases address)

-- "64-byte records": VkAccelerationStructureInstanceKHR's fields at a place, where the writer puts them

abbrev pub record_size : ℕ
record_size = 64

-- how many whole ones there are
abbrev pub record_count : List ℕ → ℕ
record_count records = length records / record_size

-- custom data in the low 24 bits with the mask above
abbrev pub custom_and_mask : List ℕ → ℕ → ℕ
custom_and_mask s at = le_at 4 s (at + 48)

-- "the u32 that the writer leaves zero"
abbrev pub zero_word : List ℕ → ℕ → ℕ
zero_word s at = le_at 4 s (at + 52)

abbrev pub address_in : List ℕ → ℕ → ℕ
address_in s at = le_at 8 s (at + 56)

-- "to instances": of a Blas, "down to the bits of each number"
unfoldable pub record_instance : List ℕ → ℕ → BlasId → TlasInstance
record_instance s at blas =
    record {
      transform = map (of_bits binary32) (words_at 12 s at);
      nan_bits = map nan_of (words_at 12 s at);
      custom_data = custom_and_mask s at % 2 ^ 24;
      mask = custom_and_mask s at / 2 ^ 24;
      blas = blas;
    }

-- no instance of no Blas is handed out
abbrev pub id_or0 : Option ℕ → BlasId
id_or0 none = record { 0 = 0 }
id_or0 (some k) = record { 0 = k }

-- the k-th
abbrev pub read_instance : List ℕ → List ℕ → ℕ → TlasInstance
read_instance records blases k =
    record_instance records (k * record_size) (id_or0 (blas_with blases (address_in records (k * record_size))))

-- What is handed out

-- an instance as it is lent to be appended: Blas, custom data, mask, twelve numbers
unfoldable pub lent_bytes : TlasInstance → List ℕ
lent_bytes i =
    le_bytes (width_of instance_fields 0) i.blas.0
    ++ (le_bytes (width_of instance_fields 1) i.custom_data
    ++ (le_bytes (width_of instance_fields 2) i.mask ++ words (patterns i.transform i.nan_bits)))

-- of the first n records, one after the other
unfoldable pub items_bytes : List ℕ → List ℕ → ℕ → List ℕ
items_bytes records blases zero = []
items_bytes records blases (suc n) = items_bytes records blases n ++ lent_bytes (read_instance records blases n)

-- What is refused

abbrev pub is_none : Option ℕ → Bool
is_none none = true
is_none (some k) = false

-- "per record 49 where the u32 that the writer leaves zero holds something else; 50 for an address of no Blas or of several; both with
-- the record"
abbrev pub judge_record : List ℕ → List ℕ → ℕ → Verdict
judge_record records blases k =
    at_e k 0
    (refuse (neb (zero_word records (k * record_size)) 0) 49
    (refuse (is_none (blas_with blases (address_in records (k * record_size)))) 50 0))

-- "48 for a length not in 64s, before all; then per record"; "39 last"
unfoldable pub judge_read : List ℕ → List ℕ → ℕ → Verdict
judge_read records blases room =
    on (neb (length records % record_size) 0) (plan.refused 0 0 (bare 48))
    or first_of (judge_record records blases) 0 (record_count records)
    or on (ltb room (lent_size * record_count records)) (plan.refused 0 0 (bare 39))

-- A call

-- how many bytes were written; or the number and E
pub data ReadingInstances : Type 0 where
  all_read : ℕ → ReadingInstances
  none_read : ℕ → ℕ → ℕ → ReadingInstances

abbrev pub instances_read_of : Result ℕ ReadInstancesRefusal → ReadingInstances
instances_read_of (Ok n) = all_read n
instances_read_of (Err r) = none_read (instances_number r.error) r.index 0

abbrev pub read_outcome : Verdict → ℕ → ReadingInstances
read_outcome passed n = all_read n
read_outcome (plan.refused e f c) n = none_read c.number e f

unfoldable pub read_instances_rule : List ℕ → List ℕ → ℕ → ReadingInstances
read_instances_rule records blases room = read_outcome (judge_read records blases room) (lent_size * record_count records)

-- "nothing handed out": the lent bytes after it
abbrev pub read_after : ReadingInstances → List ℕ → List ℕ → List ℕ
read_after (all_read n) new old = new
read_after (none_read n e f) new old = old

unfoldable pub read_instances_bytes : List ℕ → List ℕ → List ℕ → List ℕ
read_instances_bytes records blases items =
    read_after
    (read_instances_rule records blases (length items))
    (sets items 0 (items_bytes records blases (record_count records)))
    items

-- a call of it, lent the bytes b: it answered a, by what it says of that, and left p
pub record ReadsInstancesAs
    {A : Type 0}
    (says : ReadingInstances → A)
    (records blases b : List ℕ)
    (a : A)
    (p : List ℕ)
    : Type 0 where
  pub answer : a ≡ says (read_instances_rule records blases (length b))
  pub left : p ≡ read_instances_bytes records blases b

-- it answered a itself
abbrev pub ReadsInstances : List ℕ → List ℕ → List ℕ → ReadingInstances → List ℕ → Type 0
ReadsInstances records blases b a p = ReadsInstancesAs (λ r. r) records blases b a p
