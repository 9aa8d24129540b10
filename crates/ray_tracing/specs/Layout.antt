-- The sheet's layout as data, in the order and the words of the paper's part "The sheet": for each section the most records, and of
-- each field its width, whether it is used, and the values that it may have. Assumes nothing.
use Rattle.std.specs.Prelude.{ℕ, zero, suc, ◌+◌, ◌*◌, ◌/◌, Bool, true, not, ◌&&◌, ◌||◌, cond, List, [], ◌∷◌, length, get_or, take, replicate, leb, ltb, eqb}
use Rattle.ray_tracing.specs.declared.Version.{Version}
use Rattle.ray_tracing.specs.declared.Version.TheVariants as version

-- what was read before a field in its record, and in the section before
pub record Seen : Type 0 where
  -- the records of the section before, and the bytes of each
  pub before : List ℕ
  pub each : ℕ
  -- the record's kind is boxes
  pub boxes : Bool
  -- the last buffer that may be 65535, none, is
  pub none : Bool
  -- the last present byte, or the kind of an action
  pub tag : ℕ

pub record Field : Type 0 where
  -- in bytes
  pub width : ℕ
  pub used : Seen → Bool
  -- the values that it may have if it is used
  pub allowed : Seen → ℕ → Bool
  -- what is known once it is read
  pub after : Seen → ℕ → Seen

-- "Fields that a kind or an absence leaves unused are ignored"
abbrev pub fits : Field → Seen → ℕ → Bool
fits f c v = f.allowed c v || not (f.used c)

pub record Layout : Type 0 where
  pub most : ℕ
  pub fields : List Field

-- when a field is used

abbrev pub always : Seen → Bool
always c = true

abbrev pub triangles : Seen → Bool
triangles c = not c.boxes

-- with the buffer before it
abbrev pub with_buffer : (Seen → Bool) → Seen → Bool
with_buffer u c = u c && not c.none

-- behind a present byte
abbrev pub present : (Seen → Bool) → Seen → Bool
present u c = u c && not (eqb c.tag 0)

-- "kind 1's operand" is not used: the recorded build has none
abbrev pub with_operand : Seen → Bool
with_operand c = not (eqb c.tag 1)

-- the values that a field may have

abbrev pub any : Seen → ℕ → Bool
any c v = true

abbrev pub up_to : ℕ → Seen → ℕ → Bool
up_to n c v = leb v n

-- "Present and destroyed bytes are 0 or 1"
abbrev pub bit : Seen → ℕ → Bool
bit = up_to 1

abbrev pub zero_or : ℕ → Seen → ℕ → Bool
zero_or n c v = eqb v 0 || eqb v n

abbrev pub one_to : ℕ → Seen → ℕ → Bool
one_to n c v = ltb 0 v && leb v n

-- "either alignment 0" is refused
abbrev pub positive : Seen → ℕ → Bool
positive c v = ltb 0 v

-- "a section 3 number outside section 2" is refused
abbrev pub inside : Seen → ℕ → Bool
inside c v = ltb v (length c.before / c.each)

-- "Only index and transform buffers may be 65535, none"
abbrev pub not_none : Seen → ℕ → Bool
not_none c v = not (eqb v 65535)

-- what a field tells of those after it

-- a declared geometry's kind is its Blas's, whose first byte it is
abbrev pub kind_known : Seen → ℕ → Seen
kind_known c v =
    record {
      before = c.before;
      each = c.each;
      boxes = eqb (get_or c.before (v * c.each) 0) 1;
      none = c.none;
      tag = c.tag;
    }

abbrev pub none_known : Seen → ℕ → Seen
none_known c v = record { before = c.before; each = c.each; boxes = c.boxes; none = eqb v 65535; tag = c.tag }

abbrev pub tag_known : Seen → ℕ → Seen
tag_known c v = record { before = c.before; each = c.each; boxes = c.boxes; none = c.none; tag = v }

-- fields by their width in bits, and what else is said of one

abbrev pub wide : ℕ → (Seen → Bool) → (Seen → ℕ → Bool) → Field
wide w u a = record { width = w; used = u; allowed = a; after = λ c v. c }

abbrev pub u8 : (Seen → Bool) → (Seen → ℕ → Bool) → Field
u8 = wide 1

abbrev pub u16 : (Seen → Bool) → (Seen → ℕ → Bool) → Field
u16 = wide 2

abbrev pub u32 : (Seen → Bool) → (Seen → ℕ → Bool) → Field
u32 = wide 4

abbrev pub u64 : (Seen → Bool) → (Seen → ℕ → Bool) → Field
u64 = wide 8

abbrev pub telling : (Seen → ℕ → Seen) → Field → Field
telling t f = record { width = f.width; used = f.used; allowed = f.allowed; after = t }

abbrev pub buffer_or_none : Field
buffer_or_none = telling none_known (u16 triangles any)

abbrev pub present_byte : (Seen → Bool) → Field
present_byte u = telling tag_known (u8 u bit)

-- "Little-endian. Version byte 1", and 2 of version 2
abbrev pub version_number : Version → ℕ
version_number version.One = 1
version_number version.Two = 2

-- "scratch alignment u32, counter u64": what follows the version byte
abbrev pub header : Layout
header = record { most = 1; fields = u32 always positive ∷ u64 always any ∷ [] }

-- "1. Buffers: size u64, marks u8 (1 BLAS_INPUT, 2 destroyed)"
abbrev pub buffers : Layout
buffers = record { most = 256; fields = u64 always any ∷ u8 always (up_to 3) ∷ [] }

-- "2. Blases: kind u8 (0 triangles, 1 boxes), flags u8 (1 USE_TRANSFORM, 2 ALLOW_RAY_HIT_VERTEX_RETURN, 4 ALLOW_COMPACTION), state u8
-- (0 Idle, 1 Waiting, 2 Ready, 3 Compacted), destroyed u8, scratch u64, address u64, number u64 (0 none)"
abbrev pub blases : Layout
blases =
    record {
      most = 128;
      fields =
          u8 always bit
          ∷ u8 always (up_to 7)
          ∷ u8 always (up_to 3)
          ∷ u8 always bit
          ∷ u64 always any
          ∷ u64 always any
          ∷ u64 always any
          ∷ [];
    }

-- "3. Declared geometries: Blas u16, flags u8, vertex or box count u32, vertex format u8, least stride u16, stride alignment u16, index
-- format u8 (0 none, 1 two-byte, 2 four-byte), present u8, index count u32"
abbrev pub declared_geometries : Layout
declared_geometries =
    record {
      most = 512;
      fields =
          telling kind_known (u16 always inside)
          ∷ u8 always any
          ∷ u32 always any
          ∷ u8 triangles any
          ∷ u16 triangles any
          ∷ u16 triangles positive
          ∷ u8 triangles (up_to 2)
          ∷ present_byte triangles
          ∷ u32 (present triangles) any
          ∷ [];
    }

-- "4. Tlases: flags u8 (2 only), destroyed u8, scratch u64, most instances u32, number u64"
abbrev pub tlases : Layout
tlases =
    record {
      most = 32;
      fields = u8 always (zero_or 2) ∷ u8 always bit ∷ u64 always any ∷ u32 always any ∷ u64 always any ∷ [];
    }

-- "5. Entries: Blas u16, kind u8, geometry count u16, drawn in turn from section 6"
abbrev pub entries : Layout
entries = record { most = 64; fields = u16 always any ∷ u8 always bit ∷ u16 always any ∷ [] }

-- "first vertex or primitive offset u32"; "version 2 of the sheet has the primitive offset as u64"
abbrev pub offset_width : Version → ℕ
offset_width version.One = 4
offset_width version.Two = 8

-- "6. Geometries: flags u8, count u32, first vertex or primitive offset u32, stride u64, buffer u16, vertex format u8, index format u8,
-- index buffer u16, present u8, index count u32, present u8, first index u32, transform buffer u16, present u8, transform offset u64"
abbrev pub geometries : Version → Layout
geometries v =
    record {
      most = 256;
      fields =
          u8 always any
          ∷ u32 always any
          ∷ wide (offset_width v) always any
          ∷ u64 always any
          ∷ u16 always not_none
          ∷ u8 triangles any
          ∷ u8 triangles (up_to 2)
          ∷ buffer_or_none
          ∷ present_byte triangles
          ∷ u32 (present triangles) any
          ∷ present_byte (with_buffer triangles)
          ∷ u32 (present (with_buffer triangles)) any
          ∷ buffer_or_none
          ∷ present_byte (with_buffer triangles)
          ∷ u64 (present (with_buffer triangles)) any
          ∷ [];
    }

-- "7. Packages: Tlas u16, slot count u16, drawn from section 8"
abbrev pub packages : Layout
packages = record { most = 32; fields = u16 always any ∷ u16 always any ∷ [] }

-- "8. Slots: present u8, Blas u16, custom data u32, mask u8, twelve f32, each a field"
abbrev pub slots : Layout
slots =
    record {
      most = 512;
      fields =
          present_byte always
          ∷ u16 (present always) any
          ∷ u32 (present always) any
          ∷ u8 (present always) any
          ∷ replicate 12 (u32 (present always) any);
    }

-- "9. Actions: kind u8, operand u16: 1 the recorded build, 2 use of a Tlas, 3 mark of one Blas, 4 mark of one Tlas"
abbrev pub actions : Layout
actions =
    record { most = 64; fields = telling tag_known (u8 always (one_to 4)) ∷ u16 with_operand any ∷ [] }

-- the sections of version 1 by number; the header stands as section 0
abbrev pub layout : ℕ → Layout
layout k =
    get_or
    (header
    ∷ buffers
    ∷ blases
    ∷ declared_geometries
    ∷ tlases
    ∷ entries
    ∷ geometries version.One
    ∷ packages
    ∷ slots
    ∷ actions
    ∷ [])
    k
    header

-- those of a version: "all else the same"
abbrev pub layout_in : Version → ℕ → Layout
layout_in v k = cond (eqb k 6) (geometries v) (layout k)

-- a record's bytes

abbrev pub total : List Field → ℕ
total [] = 0
total (f ∷ fs) = f.width + total fs

abbrev pub size : ℕ → ℕ
size k = total (layout k).fields

-- of a section of a version
abbrev pub size_in : Version → ℕ → ℕ
size_in v k = total (layout_in v k).fields

-- where field j stands in a record at a place, and its width
abbrev pub place_of : List Field → ℕ → ℕ → ℕ
place_of fs at zero = at
place_of fs at (suc j) = at + total (take (suc j) fs)

abbrev pub width_of : List Field → ℕ → ℕ
width_of [] j = 0
width_of (f ∷ fs) zero = f.width
width_of (f ∷ fs) (suc j) = width_of fs j
