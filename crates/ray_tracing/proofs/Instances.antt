-- Laws of the instance's bytes: they are VkAccelerationStructureInstanceKHR's 64, and those of a transform that was read are the bytes
-- that it was read from, whatever their patterns; and laws of what slots write.
use mathlib.Core.Path.{◌≡◌, refl, sym, ap, ◌∙◌}
use mathlib.Core.Bool.{Bool, true, false, cond}
use mathlib.Core.List.{List, [], ◌∷◌, ◌++◌, map, append_assoc, append-nil}
use Prim.Native.Nat.{ℕ, zero, suc, ◌+◌, ◌-◌, ◌*◌, ◌/◌, ◌%◌, ◌^◌, ◌≤◌, ◌<◌}
use native.Mathlib.Nat.{add-zero, add_comm, mul_comm, mod-lt, mod-eq_of_lt, one-le-pow, zero-lt-suc, add-suc, add_assoc, le_of_suc-le-suc, not-suc-le-zero}
use native.Mathlib.Numerals.{add-one}
use native.Mathlib.Omega.{arith}
use lib.Arith.{digits_div, digits_mod}
use lib.ListN.{length, take, drop, get_or, length-append, length-map, get_or-map}
use lib.Seq.{take_at, take-add, drop-drop}
use lib.Ieee.{Float, nan, binary32, of_bits}
use borrow.Author.Tests.{eq-eqb, ne_eqb, leb-false}
use Rattle.wire.specs.Wire.{le_at, le_bytes}
use Rattle.wire.proofs.Laws.{length-le_bytes, le_bytes_split, le_bytes_low, le_bytes-at, le_below}
use Rattle.wire.proofs.Laws as wire
use Rattle.ray_tracing.specs.declared.Blas.{Blas}
use Rattle.ray_tracing.specs.declared.Tlas.{Tlas}
use Rattle.ray_tracing.specs.declared.TlasInstance.{TlasInstance}
use Rattle.ray_tracing.specs.Guard.{refuse}
use Rattle.ray_tracing.specs.Layout.{size}
use Rattle.ray_tracing.specs.Records.{field_at}
use Rattle.ray_tracing.specs.Mentions.{blas_mention, blas_of}
use Rattle.ray_tracing.specs.Instances.{nan_of, bits_of, patterns, words, instance_bytes, VkAccelerationStructureInstanceKHR, vk_instance, vk_bytes, words_at, instance_from, instance_at, present_at, address_for, slot_bytes, slots_bytes, present_of, instance_rule, named_instance_rule}
use Rattle.ray_tracing.proofs.Mentions.{mention-inside, else_zero}
use Rattle.ray_tracing.proofs.Numbers.{bits_back}

-- ---- u32s end to end

pub length-words_at : (n : ℕ) (s : List ℕ) (at : ℕ) → length (words_at n s at) ≡ n
unfolding words_at
length-words_at zero s at = refl
length-words_at (suc n) s at = ap suc (length-words_at n s (at + 4))

pub get_or-words_at : (n : ℕ) (s : List ℕ) (at k d : ℕ) → k < n → get_or (words_at n s at) k d ≡ le_at 4 s (at + 4 * k)
unfolding words_at
get_or-words_at zero s at k d h = absurd (not-suc-le-zero h)
get_or-words_at (suc n) s at zero d h = ap (le_at 4 s) (sym (add-zero at))
get_or-words_at (suc n) s at (suc k) d h = get_or-words_at n s (at + 4) k d (le_of_suc-le-suc h) ∙ ap (le_at 4 s) (step at k)
  where
    step : (at k : ℕ) → at + 4 + 4 * k ≡ at + 4 * suc k
    step at k = omega arith

pub map-words : {A : Type 0} (f : ℕ → A) (n : ℕ) (s : List ℕ) (at k : ℕ) → k < n → get_or (map f (words_at n s at)) k (f 0) ≡ f (le_at 4 s (at + 4 * k))
map-words f n s at k h = get_or-map f (words_at n s at) k 0 ∙ ap f (get_or-words_at n s at k 0 h)

pub length-words : (ws : List ℕ) → length (words ws) ≡ 4 * length ws
unfolding words
length-words [] = refl
length-words (w ∷ ws) = length-append (le_bytes 4 w) (words ws) ∙ omega (arith, length-le_bytes 4 w, length-words ws)

pub words_snoc : (ws : List ℕ) (w : ℕ) → words (ws ++ (w ∷ [])) ≡ words ws ++ le_bytes 4 w
unfolding words
words_snoc [] w = append-nil (le_bytes 4 w)
words_snoc (v ∷ ws) w = ap (λ (r : List ℕ). le_bytes 4 v ++ r) (words_snoc ws w) ∙ sym (append_assoc (le_bytes 4 v) (words ws) (le_bytes 4 w))

-- ---- the patterns of a transform

pub length-patterns : (xs : List Float) (ns : List ℕ) → length xs ≡ length ns → length (patterns xs ns) ≡ length xs
unfolding patterns
length-patterns [] ns e = refl
length-patterns (x ∷ xs) [] e = sym e
length-patterns (x ∷ xs) (n ∷ ns) e = ap suc (length-patterns xs ns (omega arith))

pub get_or-patterns : (xs : List Float) (ns : List ℕ) (k d : ℕ) → k < length xs → k < length ns → get_or (patterns xs ns) k d ≡ bits_of (get_or xs k nan) (get_or ns k 0)
unfolding patterns
get_or-patterns [] ns k d h g = absurd (not-suc-le-zero h)
get_or-patterns (x ∷ xs) [] k d h g = absurd (not-suc-le-zero g)
get_or-patterns (x ∷ xs) (n ∷ ns) zero d h g = refl
get_or-patterns (x ∷ xs) (n ∷ ns) (suc k) d h g = get_or-patterns xs ns k d (le_of_suc-le-suc h) (le_of_suc-le-suc g)

pub transform-length : (xs : List Float) (ns : List ℕ) → length xs ≡ 12 → length ns ≡ 12 → length (words (patterns xs ns)) ≡ 48
transform-length xs ns h g = omega (arith, length-words (patterns xs ns), length-patterns xs ns (omega arith))

-- ---- how many bytes, and that each is one

abbrev pub Below : List ℕ → Type 0
Below s = (k : ℕ) → get_or s k 0 < 256

below-append : (xs ys : List ℕ) → Below xs → Below ys → Below (xs ++ ys)
below-append [] ys h g k = g k
below-append (x ∷ xs) ys h g zero = h zero
below-append (x ∷ xs) ys h g (suc k) = below-append xs ys (λ j. h (suc j)) g k

below-words : (ws : List ℕ) → Below (words ws)
unfolding words
below-words [] k = omega arith
below-words (w ∷ ws) k = below-append (le_bytes 4 w) (words ws) (wire.bytes_below 4 w) (below-words ws) k

module _ (i : TlasInstance) (address : ℕ) where
  pub bytes_below : Below (instance_bytes i address)
  unfolding instance_bytes
  bytes_below =
      let custom = i.custom_data + 2 ^ 24 * i.mask in
      let tail = le_bytes 4 0 ++ le_bytes 8 address in
      let ps = patterns i.transform i.nan_bits in
      below-append (words ps) (le_bytes 4 custom ++ tail) (below-words ps)
      (below-append (le_bytes 4 custom) tail (wire.bytes_below 4 custom)
      (below-append (le_bytes 4 0) (le_bytes 8 address) (wire.bytes_below 4 0) (wire.bytes_below 8 address)))

  module _ (h : length i.transform ≡ 12) (g : length i.nan_bits ≡ 12) where
    pub bytes-length : length (instance_bytes i address) ≡ 64
    unfolding instance_bytes
    bytes-length = simp (length-append, length-le_bytes, transform-length i.transform i.nan_bits h g)

-- ---- VkAccelerationStructureInstanceKHR

-- a field of whole bytes, and what stands above it
field-bytes : (a b v r : ℕ) → le_bytes (a + b) (v % 256 ^ a + 256 ^ a * r) ≡ le_bytes a v ++ le_bytes b r
field-bytes a b v r =
    let B = 256 ^ a in
    let l : v % B < B = mod-lt v (one-le-pow a 256 (zero-lt-suc 255)) in
    let e : v % B + B * r ≡ r * B + v % B = add_comm (v % B) (B * r) ∙ ap (λ (x : ℕ). x + v % B) (mul_comm B r) in
    ap (le_bytes (a + b)) e
    ∙ le_bytes_split a b (r * B + v % B)
    ∙ ap (λ (x : ℕ). le_bytes a (r * B + v % B) ++ le_bytes b x) (digits_div r l)
    ∙ ap (λ (x : List ℕ). x ++ le_bytes b r)
    (sym (le_bytes_low a (r * B + v % B)) ∙ ap (le_bytes a) (digits_mod r l) ∙ le_bytes_low a v)

-- a list by its elements
abbrev elements : ℕ → (ℕ → ℕ) → List ℕ
elements zero f = []
elements (suc n) f = f 0 ∷ elements n (λ k. f (suc k))

by_elements : (l : List ℕ) → l ≡ elements (length l) (λ k. get_or l k 0)
by_elements [] = refl
by_elements (x ∷ l) = ap (λ (t : List ℕ). x ∷ t) (by_elements l)

-- with what stands above it known
then_field : (a b v r : ℕ) {t : List ℕ} → le_bytes b r ≡ t → le_bytes (a + b) (v % 256 ^ a + 256 ^ a * r) ≡ le_bytes a v ++ t
then_field a b v r e = field-bytes a b v r ∙ ap (λ (t : List ℕ). le_bytes a v ++ t) e

zero_bytes : (address : ℕ) → le_bytes 4 0 ++ le_bytes 8 address ≡ le_bytes 3 0 ++ (le_bytes 1 0 ++ (le_bytes 8 address ++ le_bytes 0 0))
unfolding le_bytes
zero_bytes address = rw append-nil

module _ (v : VkAccelerationStructureInstanceKHR) where
  vk_fields : vk_bytes v ≡ words (elements 12 (λ k. v.matrix (k / 4) (k % 4))) ++ (le_bytes 3 v.instance_custom_index ++ (le_bytes 1 v.mask ++ (le_bytes 3 v.instance_shader_binding_table_record_offset ++ (le_bytes 1 v.flags ++ (le_bytes 8 v.acceleration_structure_reference ++ le_bytes 0 0)))))
  unfolding vk_bytes words
  vk_fields =
      let m = v.matrix in
      then_field 4 60 (m 0 0) _ (then_field 4 56 (m 0 1) _ (then_field 4 52 (m 0 2) _ (then_field 4 48 (m 0 3) _
      (then_field 4 44 (m 1 0) _ (then_field 4 40 (m 1 1) _ (then_field 4 36 (m 1 2) _ (then_field 4 32 (m 1 3) _
      (then_field 4 28 (m 2 0) _ (then_field 4 24 (m 2 1) _ (then_field 4 20 (m 2 2) _ (then_field 4 16 (m 2 3) _
      (then_field 3 13 v.instance_custom_index _ (then_field 1 12 v.mask _
      (then_field 3 9 v.instance_shader_binding_table_record_offset _ (then_field 1 8 v.flags _
      (then_field 8 0 v.acceleration_structure_reference 0 refl))))))))))))))))
      ∙ simp append_assoc

-- custom data of 24 bits, and the mask above
custom_bytes : (custom mask : ℕ) → custom < 2 ^ 24 → le_bytes 4 (custom + 2 ^ 24 * mask) ≡ le_bytes 3 custom ++ le_bytes 1 mask
custom_bytes custom mask h = ap (λ (x : ℕ). le_bytes 4 (x + 2 ^ 24 * mask)) (sym (mod-eq_of_lt h)) ∙ field-bytes 3 1 custom mask

module _ (i : TlasInstance) (address : ℕ) (h : length i.transform ≡ 12) (g : length i.nan_bits ≡ 12) where
  -- the paper's bytes are VkAccelerationStructureInstanceKHR's
  pub vk-bytes : i.custom_data < 2 ^ 24 → instance_bytes i address ≡ vk_bytes (vk_instance i address)
  unfolding instance_bytes
  vk-bytes narrow =
      let ps = patterns i.transform i.nan_bits in
      let custom = i.custom_data in
      let twelve : length ps ≡ 12 = length-patterns i.transform i.nan_bits (omega arith) ∙ h in
      let matrix : ps ≡ elements 12 (λ k. get_or ps k 0) = by_elements ps ∙ ap (λ (n : ℕ). elements n (λ k. get_or ps k 0)) twelve in
      (λ j. words (matrix j) ++ (custom_bytes custom i.mask narrow j ++ zero_bytes address j))
      ∙ ap (λ (t : List ℕ). words (elements 12 (λ k. get_or ps k 0)) ++ t) (append_assoc (le_bytes 3 custom) (le_bytes 1 i.mask) _)
      ∙ sym (vk_fields (vk_instance i address))

-- ---- a transform that was read

-- each number is below 2 ^ 32
abbrev pub Small : List ℕ → Type 0
Small [] = Unit
Small (w ∷ ws) = (w < 2 ^ 32) × Small ws

pub small-words : (n : ℕ) (s : List ℕ) (at : ℕ) → Below s → Small (words_at n s at)
unfolding words_at
small-words zero s at b = tt
small-words (suc n) s at b = (le_below 4 s at b, small-words n s (at + 4) b)

-- every pattern, read and written, is itself
pub patterns_back : (ws : List ℕ) → Small ws → patterns (map (of_bits binary32) ws) (map nan_of ws) ≡ ws
unfolding patterns
patterns_back [] h = refl
patterns_back (w ∷ ws) h =
    ap (λ (x : ℕ). x ∷ patterns (map (of_bits binary32) ws) (map nan_of ws)) (bits_back w h.0) ∙ ap (λ (r : List ℕ). w ∷ r) (patterns_back ws h.1)

pub words_back : (n : ℕ) (s : List ℕ) (at : ℕ) → Below s → at + 4 * n ≤ length s → words (words_at n s at) ≡ take (4 * n) (drop at s)
unfolding words words_at
words_back zero s at b h = refl
words_back (suc n) s at b h =
    ap (λ (r : List ℕ). r ++ words (words_at n s (at + 4))) (le_bytes-at 4 s at b (omega arith))
    ∙ ap (λ (r : List ℕ). take 4 (drop at s) ++ r) (words_back n s (at + 4) b (omega arith) ∙ ap (take (4 * n)) (sym (drop-drop 4 at s)))
    ∙ sym (take-add 4 (4 * n) (drop at s))
    ∙ ap (λ (k : ℕ). take k (drop at s)) four
  where
    four : 4 + 4 * n ≡ 4 * suc n
    four = omega arith

module _ (s : List ℕ) (at : ℕ) where
  pub from_lengths : (length (instance_from s at).transform ≡ 12) × (length (instance_from s at).nan_bits ≡ 12)
  unfolding instance_from
  from_lengths =
      let ws = words_at 12 s (at + 7) in
      (length-map ws (of_bits binary32) ∙ length-words_at 12 s (at + 7), length-map ws nan_of ∙ length-words_at 12 s (at + 7))

  pub from-length : (address : ℕ) → length (instance_bytes (instance_from s at) address) ≡ 64
  from-length address = bytes-length (instance_from s at) address from_lengths.0 from_lengths.1

  -- the patterns of an instance that was read are those that it was read from
  pub patterns-read : Below s → patterns (instance_from s at).transform (instance_from s at).nan_bits ≡ words_at 12 s (at + 7)
  unfolding instance_from
  patterns-read b = patterns_back (words_at 12 s (at + 7)) (small-words 12 s (at + 7) b)

  -- the first 48 bytes of the record of an instance that was read are the 48 that its numbers were read from
  pub transform_back : (address : ℕ) → Below s → at + 55 ≤ length s → take 48 (instance_bytes (instance_from s at) address) ≡ take 48 (drop (at + 7) s)
  unfolding instance_bytes
  transform_back address b h =
      let xs = (instance_from s at).transform in
      let ns = (instance_from s at).nan_bits in
      take_at (words (patterns xs ns)) _ 48 (transform-length xs ns from_lengths.0 from_lengths.1)
      ∙ ap words (patterns-read b)
      ∙ words_back 12 s (at + 7) b (omega arith)

-- ---- slots

module _ (s : List ℕ) (at : ℕ) where
  -- the fields of a slot's instance are the layout's

  pub slot-blas : (instance_at s at).blas.0 ≡ field_at 8 s at 1
  unfolding instance_from
  slot-blas = refl

  pub slot_custom : (instance_at s at).custom_data ≡ field_at 8 s at 2
  unfolding instance_from
  slot_custom = ap (le_at 4 s) (add_assoc at 1 2)

  module _ (blases : List ℕ) where
    pub slot-none : field_at 8 s at 0 ≡ 0 → slot_bytes blases s at ≡ []
    unfolding slot_bytes
    slot-none e = rw (eq-eqb (field_at 8 s at 0) 0 e)

    pub slot-some : (field_at 8 s at 0 ≡ 0 → ⊥) → slot_bytes blases s at ≡ instance_bytes (instance_at s at) (address_for blases (instance_at s at))
    unfolding slot_bytes
    slot-some h = rw (ne_eqb (field_at 8 s at 0) 0 h)

    pub slot-some-length : (field_at 8 s at 0 ≡ 0 → ⊥) → length (slot_bytes blases s at) ≡ 64
    slot-some-length h = ap length (slot-some h) ∙ from-length s (at + 1) (address_for blases (instance_at s at))

    pub slot-length : length (slot_bytes blases s at) ≡ 64 * cond (present_at s at) 1 0
    unfolding slot_bytes
    slot-length = go (present_at s at)
      where
        go : (b : Bool) → length (cond b (instance_bytes (instance_at s at) (address_for blases (instance_at s at))) []) ≡ 64 * cond b 1 0
        go true = from-length s (at + 1) (address_for blases (instance_at s at))
        go false = refl

-- ---- runs of slots

at_most_one : (b : Bool) → cond b 1 0 ≤ 1
at_most_one true = omega arith
at_most_one false = omega arith

module _ (s : List ℕ) (a : ℕ) where
  pub present_bound : (n : ℕ) → present_of s a n ≤ n
  unfolding present_of
  present_bound zero = omega arith
  present_bound (suc n) = omega (arith, present_bound n, at_most_one (present_at s ((a + n) * 56)))

  pub present-append : (m n : ℕ) → present_of s a (m + n) ≡ present_of s a m + present_of s (a + m) n
  unfolding present_of
  present-append m zero = ap (present_of s a) (add-zero m) ∙ sym (add-zero (present_of s a m))
  present-append m (suc n) =
      ap (present_of s a) (add-suc m n)
      ∙ ap (λ (x : ℕ). x + cond (present_at s ((a + (m + n)) * 56)) 1 0) (present-append m n)
      ∙ ap (λ (k : ℕ). present_of s a m + present_of s (a + m) n + cond (present_at s (k * 56)) 1 0) (sym (add_assoc a m n))
      ∙ add_assoc (present_of s a m) (present_of s (a + m) n) (cond (present_at s ((a + m + n) * 56)) 1 0)

  pub present_mono : (m n : ℕ) → m ≤ n → present_of s a m ≤ present_of s a n
  present_mono m n h =
      let e : m + (n - m) ≡ n = omega arith in
      omega (arith, present-append m (n - m), ap (present_of s a) e)

module _ (blases s : List ℕ) (a : ℕ) where
  pub slots_length : (n : ℕ) → length (slots_bytes blases s a n) ≡ 64 * present_of s a n
  unfolding slots_bytes present_of
  slots_length zero = refl
  slots_length (suc n) =
      length-append (slots_bytes blases s a n) (slot_bytes blases s ((a + n) * 56))
      ∙ omega (arith, slots_length n, slot-length s ((a + n) * 56) blases)

  pub slots-append : (m n : ℕ) → slots_bytes blases s a (m + n) ≡ slots_bytes blases s a m ++ slots_bytes blases s (a + m) n
  unfolding slots_bytes
  slots-append m zero = ap (slots_bytes blases s a) (add-zero m) ∙ sym (append-nil (slots_bytes blases s a m))
  slots-append m (suc n) =
      ap (slots_bytes blases s a) (add-suc m n)
      ∙ ap (λ (x : List ℕ). x ++ slot_bytes blases s ((a + (m + n)) * 56)) (slots-append m n)
      ∙ ap (λ (k : ℕ). (slots_bytes blases s a m ++ slots_bytes blases s (a + m) n) ++ slot_bytes blases s (k * 56)) (sym (add_assoc a m n))
      ∙ append_assoc (slots_bytes blases s a m) (slots_bytes blases s (a + m) n) (slot_bytes blases s ((a + m + n) * 56))

  -- one slot more, as a loop counts
  pub slots_more : (n : ℕ) → slots_bytes blases s a (n + 1) ≡ slots_bytes blases s a n ++ slot_bytes blases s ((a + n) * 56)
  unfolding slots_bytes
  slots_more n = ap (slots_bytes blases s a) (add-one n)

  pub present_more : (n : ℕ) → 64 * present_of s a (n + 1) ≡ 64 * present_of s a n + length (slot_bytes blases s ((a + n) * 56))
  present_more n =
      omega
      (arith, slots_length (n + 1), slots_length n, ap length (slots_more n), length-append (slots_bytes blases s a n) (slot_bytes blases s ((a + n) * 56)))

-- ---- what was judged may be written

first-none : (t u : Bool) → ◌≡◌ {A = ℕ} (refuse t 34 (refuse u 35 0)) 0 → t ≡ false
unfolding refuse
first-none false u e = refl
first-none true u e = let z : ◌≡◌ {A = ℕ} 34 0 = e in absurd (omega arith)

module _ (tlas : Tlas) where
  pub rule-narrow : (blas : Blas) (custom : ℕ) → instance_rule tlas blas custom ≡ 0 → custom < 2 ^ 24
  rule-narrow blas custom e = leb-false (2 ^ 24) custom (first-none _ _ e)

  pub inside-narrow :
      (blases : List ℕ) (i : TlasInstance)
      → named_instance_rule tlas blases i ≡ 0
      → (i.blas.0 < length blases / size 2) × (i.custom_data < 2 ^ 24)
  inside-narrow blases i e =
      let both = else_zero (blas_mention blases i.blas.0) _ e in
      (mention-inside (size 2) blases i.blas.0 both.0, rule-narrow (blas_of blases i.blas.0) i.custom_data both.1)
