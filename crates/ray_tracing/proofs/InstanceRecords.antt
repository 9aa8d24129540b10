-- An instance as a 64-byte record, and as it is lent in 55 bytes: each is the other's, byte for byte, whatever the patterns of its numbers.
use Prim.Native.Nat.{ℕ, zero, suc, ◌+◌, ◌*◌, ◌/◌, ◌%◌, ◌^◌, ◌≤◌, ◌<◌}
use native.Mathlib.Nat.{add-zero, add_assoc, mod-add-div, mod-lt, zero-lt-suc, div-lt_iff_lt-mul}
use native.Mathlib.Omega.{arith}
use mathlib.Core.Path.{◌≡◌, refl, sym, ap, ◌∙◌}
use mathlib.Core.List.{List, [], ◌∷◌, ◌++◌, map, append_assoc, append-nil}
use lib.Arith.{digits_div, digits_mod}
use lib.ListN.{length, get_or, take, drop, length-append, length-map}
use lib.Seq.{take_all, take-add, take_at, drop-drop, get_or-append-add, length-take-le}
use lib.Ieee.{binary32, of_bits}
use Rattle.wire.specs.Wire.{le_at, le_bytes}
use Rattle.wire.proofs.Laws.{length-le_bytes, le_bytes-at, le_below, le_of_bytes, le_append_right}
use Rattle.ray_tracing.specs.declared.BlasId.{BlasId}
use Rattle.ray_tracing.specs.declared.TlasInstance.{TlasInstance}
use Rattle.ray_tracing.specs.Instances.{nan_of, patterns, words, words_at, instance_bytes, instance_from}
use Rattle.ray_tracing.specs.ReadInstances.{custom_and_mask, zero_word, address_in, record_instance, lent_bytes}
use Rattle.ray_tracing.proofs.Instances.{Below, length-words_at, small-words, patterns_back, words_back, transform-length, bytes_below, bytes-length, patterns-read}
use Rattle.ray_tracing.proofs.Windows.{Window, window_part, le_window}

-- ---- parts of a list

-- four parts end to end
four : (a b c d : ℕ) (l : List ℕ) → take (a + (b + (c + d))) l ≡ take a l ++ (take b (drop a l) ++ (take c (drop (a + b) l) ++ take d (drop (a + b + c) l)))
four a b c d l =
    take-add a (b + (c + d)) l
    ∙ ap (λ (t : List ℕ). take a l ++ t)
    (take-add b (c + d) (drop a l)
    ∙ ap (λ (t : List ℕ). take b (drop a l) ++ t)
    (ap (take (c + d)) (drop-drop b a l)
    ∙ take-add c d (drop (a + b) l)
    ∙ ap (λ (t : List ℕ). take c (drop (a + b) l) ++ take d t) (drop-drop c (a + b) l)))

-- what stands behind another list
window_behind : (p d : List ℕ) (n : ℕ) → length p ≡ n → Window n d (p ++ d)
window_behind p d n e =
    record { inside = omega (arith, length-append p d); same = λ i k. ap (λ (m : ℕ). get_or (p ++ d) (m + i) 0) (sym e) ∙ get_or-append-add p d i 0 }

-- a number that stands behind another list
behind : (w v n : ℕ) (p t : List ℕ) → length p ≡ n → v < 256 ^ w → le_at w (p ++ (le_bytes w v ++ t)) n ≡ v
behind w v n p t e h =
    ap (le_at w (p ++ (le_bytes w v ++ t))) (sym e ∙ sym (add-zero (length p))) ∙ le_append_right w p (le_bytes w v ++ t) 0 ∙ le_of_bytes w v t h

module _ {a : ℕ} {t s : List ℕ} (o : Window a t s) where
  words_window : (n p : ℕ) → p + 4 * n ≤ length t → words_at n s (a + p) ≡ words_at n t p
  unfolding words_at
  words_window zero p h = refl
  words_window (suc n) p h =
      let rest : words_at n s (a + p + 4) ≡ words_at n t (p + 4) = rw (add_assoc a p 4) (words_window n (p + 4) (omega arith)) in
      λ j. le_window o 4 p (omega arith) j ∷ rest j

  -- a record, or a lent instance, in a window is that in the list
  pub record_window : (blas : BlasId) → 64 ≤ length t → record_instance s a blas ≡ record_instance t 0 blas
  unfolding record_instance
  record_window blas h =
      let ws : words_at 12 s a ≡ words_at 12 t 0 = rw add-zero at (words_window 12 0 (omega arith)) in
      let word : le_at 4 s (a + 48) ≡ le_at 4 t 48 = le_window o 4 48 (omega arith) in
      rw (ws, word)

  pub zero_window : 64 ≤ length t → zero_word s a ≡ zero_word t 0
  zero_window h = le_window o 4 52 (omega arith)

  pub address_window : 64 ≤ length t → address_in s a ≡ address_in t 0
  address_window h = le_window o 8 56 (omega arith)

  pub lent_window : 55 ≤ length t → instance_from s a ≡ instance_from t 0
  unfolding instance_from
  lent_window h =
      let ws : words_at 12 s (a + 7) ≡ words_at 12 t 7 = words_window 12 7 (omega arith) in
      let id : le_at 2 s a ≡ le_at 2 t 0 = rw add-zero at (le_window o 2 0 (omega arith)) in
      λ j. record {
        transform = map (of_bits binary32) (ws j);
        nan_bits = map nan_of (ws j);
        custom_data = le_window o 4 2 (omega arith) j;
        mask = le_window o 1 6 (omega arith) j;
        blas = record { 0 = id j };
      }

-- ---- lengths

pub record_lengths : (s : List ℕ) (at : ℕ) (blas : BlasId) → (length (record_instance s at blas).transform ≡ 12) × (length (record_instance s at blas).nan_bits ≡ 12)
unfolding record_instance
record_lengths s at blas =
    (length-map (words_at 12 s at) _ ∙ length-words_at 12 s at, length-map (words_at 12 s at) _ ∙ length-words_at 12 s at)

pub lent_length : (i : TlasInstance) → length i.transform ≡ 12 → length i.nan_bits ≡ 12 → length (lent_bytes i) ≡ 55
unfolding lent_bytes
lent_length i h g = simp (length-append, length-le_bytes, transform-length i.transform i.nan_bits h g)

-- ---- a record of 64 bytes

module _ (r : List ℕ) (long : length r ≡ 64) (b : Below r) (blas : BlasId) where
  abbrev i : TlasInstance
  i = record_instance r 0 blas

  abbrev numbers : List ℕ
  numbers = words (patterns i.transform i.nan_bits)

  -- its numbers' bits are its first 48
  numbers_back : numbers ≡ take 48 r
  unfolding record_instance
  numbers_back = ap words (patterns_back (words_at 12 r 0) (small-words 12 r 0 b)) ∙ words_back 12 r 0 b (omega arith)

  -- it is what the writer makes of its instance
  pub record_back : zero_word r 0 ≡ 0 → instance_bytes i (address_in r 0) ≡ r
  unfolding instance_bytes record_instance
  record_back e =
      let c = custom_and_mask r 0 in
      let custom : le_bytes 4 (c % 2 ^ 24 + 2 ^ 24 * (c / 2 ^ 24)) ≡ take 4 (drop 48 r) = ap (le_bytes 4) (mod-add-div c (2 ^ 24)) ∙ le_bytes-at 4 r 48 b (omega arith) in
      let none : le_bytes 4 0 ≡ take 4 (drop 52 r) = ap (le_bytes 4) (sym e) ∙ le_bytes-at 4 r 52 b (omega arith) in
      let address : le_bytes 8 (address_in r 0) ≡ take 8 (drop 56 r) = le_bytes-at 8 r 56 b (omega arith) in
      (λ j. numbers_back j ++ (custom j ++ (none j ++ address j))) ∙ sym (four 48 4 4 8 r) ∙ take_all 64 r (omega arith)

  custom_low : i.custom_data < 2 ^ 24
  unfolding record_instance
  custom_low = mod-lt (custom_and_mask r 0) (zero-lt-suc _)

  mask_low : i.mask < 256 ^ 1
  unfolding record_instance
  mask_low = (div-lt_iff_lt-mul (zero-lt-suc _)).1 (le_below 4 r 48 b)

  front : List ℕ
  front = le_bytes 2 i.blas.0 ++ (le_bytes 4 i.custom_data ++ le_bytes 1 i.mask)

  front_length : length front ≡ 7
  unfolding front
  front_length = simp (length-append, length-le_bytes)

  lent_is : lent_bytes i ≡ front ++ take 48 r
  unfolding lent_bytes front
  lent_is = simp append_assoc (ap (λ (t : List ℕ). le_bytes 2 i.blas.0 ++ (le_bytes 4 i.custom_data ++ (le_bytes 1 i.mask ++ t))) numbers_back)

  lent-words : words_at 12 (lent_bytes i) 7 ≡ words_at 12 r 0
  lent-words =
      let part : length (take 48 r) ≡ 48 = length-take-le 48 r (omega arith) in
      ap (λ (l : List ℕ). words_at 12 l 7) lent_is
      ∙ words_window (window_behind front (take 48 r) 7 front_length) 12 0 (omega arith)
      ∙ sym (words_window (window_part 0 48 r (omega arith)) 12 0 (omega arith))

  first_read : i.blas.0 < 2 ^ 16 → le_at 2 (lent_bytes i) 0 ≡ i.blas.0
  unfolding lent_bytes
  first_read h = le_of_bytes 2 i.blas.0 _ h

  custom_read : le_at 4 (lent_bytes i) 2 ≡ i.custom_data
  unfolding lent_bytes
  custom_read = behind 4 i.custom_data 2 (le_bytes 2 i.blas.0) _ (length-le_bytes 2 i.blas.0) (omega (arith, custom_low))

  mask-read : le_at 1 (lent_bytes i) 6 ≡ i.mask
  unfolding lent_bytes
  mask-read =
      let A = le_bytes 2 i.blas.0 in
      let B = le_bytes 4 i.custom_data in
      ap (λ (l : List ℕ). le_at 1 l 6) (sym (append_assoc A B _))
      ∙ behind 1 i.mask 6 (A ++ B) numbers (simp (length-append, length-le_bytes)) mask_low

  -- lent, it is read as it is
  pub lent-read : blas.0 < 2 ^ 16 → instance_from (lent_bytes i) 0 ≡ i
  unfolding instance_from record_instance
  lent-read h =
      λ j. record {
        transform = map (of_bits binary32) (lent-words j);
        nan_bits = map nan_of (lent-words j);
        custom_data = custom_read j;
        mask = mask-read j;
        blas = record { 0 = first_read h j };
      }

-- ---- a lent instance of 55 bytes

module _ (t : List ℕ) (long : length t ≡ 55) (b : Below t) where
  id_back : le_bytes 2 (instance_from t 0).blas.0 ≡ take 2 t
  unfolding instance_from
  id_back = le_bytes-at 2 t 0 b (omega arith)

  custom_back : le_bytes 4 (instance_from t 0).custom_data ≡ take 4 (drop 2 t)
  unfolding instance_from
  custom_back = le_bytes-at 4 t 2 b (omega arith)

  mask_back : le_bytes 1 (instance_from t 0).mask ≡ take 1 (drop 6 t)
  unfolding instance_from
  mask_back = le_bytes-at 1 t 6 b (omega arith)

  -- it is what its instance is lent as
  pub lent_back : lent_bytes (instance_from t 0) ≡ t
  unfolding lent_bytes
  lent_back =
      let numbers : words (patterns (instance_from t 0).transform (instance_from t 0).nan_bits) ≡ take 48 (drop 7 t) =
      ap words (patterns-read t 0 b) ∙ words_back 12 t 7 b (omega arith) in
      (λ j. id_back j ++ (custom_back j ++ (mask_back j ++ numbers j))) ∙ sym (four 2 4 1 48 t) ∙ take_all 55 t (omega arith)

-- ---- what the writer makes of an instance

module _ (i : TlasInstance) (address : ℕ) (h : length i.transform ≡ 12) (g : length i.nan_bits ≡ 12) where
  abbrev made : List ℕ
  made = instance_bytes i address

  numbers_long : length (words (patterns i.transform i.nan_bits)) ≡ 48
  numbers_long = transform-length i.transform i.nan_bits h g

  pub made_custom : i.custom_data < 2 ^ 24 → i.mask < 256 → custom_and_mask made 0 ≡ i.custom_data + 2 ^ 24 * i.mask
  unfolding instance_bytes
  made_custom low m =
      behind 4 (i.custom_data + 2 ^ 24 * i.mask) 48 (words (patterns i.transform i.nan_bits)) _ numbers_long (omega arith)

  pub made_zero : zero_word made 0 ≡ 0
  unfolding instance_bytes
  made_zero =
      let N = words (patterns i.transform i.nan_bits) in
      let C = le_bytes 4 (i.custom_data + 2 ^ 24 * i.mask) in
      ap (λ (l : List ℕ). le_at 4 l 52) (sym (append_assoc N C _))
      ∙ behind 4 0 52 (N ++ C) (le_bytes 8 address) (length-append N C ∙ omega (arith, numbers_long, length-le_bytes 4 (i.custom_data + 2 ^ 24 * i.mask))) (omega arith)

  pub made_address : address < 2 ^ 64 → address_in made 0 ≡ address
  unfolding instance_bytes
  made_address k =
      let N = words (patterns i.transform i.nan_bits) in
      let C = le_bytes 4 (i.custom_data + 2 ^ 24 * i.mask) in
      let Z = le_bytes 4 0 in
      let e : N ++ (C ++ (Z ++ le_bytes 8 address)) ≡ (N ++ (C ++ Z)) ++ (le_bytes 8 address ++ []) = simp (append_assoc, append-nil) in
      ap (λ (l : List ℕ). le_at 8 l 56) e
      ∙ behind 8 address 56 (N ++ (C ++ Z)) [] (simp (length-append, length-le_bytes, numbers_long)) k

  made_numbers : take 48 made ≡ words (patterns i.transform i.nan_bits)
  unfolding instance_bytes
  made_numbers = take_at (words (patterns i.transform i.nan_bits)) _ 48 numbers_long

  module _ (blas : BlasId) (low : i.custom_data < 2 ^ 24) (m : i.mask < 256) (e : blas.0 ≡ i.blas.0) where
    below : Below made
    below = bytes_below i address

    long : length made ≡ 64
    long = bytes-length i address h g

    turned : custom_and_mask made 0 ≡ i.mask * 2 ^ 24 + i.custom_data
    turned = made_custom low m ∙ omega arith

    joined :
        custom_and_mask made 0 % 2 ^ 24 ≡ i.custom_data
        → custom_and_mask made 0 / 2 ^ 24 ≡ i.mask
        → front made long below blas ++ take 48 made ≡ lent_bytes i
    unfolding front lent_bytes record_instance
    joined custom mask =
        (λ j. (le_bytes 2 (e j) ++ (le_bytes 4 (custom j) ++ le_bytes 1 (mask j))) ++ made_numbers j) ∙ simp append_assoc

    -- read back, it is lent as it was
    pub made-back : lent_bytes (record_instance made 0 blas) ≡ lent_bytes i
    made-back =
        let custom : custom_and_mask made 0 % 2 ^ 24 ≡ i.custom_data = ap (λ (x : ℕ). x % 2 ^ 24) turned ∙ digits_mod i.mask low in
        let mask : custom_and_mask made 0 / 2 ^ 24 ≡ i.mask = ap (λ (x : ℕ). x / 2 ^ 24) turned ∙ digits_div i.mask low in
        lent_is made long below blas ∙ joined custom mask
