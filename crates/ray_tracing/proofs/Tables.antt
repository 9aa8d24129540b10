-- Records and lists of lent tables after a Build's writes: what was written stands there, and every other field, record, list and cell is
-- as it was, since a read goes by the bytes that it reads.
use Prim.Native.Nat.{ℕ, ◌+◌, ◌*◌, ◌^◌, ◌≤◌, ◌<◌}
use native.Mathlib.Nat.{add_assoc}
use native.Mathlib.Decide.{dec_lt}
use native.Mathlib.Omega.{arith}
use mathlib.Core.Path.{◌≡◌, ap, ◌∙◌}
use mathlib.Core.List.{List, ◌++◌, append_assoc}
use lib.ListN.{length, take, drop, get_or, set, length-take, length-drop}
use lib.Seq.{sets, length-sets, sets-eq, ext_get_or, get_or-take, get_or-drop, drop_at, take-append_seam, length-take-le, get_or-set_same, get_or-set_other}
use Rattle.wire.specs.Wire.{le_at, le_bytes}
use Rattle.wire.proofs.Laws.{le_cong, le_before, le_past, le_same, sets-before, sets-past, length-le_bytes}
use Rattle.ray_tracing.specs.declared.Blas.{Blas}
use Rattle.ray_tracing.specs.declared.Tlas.{Tlas}
use Rattle.ray_tracing.specs.Layout.{size}
use Rattle.ray_tracing.specs.Records.{blas_at, tlas_at}
use Rattle.ray_tracing.specs.Submission.{blas_in, tlas_in, list_in, built_blas, built_tlas}

-- ---- parts and records that agree in their elements

pub part_cong : (s t : List ℕ) (a n : ℕ) → length s ≡ length t → ((k : ℕ) → k < n → get_or s (a + k) 0 ≡ get_or t (a + k) 0) → take n (drop a s) ≡ take n (drop a t)
part_cong s t a n e h =
    ext_get_or 0 (take n (drop a s)) (take n (drop a t)) (simp (length-take, length-drop, e))
    (λ k l. let m : k < n = omega (arith, length-take n (drop a s)) in
    rw (get_or-take n (drop a s) k 0 m, get_or-take n (drop a t) k 0 m, get_or-drop, get_or-drop) (h k m))

module _ (s t : List ℕ) (at n : ℕ) (h : (k : ℕ) → k < n → get_or s (at + k) 0 ≡ get_or t (at + k) 0) where
  -- a field at o of a record
  field_cong : (w o : ℕ) → o + w ≤ n → le_at w s (at + o) ≡ le_at w t (at + o)
  field_cong w o l = le_cong w s t (at + o) (at + o) (λ k m. rw add_assoc (h (o + k) (omega arith)))

  front_cong : (w : ℕ) → w ≤ n → le_at w s at ≡ le_at w t at
  front_cong w l = le_cong w s t at at (λ k m. h k (omega arith))

blas_cong : (s t : List ℕ) (at : ℕ) → ((k : ℕ) → k < size 2 → get_or s (at + k) 0 ≡ get_or t (at + k) 0) → blas_at s at ≡ blas_at t at
blas_cong s t at h =
    let f = field_cong s t at (size 2) h in
    cc (front_cong s t at (size 2) h 1 (omega arith), f 1 1 (omega arith), f 1 2 (omega arith), f 1 3 (omega arith), f 8 4 (omega arith), f 8 12 (omega arith), f 8 20 (omega arith))

tlas_cong : (s t : List ℕ) (at : ℕ) → ((k : ℕ) → k < size 4 → get_or s (at + k) 0 ≡ get_or t (at + k) 0) → tlas_at s at ≡ tlas_at t at
tlas_cong s t at h =
    let f = field_cong s t at (size 4) h in
    cc (front_cong s t at (size 4) h 1 (omega arith), f 1 1 (omega arith), f 8 2 (omega arith), f 4 10 (omega arith), f 8 14 (omega arith))

-- ---- a Blas that was built

abbrev pub blas_with : ℕ → ℕ → Blas → Blas
blas_with state n r =
    record {
      kind = r.kind;
      flags = r.flags;
      compacted_state = state;
      destroyed = r.destroyed;
      build_scratch_size = r.build_scratch_size;
      handle = r.handle;
      built_index = n;
    }

module _ (n b : ℕ) (t : List ℕ) where
  pub built-length : length (built_blas n b t) ≡ length t
  unfolding built_blas
  built-length = simp length-sets

  -- outside its record no byte changes
  pub built-before : (j : ℕ) → j < b * size 2 → get_or (built_blas n b t) j 0 ≡ get_or t j 0
  unfolding built_blas
  built-before j h =
      sets-before (le_bytes 8 n) (sets t (b * size 2 + 2) (le_bytes 1 0)) (b * size 2 + 20) j (omega arith)
      ∙ sets-before (le_bytes 1 0) t (b * size 2 + 2) j (omega arith)

  pub built-past : (j : ℕ) → b * size 2 + size 2 ≤ j → get_or (built_blas n b t) j 0 ≡ get_or t j 0
  unfolding built_blas
  built-past j h =
      sets-past (le_bytes 8 n) (sets t (b * size 2 + 2) (le_bytes 1 0)) (b * size 2 + 20) j (omega (arith, length-le_bytes 8 n))
      ∙ sets-past (le_bytes 1 0) t (b * size 2 + 2) j (omega (arith, length-le_bytes 1 0))

  pub built-other : (j : ℕ) → ¬ (j ≡ b) → blas_in (built_blas n b t) j ≡ blas_in t j
  unfolding blas_in
  built-other j d =
      elim (dec_lt j b) [
        | yes h ↦ blas_cong (built_blas n b t) t (j * size 2) (λ k l. built-before (j * size 2 + k) (omega arith))
        | no h ↦ blas_cong (built_blas n b t) t (j * size 2) (λ k l. built-past (j * size 2 + k) (omega arith))
      ]

  pub built_same : b * size 2 + size 2 ≤ length t → n < 2 ^ 64 → blas_in (built_blas n b t) b ≡ blas_with 0 n (blas_in t b)
  unfolding blas_in built_blas
  built_same h k =
      let at : ℕ = b * 28 in
      let u : List ℕ = sets t (at + 2) (le_bytes 1 0) in
      let m : List ℕ = le_bytes 8 n in
      let one = length-le_bytes 1 0 in
      let z : length u ≡ length t = simp length-sets in
      cc (
        le_before 1 m u (at + 20) at (omega arith) ∙ le_before 1 (le_bytes 1 0) t (at + 2) at (omega arith),
        le_before 1 m u (at + 20) (at + 1) (omega arith) ∙ le_before 1 (le_bytes 1 0) t (at + 2) (at + 1) (omega arith),
        le_before 1 m u (at + 20) (at + 2) (omega arith) ∙ le_same 1 t (at + 2) 0 (omega arith) (omega arith),
        le_before 1 m u (at + 20) (at + 3) (omega arith) ∙ le_past 1 (le_bytes 1 0) t (at + 2) (at + 3) (omega arith),
        le_before 8 m u (at + 20) (at + 4) (omega arith) ∙ le_past 8 (le_bytes 1 0) t (at + 2) (at + 4) (omega arith),
        le_before 8 m u (at + 20) (at + 12) (omega arith) ∙ le_past 8 (le_bytes 1 0) t (at + 2) (at + 12) (omega arith),
        le_same 8 u (at + 20) n k (omega arith),
      )

-- ---- a Tlas that was built

abbrev pub tlas_with : ℕ → Tlas → Tlas
tlas_with n r =
    record {
      flags = r.flags;
      destroyed = r.destroyed;
      build_scratch_size = r.build_scratch_size;
      max_instance_count = r.max_instance_count;
      built_index = n;
    }

module _ (n i : ℕ) (t : List ℕ) where
  pub tlas-length : length (built_tlas n i t) ≡ length t
  unfolding built_tlas
  tlas-length = simp length-sets

  pub tlas-before : (j : ℕ) → j < i * size 4 → get_or (built_tlas n i t) j 0 ≡ get_or t j 0
  unfolding built_tlas
  tlas-before j h = sets-before (le_bytes 8 n) t (i * size 4 + 14) j (omega arith)

  pub tlas-past : (j : ℕ) → i * size 4 + size 4 ≤ j → get_or (built_tlas n i t) j 0 ≡ get_or t j 0
  unfolding built_tlas
  tlas-past j h = sets-past (le_bytes 8 n) t (i * size 4 + 14) j (omega (arith, length-le_bytes 8 n))

  pub tlas-other : (j : ℕ) → ¬ (j ≡ i) → tlas_in (built_tlas n i t) j ≡ tlas_in t j
  unfolding tlas_in
  tlas-other j d =
      elim (dec_lt j i) [
        | yes h ↦ tlas_cong (built_tlas n i t) t (j * size 4) (λ k l. tlas-before (j * size 4 + k) (omega arith))
        | no h ↦ tlas_cong (built_tlas n i t) t (j * size 4) (λ k l. tlas-past (j * size 4 + k) (omega arith))
      ]

  pub tlas_same : i * size 4 + size 4 ≤ length t → n < 2 ^ 64 → tlas_in (built_tlas n i t) i ≡ tlas_with n (tlas_in t i)
  unfolding tlas_in built_tlas
  tlas_same h k =
      let at : ℕ = i * 22 in
      let m : List ℕ = le_bytes 8 n in
      cc (
        le_before 1 m t (at + 14) at (omega arith),
        le_before 1 m t (at + 14) (at + 1) (omega arith),
        le_before 8 m t (at + 14) (at + 2) (omega arith),
        le_before 4 m t (at + 14) (at + 10) (omega arith),
        le_same 8 t (at + 14) n k (omega arith),
      )

-- ---- lists

module _ (counts cells ds : List ℕ) (i : ℕ) where
  pub list_same : i < length counts → i * 512 + length ds ≤ length cells
      → list_in (set counts i (length ds)) (sets cells (i * 512) ds) i ≡ ds
  unfolding list_in
  list_same h k =
      let at : ℕ = i * 512 in
      let rest : List ℕ = drop (at + length ds) cells in
      ap (λ (n : ℕ). take n (drop at (sets cells at ds))) (get_or-set_same counts i (length ds) 0 h)
      ∙ ap (λ (x : List ℕ). take (length ds) (drop at x)) (sets-eq ds cells at k ∙ append_assoc (take at cells) ds rest)
      ∙ ap (take (length ds)) (drop_at (take at cells) (ds ++ rest) at (length-take-le at cells (omega arith)))
      ∙ take-append_seam ds rest

  -- another list, if this one and what is written stand within their rooms
  pub list_other : (j : ℕ) → ¬ (j ≡ i) → length ds ≤ 512 → (j < i → get_or counts j 0 ≤ 512)
      → list_in (set counts i (length ds)) (sets cells (i * 512) ds) j ≡ list_in counts cells j
  unfolding list_in
  list_other j d h k =
      rw (get_or-set_other counts i j (length ds) 0 d)
      (part_cong (sets cells (i * 512) ds) cells (j * 512) (get_or counts j 0) (length-sets cells (i * 512) ds) (λ m l. at m l))
    where
      at : (m : ℕ) → m < get_or counts j 0 → get_or (sets cells (i * 512) ds) (j * 512 + m) 0 ≡ get_or cells (j * 512 + m) 0
      at m l =
          elim (dec_lt j i) [
            | yes q ↦ sets-before ds cells (i * 512) (j * 512 + m) (omega (arith, k q))
            | no q ↦ sets-past ds cells (i * 512) (j * 512 + m) (omega arith)
          ]
