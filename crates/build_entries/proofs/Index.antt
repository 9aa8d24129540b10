-- Laws of the index: the j-th declared geometry of a Blas is the one that stands where following the index j times leads, and one step of
-- the pass that makes the index.
use Prim.Native.Nat.{ℕ, zero, suc, ◌+◌, ◌-◌, ◌*◌, ◌≤◌, ◌<◌}
use native.Mathlib.Numerals.{add-one}
use native.Mathlib.Omega.{arith}
use mathlib.Core.Path.{◌≡◌, refl, sym, ap, ◌∙◌}
use mathlib.Core.Bool.{Bool, true, false, cond}
use mathlib.Core.Option.{Option, none, some}
use mathlib.Core.List.{List, ◌∷◌}
use lib.ListN.{length, get_or, set, replicate, get_or-replicate}
use lib.Seq.{get_or-set_same, get_or-set_other}
use lib.Dec.{ltb, eqb}
use borrow.Author.Tests.{lt-ltb, le-ltb, eq-eqb, ne_eqb, eqb-true, eqb-false}
use Rattle.ray_tracing.specs.declared.BlasGeometrySizeDescriptor.{BlasGeometrySizeDescriptor}
use Rattle.ray_tracing.specs.Records.{declared_at}
use Rattle.ray_tracing.specs.Layout.{size}
use Rattle.ray_tracing.specs.Plan.{declared_from, nth}
use Rattle.build_entries.specs.Index.{declared_in, blas_of_declared, nth_from, nth_of, standing, Heads, Nexts}

by_bool : (P : Bool → Type 0) (b : Bool) → (b ≡ true → P true) → (b ≡ false → P false) → P b
by_bool P true x y = x refl
by_bool P false x y = y refl

module _ (t : List ℕ) (blas : ℕ) where
  -- the first of them is the Blas's
  abbrev here : ℕ → Bool
  here i = eqb (blas_of_declared t i) blas

  abbrev at : ℕ → ℕ → ℕ → ℕ
  at = nth_from t blas

  -- it stands among them, or at the end
  nth-range : (m i j : ℕ) → (i ≤ at i m j) × (at i m j ≤ i + m)
  unfolding nth_from
  nth-range zero i j = (omega arith, omega arith)
  nth-range (suc m) i zero =
      let r = nth-range m (i + 1) zero in
      by_bool (λ (b : Bool). (i ≤ cond b i (at (i + 1) m zero)) × (cond b i (at (i + 1) m zero) ≤ i + suc m)) (here i)
      (λ e. (omega arith, omega arith))
      (λ e. (omega arith, omega arith))
  nth-range (suc m) i (suc j) =
      let r = nth-range m (i + 1) j in
      let s = nth-range m (i + 1) (suc j) in
      by_bool
      (λ (b : Bool).
      (i ≤ cond b (at (i + 1) m j) (at (i + 1) m (suc j))) × (cond b (at (i + 1) m j) (at (i + 1) m (suc j)) ≤ i + suc m))
      (here i)
      (λ e. (omega arith, omega arith))
      (λ e. (omega arith, omega arith))

  -- what stands at k, of the declared geometries before n
  abbrev standing_below : ℕ → ℕ → Option BlasGeometrySizeDescriptor
  standing_below n k = cond (ltb k n) (some (declared_at t (k * size 3))) none

  none_at_end : (n k : ℕ) → n ≤ k → none ≡ standing_below n k
  none_at_end n k h = rw (le-ltb k n h)

  some_below : (n k : ℕ) → k < n → some (declared_at t (k * size 3)) ≡ standing_below n k
  some_below n k h = rw (lt-ltb k n h)

  abbrev rest : ℕ → ℕ → List BlasGeometrySizeDescriptor
  rest = declared_from t blas

  nth-standing : (m i j : ℕ) → nth (rest i m) j ≡ standing_below (i + m) (at i m j)
  unfolding nth_from declared_from
  nth-standing zero i j = none_at_end (i + 0) i (omega arith)
  nth-standing (suc m) i zero =
      let e : i + 1 + m ≡ i + suc m = omega arith in
      by_bool
      (λ (b : Bool).
      nth (cond b (declared_at t (i * size 3) ∷ rest (i + 1) m) (rest (i + 1) m)) zero
      ≡ standing_below (i + suc m) (cond b i (at (i + 1) m zero)))
      (here i)
      (λ p. some_below (i + suc m) i (omega arith))
      (λ p. nth-standing m (i + 1) zero ∙ ap (λ (n : ℕ). standing_below n (at (i + 1) m zero)) e)
  nth-standing (suc m) i (suc j) =
      let e : i + 1 + m ≡ i + suc m = omega arith in
      by_bool
      (λ (b : Bool).
      nth (cond b (declared_at t (i * size 3) ∷ rest (i + 1) m) (rest (i + 1) m)) (suc j)
      ≡ standing_below (i + suc m) (cond b (at (i + 1) m j) (at (i + 1) m (suc j))))
      (here i)
      (λ p. nth-standing m (i + 1) j ∙ ap (λ (n : ℕ). standing_below n (at (i + 1) m j)) e)
      (λ p. nth-standing m (i + 1) (suc j) ∙ ap (λ (n : ℕ). standing_below n (at (i + 1) m (suc j))) e)

  -- one that stands at k before n is the Blas's, and the Blas's next is the first after it
  abbrev Next : ℕ → ℕ → ℕ → Type 0
  Next n k next = k < n → (blas_of_declared t k ≡ blas) × (next ≡ at (k + 1) (n - (k + 1)) 0)

  moved : (n n' k next : ℕ) → n ≡ n' → Next n k next → Next n' k next
  moved n n' k next e f = rw e at f

  nth-next : (m i j : ℕ) → Next (i + m) (at i m j) (at i m (suc j))
  unfolding nth_from
  nth-next zero i j = λ h. absurd (omega arith)
  nth-next (suc m) i zero =
      let e : i + 1 + m ≡ i + suc m = omega arith in
      let n : m ≡ i + suc m - (i + 1) = omega arith in
      by_bool
      (λ (b : Bool). Next (i + suc m) (cond b i (at (i + 1) m zero)) (cond b (at (i + 1) m zero) (at (i + 1) m 1)))
      (here i)
      (λ p l. (eqb-true (blas_of_declared t i) blas p, ap (λ (m : ℕ). at (i + 1) m 0) n))
      (λ p. moved (i + 1 + m) (i + suc m) _ _ e (nth-next m (i + 1) zero))
  nth-next (suc m) i (suc j) =
      let e : i + 1 + m ≡ i + suc m = omega arith in
      by_bool
      (λ (b : Bool).
      Next (i + suc m) (cond b (at (i + 1) m j) (at (i + 1) m (suc j))) (cond b (at (i + 1) m (suc j)) (at (i + 1) m (suc (suc j)))))
      (here i)
      (λ p. moved (i + 1 + m) (i + suc m) _ _ e (nth-next m (i + 1) j))
      (λ p. moved (i + 1 + m) (i + suc m) _ _ e (nth-next m (i + 1) (suc j)))

  -- after the end there is none
  nth_end : (m i j : ℕ) → i + m ≤ at i m j → at i m (suc j) ≡ i + m
  unfolding nth_from
  nth_end zero i j = λ h. omega arith
  nth_end (suc m) i zero =
      by_bool
      (λ (b : Bool). i + suc m ≤ cond b i (at (i + 1) m zero) → cond b (at (i + 1) m zero) (at (i + 1) m 1) ≡ i + suc m)
      (here i)
      (λ p l. absurd (omega arith))
      (λ p l. omega (arith, nth_end m (i + 1) zero (omega arith)))
  nth_end (suc m) i (suc j) =
      by_bool
      (λ (b : Bool).
      i + suc m ≤ cond b (at (i + 1) m j) (at (i + 1) m (suc j))
      → cond b (at (i + 1) m (suc j)) (at (i + 1) m (suc (suc j))) ≡ i + suc m)
      (here i)
      (λ p l. omega (arith, nth_end m (i + 1) j (omega arith)))
      (λ p l. omega (arith, nth_end m (i + 1) (suc j) (omega arith)))

  -- the j-th declared geometry of the Blas
  pub nth_found : (j k : ℕ) → k ≡ nth_of t blas j → standing t k ≡ nth (declared_from t blas 0 (declared_in t)) j
  nth_found j k e =
      let z : 0 + declared_in t ≡ declared_in t = omega arith in
      ap (standing t) e ∙ sym (nth-standing (declared_in t) 0 j ∙ ap (λ (n : ℕ). standing_below n (nth_of t blas j)) z)

  pub nth_within : (j : ℕ) → nth_of t blas j ≤ declared_in t
  nth_within j = omega (arith, (nth-range (declared_in t) 0 j).1)

  -- following the index

  pub follow_inside :
      (next : List ℕ) → Nexts t next → (j k : ℕ) → k ≡ nth_of t blas j → k < declared_in t → get_or next k 0 ≡ nth_of t blas (j + 1)
  follow_inside next h j k e l =
      let r = nth-next (declared_in t) 0 j (omega arith) in
      let z : declared_in t - (k + 1) ≡ 0 + declared_in t - (nth_of t blas j + 1) = omega arith in
      let y : blas_of_declared t k ≡ blas = ap (blas_of_declared t) e ∙ r.0 in
      h k l ∙ (λ i. nth_from t (y i) (e i + 1) (z i) 0) ∙ sym r.1 ∙ ap (nth_of t blas) (sym (add-one j))

  pub follow_end : (j k : ℕ) → k ≡ nth_of t blas j → declared_in t ≤ k → k ≡ nth_of t blas (j + 1)
  follow_end j k e l =
      omega (arith, nth_end (declared_in t) 0 j (omega arith), ap (nth_of t blas) (add-one j), nth_within j)

-- ---- the pass that makes the index, from the last declared geometry to the first

module _ (t : List ℕ) where
  abbrev pub HeadsFrom : List ℕ → ℕ → Type 0
  HeadsFrom head i = (blas : ℕ) → blas < 128 → get_or head blas 0 ≡ nth_from t blas i (declared_in t - i) 0

  abbrev pub NextsFrom : List ℕ → ℕ → Type 0
  NextsFrom next i =
      (k : ℕ) → i ≤ k → k < declared_in t → get_or next k 0 ≡ nth_from t (blas_of_declared t k) (k + 1) (declared_in t - (k + 1)) 0

  module _ (k : ℕ) (h : k < declared_in t) where
    one_more : declared_in t - k ≡ suc (declared_in t - (k + 1))
    one_more = omega arith

    first-here : (blas : ℕ) → blas_of_declared t k ≡ blas → nth_from t blas k (declared_in t - k) 0 ≡ k
    unfolding nth_from
    first-here blas e = rw (one_more, eq-eqb (blas_of_declared t k) blas e)

    first-later :
        (blas : ℕ)
        → (blas_of_declared t k ≡ blas → ⊥)
        → nth_from t blas k (declared_in t - k) 0 ≡ nth_from t blas (k + 1) (declared_in t - (k + 1)) 0
    unfolding nth_from
    first-later blas e = rw (one_more, ne_eqb (blas_of_declared t k) blas e)

    pub heads-step :
        (head : List ℕ)
        → length head ≡ 128
        → blas_of_declared t k < 128
        → HeadsFrom head (k + 1)
        → HeadsFrom (set head (blas_of_declared t k) k) k
    heads-step head n l f blas m =
        by_bool (λ (b : Bool). get_or (set head (blas_of_declared t k) k) blas 0 ≡ nth_from t blas k (declared_in t - k) 0) (eqb (blas_of_declared t k) blas)
        (λ p.
        let e = eqb-true (blas_of_declared t k) blas p in
        ap (λ (b : ℕ). get_or (set head (blas_of_declared t k) k) b 0) (sym e)
        ∙ get_or-set_same head (blas_of_declared t k) k 0 (omega arith)
        ∙ sym (first-here blas e))
        (λ p.
        let e = eqb-false (blas_of_declared t k) blas p in
        get_or-set_other head (blas_of_declared t k) blas k 0 (λ q. e (sym q)) ∙ f blas m ∙ sym (first-later blas e))

    pub nexts-step :
        (next : List ℕ) (v : ℕ)
        → length next ≡ 512
        → declared_in t ≤ 512
        → v ≡ nth_from t (blas_of_declared t k) (k + 1) (declared_in t - (k + 1)) 0
        → NextsFrom next (k + 1)
        → NextsFrom (set next k v) k
    nexts-step next v n few e f j a l =
        by_bool (λ (b : Bool). get_or (set next k v) j 0 ≡ nth_from t (blas_of_declared t j) (j + 1) (declared_in t - (j + 1)) 0) (eqb j k)
        (λ p.
        let q = eqb-true j k p in
        rw q (get_or-set_same next k v 0 (omega arith) ∙ e))
        (λ p.
        let q = eqb-false j k p in
        get_or-set_other next k j v 0 q ∙ f j (omega (arith, q)) l)

  pub heads_start : HeadsFrom (replicate 128 (declared_in t)) (declared_in t)
  unfolding nth_from
  heads_start blas h =
      let e : declared_in t - declared_in t ≡ 0 = omega arith in
      rw e (get_or-replicate 128 blas (declared_in t) 0 h)

  pub heads_end : (head : List ℕ) → HeadsFrom head 0 → Heads t head
  heads_end head f blas h =
      let e : declared_in t - 0 ≡ declared_in t = omega arith in
      rw e at (f blas h)

  pub nexts_end : (next : List ℕ) → NextsFrom next 0 → Nexts t next
  nexts_end next f k h = f k (omega arith) h
