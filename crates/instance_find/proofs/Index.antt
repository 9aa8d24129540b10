-- Laws of the index: a step of the pass that makes it, and a step of the search that goes from one of a bucket to the last before it and so
-- meets each Blas that stands at an address.
use Prim.Native.Nat.{ℕ, zero, suc, ◌-◌, ◌≤◌, ◌<◌}
use native.Mathlib.Numerals.{sub-one}
use native.Mathlib.Omega.{arith}
use mathlib.Core.Path.{◌≡◌, refl, sym, ap, ◌∙◌}
use mathlib.Core.Bool.{Bool, true, false, cond}
use mathlib.Core.Option.{none}
use Rattle.std.specs.Prelude.{Some, None, is_some}
use Rattle.std.specs.Prelude as rust
use mathlib.Core.List.{List, [], ◌∷◌, ◌++◌, append-nil}
use lib.ListN.{length, get_or, set, replicate, get_or-replicate}
use lib.Seq.{get_or-set_same, get_or-set_other}
use lib.Dec.{ltb, eqb}
use borrow.Author.Tests.{eq-eqb, ne_eqb, eqb-true, eqb-false}
use Rattle.ray_tracing.specs.Mentions.{blas_of}
use Rattle.ray_tracing.specs.ReadInstances.{standing_among, standing_in, only_one, blas_with}
use Rattle.instance_find.specs.Index.{blases_lent, bucket, bucket_of, last_in, IndexedUpTo, candidate}

by_bool : (P : Bool → Type 0) (b : Bool) → (b ≡ true → P true) → (b ≡ false → P false) → P b
by_bool P true x y = x refl
by_bool P false x y = y refl

module _ (blases : List ℕ) (b : ℕ) where
  abbrev last : ℕ → ℕ
  last = last_in blases b

  last_here : (n : ℕ) → bucket_of blases n ≡ b → last (suc n) ≡ suc n
  unfolding last_in
  last_here n e = rw (eq-eqb (bucket_of blases n) b e)

  last_earlier : (n : ℕ) → (bucket_of blases n ≡ b → ⊥) → last (suc n) ≡ last n
  unfolding last_in
  last_earlier n e = rw (ne_eqb (bucket_of blases n) b e)

  last_within : (n : ℕ) → last n ≤ n
  unfolding last_in
  last_within zero = omega arith
  last_within (suc n) =
      by_bool (λ (t : Bool). cond t (suc n) (last n) ≤ suc n) (eqb (bucket_of blases n) b)
      (λ e. omega arith)
      (λ e. omega (arith, last_within n))

  -- the last of a bucket is the last of those up to it
  last_twice : (n : ℕ) → last (last n) ≡ last n
  unfolding last_in
  last_twice zero = refl
  last_twice (suc n) =
      by_bool (λ (t : Bool). last (cond t (suc n) (last n)) ≡ cond t (suc n) (last n)) (eqb (bucket_of blases n) b)
      (λ e. last_here n (eqb-true (bucket_of blases n) b e))
      (λ e. last_twice n)

  -- so with the last that may be in it

  by_many : (P : ℕ → Type 0) (n : ℕ) → P n → P (last n) → P (candidate blases b n)
  by_many P n x y = by_bool (λ (t : Bool). P (cond t n (last n))) (ltb 128 (blases_lent blases)) (λ e. x) (λ e. y)

  pub candidate_within : (n : ℕ) → candidate blases b n ≤ n
  candidate_within n = by_many (λ (m : ℕ). m ≤ n) n (omega arith) (last_within n)

  candidate_twice : (n : ℕ) → candidate blases b (candidate blases b n) ≡ candidate blases b n
  candidate_twice n =
      by_bool (λ (t : Bool). cond t (cond t n (last n)) (last (cond t n (last n))) ≡ cond t n (last n)) (ltb 128 (blases_lent blases))
      (λ e. refl)
      (λ e. last_twice n)

  -- where the last of some may be in the bucket, its own bucket leads to the same one before it
  candidate_same : (k : ℕ) → candidate blases b (suc k) ≡ suc k → candidate blases (bucket_of blases k) k ≡ candidate blases b k
  unfolding last_in
  candidate_same k =
      by_bool
      (λ (t : Bool). cond t (suc k) (last (suc k)) ≡ suc k → cond t k (last_in blases (bucket_of blases k) k) ≡ cond t k (last k))
      (ltb 128 (blases_lent blases))
      (λ e h. refl)
      (λ e.
      by_bool (λ (t : Bool). cond t (suc k) (last k) ≡ suc k → last_in blases (bucket_of blases k) k ≡ last k) (eqb (bucket_of blases k) b)
      (λ p h. ap (λ (a : ℕ). last_in blases a k) (eqb-true (bucket_of blases k) b p))
      (λ p h. absurd (omega (arith, last_within k))))

-- ---- the pass that makes the index

pub indexed_start : (blases : List ℕ) → IndexedUpTo blases (replicate 257 0) (replicate 128 0) 0
unfolding last_in
indexed_start blases = record { lasts = λ b h. get_or-replicate 257 b 0 0 h; befores = λ k h. absurd (omega arith) }

module _ (blases : List ℕ) (k : ℕ) (lasts befores : List ℕ) (h : IndexedUpTo blases lasts befores k) where
  abbrev its : ℕ
  its = bucket_of blases k

  lasts-step : length lasts ≡ 257 → (b : ℕ) → b < 257 → get_or (set lasts its (suc k)) b 0 ≡ last_in blases b (suc k)
  lasts-step n b l =
      by_bool (λ (t : Bool). get_or (set lasts its (suc k)) b 0 ≡ last_in blases b (suc k)) (eqb its b)
      (λ p.
      let e = eqb-true its b p in
      ap (λ (a : ℕ). get_or (set lasts its (suc k)) a 0) (sym e)
      ∙ get_or-set_same lasts its (suc k) 0 (omega arith)
      ∙ sym (last_here blases b k e))
      (λ p.
      let e = eqb-false its b p in
      get_or-set_other lasts its b (suc k) 0 (λ q. e (sym q)) ∙ h.lasts b l ∙ sym (last_earlier blases b k e))

  befores-step :
      length befores ≡ 128
      → k < 128
      → (j : ℕ)
      → j < suc k
      → get_or (set befores k (get_or lasts its 0)) j 0 ≡ last_in blases (bucket_of blases j) j
  befores-step n few j l =
      by_bool (λ (t : Bool). get_or (set befores k (get_or lasts its 0)) j 0 ≡ last_in blases (bucket_of blases j) j) (eqb j k)
      (λ p. rw (eqb-true j k p) (get_or-set_same befores k _ 0 (omega arith) ∙ h.lasts its (omega arith)))
      (λ p.
      let e = eqb-false j k p in
      get_or-set_other befores k j _ 0 e ∙ h.befores j (omega (arith, e)))

  pub indexed_step :
      length lasts ≡ 257
      → length befores ≡ 128
      → k < 128
      → IndexedUpTo blases (set lasts its (suc k)) (set befores k (get_or lasts its 0)) (suc k)
  indexed_step m n few = record { lasts = lasts-step m; befores = befores-step n few }

-- ---- the search for an address, from the last Blas that may stand there to the first

-- the Blas that was found, if one was
abbrev pub found : rust.Option ℕ → List ℕ
found None = []
found (Some k) = k ∷ []

-- of the first n the last may stand there; of those past them one does, or none
pub record Searched (blases : List ℕ) (address : ℕ) (one : rust.Option ℕ) (n : ℕ) : Type 0 where
  pub within : n ≤ blases_lent blases
  pub may : candidate blases (bucket address) n ≡ n
  pub all : standing_in blases address ≡ standing_among blases address n ++ found one

several : (l : List ℕ) (k j : ℕ) → only_one ((l ++ k ∷ []) ++ j ∷ []) ≡ none
several [] k j = refl
several (x ∷ []) k j = refl
several (x ∷ y ∷ l) k j = refl

module _ (blases : List ℕ) (address : ℕ) where
  abbrev at : ℕ → Type 0
  at k = (blas_of blases k).handle ≡ address

  abbrev up_to : ℕ → List ℕ
  up_to = standing_among blases address

  standing_here : (n : ℕ) → at n → up_to (suc n) ≡ up_to n ++ n ∷ []
  unfolding standing_among
  standing_here n e = rw (eq-eqb (blas_of blases n).handle address e)

  standing_not_here : (n : ℕ) → (at n → ⊥) → up_to (suc n) ≡ up_to n
  unfolding standing_among
  standing_not_here n e = rw (ne_eqb (blas_of blases n).handle address e) (append-nil (up_to n))

  -- those past the last of the address's bucket have other addresses
  standing_last : (n : ℕ) → up_to n ≡ up_to (last_in blases (bucket address) n)
  unfolding last_in
  standing_last zero = refl
  standing_last (suc n) =
      by_bool
      (λ (t : Bool). up_to (suc n) ≡ up_to (cond t (suc n) (last_in blases (bucket address) n)))
      (eqb (bucket_of blases n) (bucket address))
      (λ e. refl)
      (λ e. standing_not_here n (λ p. eqb-false (bucket_of blases n) (bucket address) e (ap bucket p)) ∙ standing_last n)

  standing-candidate : (n : ℕ) → up_to n ≡ up_to (candidate blases (bucket address) n)
  standing-candidate n = by_many blases (bucket address) (λ (m : ℕ). up_to n ≡ up_to m) n refl (standing_last n)

  pub searched_start : Searched blases address None (candidate blases (bucket address) (blases_lent blases))
  searched_start =
      record {
        within = candidate_within blases (bucket address) (blases_lent blases);
        may = candidate_twice blases (bucket address) (blases_lent blases);
        all = standing-candidate (blases_lent blases) ∙ sym (append-nil _);
      }

  -- past Blas k, by what is known of it
  onward :
      (one more : rust.Option ℕ) (k : ℕ)
      → Searched blases address one (suc k)
      → up_to (suc k) ++ found one ≡ up_to k ++ found more
      → Searched blases address more (candidate blases (bucket_of blases k) k)
  onward one more k h e =
      rw (candidate_same blases (bucket address) k h.may)
      record {
        within = omega (arith, candidate_within blases (bucket address) k, h.within);
        may = candidate_twice blases (bucket address) k;
        all = h.all ∙ e ∙ ap (λ (l : List ℕ). l ++ found more) (standing-candidate k);
      }

  pub searched_first :
      (one : rust.Option ℕ) (n : ℕ)
      → Searched blases address one n
      → 0 < n
      → at (n - 1)
      → is_some one ≡ false
      → Searched blases address (Some (n - 1)) (candidate blases (bucket_of blases (n - 1)) (n - 1))
  searched_first one zero h l e z = absurd (omega arith)
  searched_first None (suc k) h l e z = rw sub-one (onward None (Some k) k h (append-nil _ ∙ standing_here k (rw sub-one at e)))
  searched_first (Some j) (suc k) h l e z = absurd cc

  pub searched_other :
      (one : rust.Option ℕ) (n : ℕ)
      → Searched blases address one n
      → 0 < n
      → (at (n - 1) → ⊥)
      → Searched blases address one (candidate blases (bucket_of blases (n - 1)) (n - 1))
  searched_other one zero h l e = absurd (omega arith)
  searched_other one (suc k) h l e = rw sub-one (onward one one k h (ap (λ (l : List ℕ). l ++ found one) (standing_not_here k (rw sub-one at e))))

  -- a second one is one too many
  pub searched_second :
      (one : rust.Option ℕ) (n : ℕ) → Searched blases address one n → 0 < n → at (n - 1) → is_some one ≡ true → none ≡ blas_with blases address
  unfolding blas_with
  searched_second one zero h l e z = absurd (omega arith)
  searched_second None (suc k) h l e z = absurd cc
  searched_second (Some j) (suc k) h l e z =
      sym (ap only_one (h.all ∙ ap (λ (m : List ℕ). m ++ j ∷ []) (standing_here k (rw sub-one at e))) ∙ several (up_to k) k j)

  pub searched_end : (one : rust.Option ℕ) (n : ℕ) → Searched blases address one n → n ≤ 0 → only_one (found one) ≡ blas_with blases address
  unfolding blas_with standing_among
  searched_end one zero h l = sym (ap only_one h.all)
  searched_end one (suc k) h l = absurd (omega arith)

-- what closes the goals of the search
pub ruleset searching = (candidate_within, searched_start, searched_first, searched_other, searched_second, searched_end)
