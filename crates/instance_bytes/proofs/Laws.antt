-- Laws of arrays that a loop fills, and of writes end to end.
use mathlib.Core.Path.{◌≡◌, sym, ap, ◌∙◌}
use mathlib.Core.List.{List, [], ◌∷◌, ◌++◌, append_assoc}
use Prim.Native.Nat.{ℕ, ◌+◌, ◌*◌, ◌≤◌, ◌<◌}
use native.Mathlib.Numerals.{add-one}
use native.Mathlib.Omega.{arith}
use lib.ListN.{length, take, get_or, set, length-append}
use lib.Seq.{sets, take-suc, take-suc-set, take_all, length-take-le}
use Rattle.wire.specs.Wire.{le_bytes}
use Rattle.wire.proofs.Laws.{sets-append}
use Rattle.ray_tracing.specs.Instances.{words}
use Rattle.ray_tracing.proofs.Instances.{length-words, words_snoc}

-- an array that a loop fills from index 0 on, up to what T says
module _ {A : Type 0} where
  pub fill : (d : A) (t T : List A) (k : ℕ) (v : A) → k < length t → k < length T → take k t ≡ take k T → v ≡ get_or T k d → take (k + 1) (set t k v) ≡ take (k + 1) T
  fill d t T k v h H e q =
      ap (λ (n : ℕ). take n (set t k v)) (add-one k)
      ∙ take-suc-set t k v h
      ∙ (λ j. e j ++ (q j ∷ []))
      ∙ sym (take-suc T k d H)
      ∙ ap (λ (n : ℕ). take n T) (sym (add-one k))

  pub filled : (t T : List A) (k : ℕ) → length t ≤ k → length T ≤ k → take k t ≡ take k T → t ≡ T
  filled t T k h H e = sym (take_all k t h) ∙ e ∙ take_all k T H

-- one write after another
pub sets_then : (l : List ℕ) {k j : List ℕ} (at to : ℕ) (vs ws : List ℕ) → k ≡ sets l at vs → j ≡ sets k to ws → to ≡ at + length vs → j ≡ sets l at (vs ++ ws)
sets_then l at to vs ws p q e =
    q ∙ (λ i. sets (p i) (e i) ws) ∙ sets-append vs ws l at

-- a turn of the loop that writes the u32s ws: one more of them
pub put_more : (l : List ℕ) {k j : List ℕ} (at i : ℕ) (ws : List ℕ) (w : ℕ) → i < length ws → w ≡ get_or ws i 0
    → k ≡ sets l at (words (take i ws)) → j ≡ sets k (at + 4 * i) (le_bytes 4 w) → j ≡ sets l at (words (take (i + 1) ws))
put_more l at i ws w h e p q =
    sets_then l at (at + 4 * i) (words (take i ws)) (le_bytes 4 w) p q (omega (arith, length-words (take i ws), length-take-le i ws (omega arith)))
    ∙ ap (sets l at)
    (ap (λ (x : ℕ). words (take i ws) ++ le_bytes 4 x) e
    ∙ sym (words_snoc (take i ws) (get_or ws i 0))
    ∙ ap words (sym (take-suc ws i 0 h) ∙ ap (λ (n : ℕ). take n ws) (sym (add-one i))))

-- three writes end to end
pub sets_three : (l : List ℕ) {l₁ l₂ l₃ : List ℕ} (at m n : ℕ) (A B C : List ℕ) → l₁ ≡ sets l at A → l₂ ≡ sets l₁ (at + m) B → l₃ ≡ sets l₂ (at + n) C
    → length A ≡ m → m + length B ≡ n → l₃ ≡ sets l at (A ++ (B ++ C))
sets_three l at m n A B C e₁ e₂ e₃ a b =
    let s₂ = sets_then l at (at + m) A B e₁ e₂ (omega arith) in
    sets_then l at (at + n) (A ++ B) C s₂ e₃ (omega (arith, length-append A B)) ∙ ap (sets l at) (append_assoc A B C)

-- four
pub sets_four : (l : List ℕ) {l₁ l₂ l₃ l₄ : List ℕ} (at m n o : ℕ) (A B C D : List ℕ) → l₁ ≡ sets l at A → l₂ ≡ sets l₁ (at + m) B → l₃ ≡ sets l₂ (at + n) C
    → l₄ ≡ sets l₃ (at + o) D → length A ≡ m → m + length B ≡ n → n + length C ≡ o → l₄ ≡ sets l at (A ++ (B ++ (C ++ D)))
sets_four l at m n o A B C D e₁ e₂ e₃ e₄ a b c =
    let s₂ = sets_then l at (at + m) A B e₁ e₂ (omega arith) in
    sets_three l at n o (A ++ B) C D s₂ e₃ e₄ (omega (arith, length-append A B)) c ∙ ap (sets l at) (append_assoc A B (C ++ D))
