-- A text's lines, as the loops meet them: what is left of the line to fill, and the text past the lines that are passed.
use Prim.Native.Nat.{ℕ, zero, suc, ◌+◌, ◌-◌, ◌≤◌, ◌<◌}
use native.Mathlib.Numerals.{sub-one}
use native.Mathlib.Omega.{arith}
use mathlib.Core.Path.{◌≡◌, refl, sym, ◌∙◌}
use mathlib.Core.List.{List, [], ◌++◌}
use lib.ListN.{length, take, drop, get_or, length-drop}
use lib.Seq.{take_all}
use borrow.Author.Tests.{eq-eqb, ne_eqb}
use Rattle.report_text.proofs.Laws.{rest_more, rest_none}
use Rattle.report_words.specs.declared.Refusal.{Refusal}
use Rattle.report_words.specs.Lines.{letter, filled, past_lines}

module _ (v : Refusal) (t : List ℕ) (k : ℕ) where
  module _ (h : k < length t) where
    pub filled_more :
        (get_or t k 0 ≡ 10 → ⊥) → filled v (drop k t) ≡ letter v (get_or t k 0) ++ filled v (drop (k + 1) t)
    unfolding filled
    filled_more n = rw (rest_more t k h, ne_eqb (get_or t k 0) 10 n)

    pub filled-last : get_or t k 0 ≡ 10 → filled v (drop k t) ≡ letter v (get_or t k 0) ++ []
    unfolding filled
    filled-last e = rw (rest_more t k h, eq-eqb (get_or t k 0) 10 e)

  pub filled_none : length t ≤ k → filled v (drop k t) ≡ []
  unfolding filled
  filled_none h = rw (rest_none t k h)

past-nothing : (n : ℕ) → past_lines n [] ≡ []
unfolding past_lines
past-nothing zero = refl
past-nothing (suc n) = refl

module _ (t : List ℕ) (k n : ℕ) (whole : List ℕ) (inv : past_lines n (drop k t) ≡ whole) where
  pub past-none : length t ≤ k → drop k t ≡ whole
  past-none h = rest_none t k h ∙ sym (past-nothing n) ∙ rw (rest_none t k h) at inv

  pub past_here : n ≡ 0 → drop k t ≡ whole
  unfolding past_lines
  past_here e = rw e at inv

module _ (t : List ℕ) (k : ℕ) (h : k < length t) where
  pub past-other :
      (n : ℕ) (whole : List ℕ)
      → past_lines n (drop k t) ≡ whole
      → (n ≡ 0 → ⊥)
      → (get_or t k 0 ≡ 10 → ⊥)
      → past_lines n (drop (k + 1) t) ≡ whole
  unfolding past_lines
  past-other zero whole inv z e = absurd (z refl)
  past-other (suc n) whole inv z e = rw (rest_more t k h, ne_eqb (get_or t k 0) 10 e) at inv

  pub past-line :
      (n : ℕ) (whole : List ℕ)
      → past_lines n (drop k t) ≡ whole
      → (n ≡ 0 → ⊥)
      → get_or t k 0 ≡ 10
      → past_lines (n - 1) (drop (k + 1) t) ≡ whole
  unfolding past_lines
  past-line zero whole inv z e = absurd (z refl)
  past-line (suc n) whole inv z e = rw sub-one (rw (rest_more t k h, eq-eqb (get_or t k 0) 10 e) at inv)

-- a text from where its line begins
pub rest_is : (t : List ℕ) (k : ℕ) {rest : List ℕ} → drop k t ≡ rest → take (length t - k) (drop k t) ≡ rest
rest_is t k e = take_all (length t - k) (drop k t) (rw length-drop (omega arith)) ∙ e
