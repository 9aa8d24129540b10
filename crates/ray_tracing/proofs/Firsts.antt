-- Laws of causes, of outcomes and of tests on lists: what the first of several causes tells, and how outcomes follow on one another.
use Prim.Native.Nat.{ℕ, ◌+◌, ◌<◌, ◌≤◌}
use native.Mathlib.Nat.{add_assoc, zero-add}
use native.Mathlib.Omega.{arith}
use mathlib.Core.Path.{◌≡◌, refl, sym, ap, ◌∙◌}
use mathlib.Core.Bool.{Bool, true, false, ◌&&◌, ◌||◌, not}
use mathlib.Core.Option.{Option, none, some}
use mathlib.Core.List.{List, [], ◌∷◌}
use lib.Dec.{eqb, leb, ltb}
use borrow.Author.Tests.{ltb-true, ltb-false, leb-true, leb-false, eqb-true, le-leb, lt-leb, lt-ltb, le-ltb}
use Rattle.ray_tracing.specs.Guard.{refuse}
use Rattle.ray_tracing.specs.Causes.{Cause}
use Rattle.ray_tracing.specs.Submission.{Lent, accepted, refused, Outcome, ◌leaving◌, left, ◌followed_by◌, later, unless_cause, cause_when, ◌or_else◌, first, mentioned}
use Rattle.ray_tracing.specs.History.{every, while_holds, among}

-- ---- causes

pub or_none : (c d : Option Cause) → c or_else d ≡ none → (c ≡ none) × (d ≡ none)
or_none none d e = (refl, e)
or_none (some c) d e = let z : ◌≡◌ {A = ℕ} 0 1 = cc in absurd (omega arith)

pub none_or : {c d : Option Cause} → c ≡ none → d ≡ none → c or_else d ≡ none
none_or {c} {d} e f = rw e f

pub on_none : (t : Bool) (c : Cause) → cause_when t c ≡ none → t ≡ false
on_none false c e = refl
on_none true c e = let z : ◌≡◌ {A = ℕ} 0 1 = cc in absurd (omega arith)

-- a mention of an id in a table of n records; where it is not refused, the id is inside
abbrev pub outside : ℕ → ℕ → Option Cause
outside n i = mentioned (refuse (leb n i) 6 0)

pub inside : (n i : ℕ) → outside n i ≡ none → i < n
unfolding refuse
inside n i e = leb-false n i (go (leb n i) e)
  where
    go : (t : Bool) → mentioned (refuse t 6 0) ≡ none → t ≡ false
    go false e = refl
    go true e = let z : ◌≡◌ {A = ℕ} 0 1 = cc in absurd (omega arith)

pub inside-none : (n i : ℕ) → i < n → outside n i ≡ none
unfolding refuse
inside-none n i h = ap (λ (t : Bool). mentioned (refuse t 6 0)) (lt-leb n i h)

-- a count is within its limit where it is not refused
pub within : (most n : ℕ) (c : Cause) → cause_when (ltb most n) c ≡ none → n ≤ most
within most n c e = ltb-false most n (on_none (ltb most n) c e)

pub within_none : (most n : ℕ) (c : Cause) → n ≤ most → cause_when (ltb most n) c ≡ none
within_none most n c h = rw (le-ltb most n h)

module _ {A : Type 0} where
  pub first_while : (f : A → Option Cause) (t : A → Bool) (xs : List A) → first f xs ≡ none → first f (while_holds t xs) ≡ none
  first_while f t [] e = refl
  first_while f t (x ∷ xs) e = go (t x) (first_while f t xs (or_none (f x) (first f xs) e).1)
    where
      go : (b : Bool) → first f (while_holds t xs) ≡ none → first f (elim b [ true ↦ x ∷ while_holds t xs | false ↦ [] ]) ≡ none
      go true g = none_or (or_none (f x) (first f xs) e).0 g
      go false g = refl

pub first-among : (f : ℕ → Option Cause) (xs : List ℕ) (b : ℕ) → first f xs ≡ none → among b xs ≡ true → f b ≡ none
first-among f [] b e m = let z : ◌≡◌ {A = ℕ} 0 1 = cc in absurd (omega arith)
first-among f (x ∷ xs) b e m = go (eqb b x) refl (first-among f xs b (or_none (f x) (first f xs) e).1) m
  where
    go : (t : Bool) → eqb b x ≡ t → (among b xs ≡ true → f b ≡ none) → (t || among b xs) ≡ true → f b ≡ none
    go true q k m = rw (eqb-true b x q) (or_none (f x) (first f xs) e).0
    go false q k m = k m

-- ---- whether there is a cause, as a test

abbrev pub is_none : Option Cause → Bool
is_none none = true
is_none (some c) = false

pub is_none_or : (c d : Option Cause) → is_none (c or_else d) ≡ (is_none c && is_none d)
is_none_or none d = refl
is_none_or (some c) d = refl

pub is_none-on : (t : Bool) (c : Cause) → is_none (cause_when t c) ≡ not t
is_none-on true c = refl
is_none-on false c = refl

pub is_none_on_or : (t : Bool) (c : Cause) (d : Option Cause) → is_none (cause_when t c or_else d) ≡ (not t && is_none d)
is_none_on_or true c d = refl
is_none_on_or false c d = refl

pub is_none-first : {A : Type 0} (f : A → Option Cause) (t : A → Bool) → ((x : A) → is_none (f x) ≡ t x) → (xs : List A) → is_none (first f xs) ≡ every t xs
is_none-first f t g [] = refl
is_none-first f t g (x ∷ xs) = is_none_or (f x) (first f xs) ∙ (λ i. g x i && is_none-first f t g xs i)

pub not_ltb : (a b : ℕ) → not (ltb a b) ≡ leb b a
not_ltb a b = go (ltb a b) refl
  where
    go : (t : Bool) → ltb a b ≡ t → not t ≡ leb b a
    go true e = sym (lt-leb b a (ltb-true a b e))
    go false e = sym (le-leb b a (ltb-false a b e))

pub not_leb : (a b : ℕ) → not (leb a b) ≡ ltb b a
not_leb a b = go (leb a b) refl
  where
    go : (t : Bool) → leb a b ≡ t → not t ≡ ltb b a
    go true e = sym (le-ltb b a (leb-true a b e))
    go false e = sym (lt-ltb b a (leb-false a b e))

-- ---- outcomes

pub later-later : (m n : ℕ) (o : Outcome) → later m (later n o) ≡ later (m + n) o
later-later m n (accepted leaving l) = refl
later-later m n (refused i c leaving l) = ap (λ (k : ℕ). refused k c leaving l) (sym (add_assoc m n i))

pub later_zero : (o : Outcome) → later 0 o ≡ o
later_zero (accepted leaving l) = refl
later_zero (refused i c leaving l) = ap (λ (k : ℕ). refused k c leaving l) (zero-add i)

pub later_then : (n : ℕ) (o : Outcome) (f : Lent → Outcome) → later n (o followed_by f) ≡ (later n o followed_by λ r. later n (f r))
later_then n (accepted leaving l) f = refl
later_then n (refused i c leaving l) f = refl

pub then_then : (o : Outcome) (f g : Lent → Outcome) → (o followed_by f followed_by g) ≡ (o followed_by λ r. f r followed_by g)
then_then (accepted leaving l) f g = refl
then_then (refused i c leaving l) f g = refl

-- what follows need agree only on what an accepted outcome left
pub then_same : (P : Lent → Type 0) (o : Outcome) (f g : Lent → Outcome) → P (left o) → ((r : Lent) → P r → f r ≡ g r) → (o followed_by f) ≡ (o followed_by g)
then_same P (accepted leaving l) f g h e = e l h
then_same P (refused i c leaving l) f g h e = refl

pub then_ap : (o : Outcome) (f g : Lent → Outcome) → ((r : Lent) → f r ≡ g r) → (o followed_by f) ≡ (o followed_by g)
then_ap (accepted leaving l) f g e = e l
then_ap (refused i c leaving l) f g e = refl

pub left-later : (n : ℕ) (o : Outcome) → left (later n o) ≡ left o
left-later n (accepted leaving l) = refl
left-later n (refused i c leaving l) = refl

pub left-unless : (P : Lent → Type 0) (c : Option Cause) (l : Lent) (o : Outcome) → P l → P (left o) → P (left (unless_cause c l o))
left-unless P none l o p q = q
left-unless P (some c) l o p q = p

pub left_then : (P : Lent → Type 0) (o : Outcome) (f : Lent → Outcome) → P (left o) → ((r : Lent) → P r → P (left (f r))) → P (left (o followed_by f))
left_then P (accepted leaving l) f p g = g l p
left_then P (refused i c leaving l) f p g = p
