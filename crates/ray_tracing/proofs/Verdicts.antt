-- Laws of verdicts: what a verdict that passes tells of its parts, and one part more, as a loop meets it.
use Prim.Native.Nat.{ℕ, zero, suc, ◌+◌, ◌-◌, ◌*◌, ◌/◌, ◌≤◌, ◌<◌}
use native.Mathlib.Nat.{not-suc-le-zero, le_of_suc-le-suc, add-zero, le-div_iff_mul-le}
use native.Mathlib.Omega.{arith}
use mathlib.Core.Bool.{Bool, true, false, cond}
use mathlib.Core.Path.{◌≡◌, refl, sym, ap, ◌∙◌}
use mathlib.Core.List.{List}
use lib.ListN.{length}
use Rattle.ray_tracing.specs.Causes.{Cause}
use Rattle.ray_tracing.specs.Plan.{Verdict, passed, refused, on, ◌or◌, at_e, first_of, first_drawing}

-- ---- what passing tells

pub refused_not_passed : (e f : ℕ) (c : Cause) → refused e f c ≡ passed → ⊥
refused_not_passed e f c h =
    let z : ◌≡◌ {A = ℕ} 0 1 = cc in
    omega arith

pub or-passed : (a b : Verdict) → (a or b) ≡ passed → (a ≡ passed) × (b ≡ passed)
or-passed passed b h = (refl, h)
or-passed (refused e f c) b h = absurd (refused_not_passed e f c h)

pub on-passed : (t : Bool) (e f : ℕ) (c : Cause) → on t (refused e f c) ≡ passed → t ≡ false
on-passed false e f c h = refl
on-passed true e f c h = absurd (refused_not_passed e f c h)

pub on_true : (t : Bool) (v : Verdict) → on t v ≡ passed → t ≡ true → v ≡ passed
on_true true v h g = h
on_true false v h g =
    let z : ◌≡◌ {A = ℕ} 0 1 = cc in
    absurd (omega arith)

pub none-at_e : (e f n : ℕ) → at_e e f n ≡ passed → n ≡ 0
none-at_e e f zero h = refl
none-at_e e f (suc n) h =
    let z : ◌≡◌ {A = ℕ} 0 1 = cc in
    absurd (omega arith)

-- a cause that is there only if a test holds
pub none-cond : (t : Bool) (n : ℕ) → cond t n 0 ≡ 0 → t ≡ true → n ≡ 0
none-cond true n h g = h
none-cond false n h g =
    let z : ◌≡◌ {A = ℕ} 0 1 = cc in
    absurd (omega arith)

pub or_none : (v : Verdict) → (v or passed) ≡ v
or_none passed = refl
or_none (refused e f c) = refl

-- the record of an id inside its table is whole
pub record_whole : (w : ℕ) (t : List ℕ) (id : ℕ) → 0 < w → id < length t / w → id * w + w ≤ length t
record_whole w t id p h = omega (arith, (le-div_iff_mul-le {k = w} {x = id + 1} {y = length t} p).0 (omega arith))

-- ---- the first of many

pub each-passed : (f : ℕ → Verdict) (n i : ℕ) → first_of f i n ≡ passed → (k : ℕ) → k < n → f (i + k) ≡ passed
unfolding first_of
each-passed f zero i e k h = absurd (not-suc-le-zero h)
each-passed f (suc n) i e zero h = rw add-zero (or-passed (f i) _ e).0
each-passed f (suc n) i e (suc k) h =
    let m : i + 1 + k ≡ i + suc k = omega arith in
    rw m at (each-passed f n (i + 1) (or-passed (f i) _ e).1 k (le_of_suc-le-suc h))

pub all-passed : (f : ℕ → Verdict) (n i : ℕ) → ((k : ℕ) → k < n → f (i + k) ≡ passed) → first_of f i n ≡ passed
unfolding first_of
all-passed f zero i h = refl
all-passed f (suc n) i h =
    let here : f i ≡ passed = rw add-zero at (h 0 (omega arith)) in
    rw here (all-passed f n (i + 1) (λ k l. let e : i + suc k ≡ i + 1 + k = omega arith in rw e at (h (suc k) (omega arith))))

pub first-refused :
    (f : ℕ → Verdict) (e g : ℕ) (c : Cause) (n i k : ℕ)
    → k < n
    → ((j : ℕ) → j < k → f (i + j) ≡ passed)
    → f (i + k) ≡ refused e g c
    → first_of f i n ≡ refused e g c
unfolding first_of
first-refused f e g c zero i k l h r = absurd (not-suc-le-zero l)
first-refused f e g c (suc n) i zero l h r =
    let here : f i ≡ refused e g c = rw add-zero at r in
    rw here
first-refused f e g c (suc n) i (suc k) l h r =
    let here : f i ≡ passed = rw add-zero at (h 0 (omega arith)) in
    let there : i + suc k ≡ i + 1 + k = omega arith in
    rw here
    (first-refused f e g c n (i + 1) k (omega arith)
    (λ j m. let e : i + suc j ≡ i + 1 + j = omega arith in rw e at (h (suc j) (omega arith)))
    (rw there at r))

-- as a loop goes: what is left from i on is the whole

pub from_start : (f : ℕ → Verdict) (n : ℕ) → first_of f 0 (n - 0) ≡ first_of f 0 n
from_start f n = ap (first_of f 0) (omega arith)

module _ (f : ℕ → Verdict) (i n : ℕ) (whole : Verdict) (left : first_of f i (n - i) ≡ whole) where
  pub ended : n ≤ i → passed ≡ whole
  unfolding first_of
  ended h =
      let e : n - i ≡ 0 = omega arith in
      rw e at left

  module _ (h : i < n) where
    turn : (f i or first_of f (i + 1) (n - (i + 1))) ≡ whole
    unfolding first_of
    turn =
        let e : n - i ≡ suc (n - (i + 1)) = omega arith in
        rw e at left

    pub found : {v : Verdict} (e g : ℕ) (c : Cause) → v ≡ f i → v ≡ refused e g c → v ≡ whole
    found e g c p q = q ∙ rw (sym p ∙ q) at turn

    pub onward : f i ≡ passed → first_of f (i + 1) (n - (i + 1)) ≡ whole
    onward p = rw p at turn

-- ---- the first of many that draw in turn

module _ (f : ℕ → ℕ → Verdict) (count : ℕ → ℕ) where
  -- with the number of those drawn before each
  module _ (before : ℕ → ℕ) (more : (i : ℕ) → before (i + 1) ≡ before i + count i) where
    pub each-drawing :
        (n i : ℕ) → first_drawing f count i (before i) n ≡ passed → (k : ℕ) → k < n → f (i + k) (before (i + k)) ≡ passed
    unfolding first_drawing
    each-drawing zero i e k h = absurd (not-suc-le-zero h)
    each-drawing (suc n) i e zero h = rw add-zero (or-passed (f i (before i)) _ e).0
    each-drawing (suc n) i e (suc k) h =
        let m : i + 1 + k ≡ i + suc k = omega arith in
        let e' = (or-passed (f i (before i)) _ e).1 in
        rw m at (each-drawing n (i + 1) (rw (more i) e') k (le_of_suc-le-suc h))

  pub from_start_drawing : (n : ℕ) → first_drawing f count 0 0 (n - 0) ≡ first_drawing f count 0 0 n
  from_start_drawing n = ap (first_drawing f count 0 0) (omega arith)

  module _ (i g n : ℕ) (whole : Verdict) (left : first_drawing f count i g (n - i) ≡ whole) where
    pub ended-drawing : n ≤ i → passed ≡ whole
    unfolding first_drawing
    ended-drawing h =
        let e : n - i ≡ 0 = omega arith in
        rw e at left

    module _ (h : i < n) where
      turn-drawing : (f i g or first_drawing f count (i + 1) (g + count i) (n - (i + 1))) ≡ whole
      unfolding first_drawing
      turn-drawing =
          let e : n - i ≡ suc (n - (i + 1)) = omega arith in
          rw e at left

      pub found-drawing : {v : Verdict} (e k : ℕ) (c : Cause) → v ≡ f i g → v ≡ refused e k c → v ≡ whole
      found-drawing e k c p q = q ∙ rw (sym p ∙ q) at turn-drawing

      pub onward-drawing : f i g ≡ passed → first_drawing f count (i + 1) (g + count i) (n - (i + 1)) ≡ whole
      onward-drawing p = rw p at turn-drawing

-- what closes the goals of a loop to the first of many that is refused
pub ruleset each = (found, onward, ended)
