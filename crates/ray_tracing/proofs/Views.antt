-- What one sender sees of the tables. Two lent states are alike to it where its own records differ in nothing but their numbers, and these
-- stand in the same order. Its own actions keep them alike and are answered alike, until one meets 40; actions that write nothing of the
-- sender's, on either side, keep them alike too. C is any relation of the two counters that is kept with it: which of them may meet 40 alone
-- goes by it.
use Prim.Native.Nat.{ℕ, ◌+◌, ◌/◌, ◌%◌, ◌^◌, ◌≤◌, ◌<◌}
use native.Mathlib.Omega.{arith}
use mathlib.Core.Path.{◌≡◌, refl, sym, ap, ◌∙◌, subst}
use mathlib.Core.Bool.{Bool, true, false, ◌&&◌, not}
use mathlib.Core.Option.{Option, none, some, get_or}
use mathlib.Core.List.{List, [], ◌∷◌}
use lib.ListN.{length}
use lib.Dec.{eqb, ltb}
use borrow.Author.Tests.{eqb-true, eqb-false, ne_eqb, ltb-true, ltb-false, lt-ltb, le-ltb, not-true}
use Rattle.ray_tracing.specs.declared.Blas.{Blas}
use Rattle.ray_tracing.specs.declared.Tlas.{Tlas}
use Rattle.ray_tracing.specs.Causes.{Cause, cause, unbuilt_in_use, bare}
use Rattle.ray_tracing.specs.Submission.{Lent, Package, Action, build, use_tlas, malformed, Answer, accepted, refused, Outcome, ◌leaving◌, left, ◌followed_by◌, later, unless_cause, cause_when, ◌or_else◌, first, most_dependencies, blas_size, tlas_size, tlas_count, blas, tlas, dependencies_of, mention_blas, mention_package, too_many, compacted, before, build_blases, build_tlas, unnumbered, build_tlases, unusable_blas, unusable, act, step, run, submission}
use Rattle.ray_tracing.specs.History.{every, among}
use Rattle.ray_tracing.specs.EitherOrder.{Sender, Structure, a_blas, a_tlas, own_structure, number_of, SameNewer, own_package, own_action}
use Rattle.ray_tracing.proofs.Tables.{blas_with, tlas_with}
use Rattle.ray_tracing.proofs.Firsts.{or_none, outside, inside, within, left-later, left-unless, left_then}
use Rattle.ray_tracing.proofs.Sound.{Sound, fit, sound_blases, blases-length, mention-built, mention-kept}
use Rattle.ray_tracing.proofs.Cuts.{submission-run}
use Rattle.ray_tracing.proofs.Builds.{blas_if, blas-built, tlas_if, one_put}
use Rattle.ray_tracing.proofs.Allowed.{and_true}

-- ---- numbers, by what has them: the Build at hand, a record, or nothing, whose number is 0

pub data Held : Type 0 where
  now : Held
  old : Option Structure → Held

abbrev pub number_in : Lent → Option Structure → ℕ
number_in l none = 0
number_in l (some x) = number_of l x

abbrev pub value : ℕ → Lent → Held → ℕ
value n l now = n
value n l (old x) = number_in l x

abbrev pub has : Sender → Held → Bool
has d now = true
has d (old none) = true
has d (old (some x)) = own_structure d x

-- with n and m for the Builds at hand
abbrev pub Order : Sender → ℕ → ℕ → Lent → Lent → Type 0
Order d n m l r = (x y : Held) → has d x ≡ true → has d y ≡ true → ltb (value n l x) (value n l y) ≡ ltb (value m r x) (value m r y)

-- ---- one state, as the sender needs it: its lists stay its own, and the next number is above all of its own

pub record Own (d : Sender) (n : ℕ) (l : Lent) : Type 0 where
  pub sound : Sound l
  pub lists : (t : ℕ) → t < tlas_count l → d.tlas t ≡ true → every d.blas (dependencies_of l t) ≡ true
  pub below : ¬ (l.counter ≡ 0) → (x : Held) → has d x ≡ true → value n l x < l.counter

-- ---- two states

abbrev unnumbered_blas : Blas → Blas
unnumbered_blas r = blas_with r.compacted_state 0 r

-- what is kept of the two counters
abbrev pub Relation : Type 1
Relation = ℕ → ℕ → Type 0

pub record Alike (C : Relation) (d : Sender) (n m : ℕ) (l r : Lent) : Type 0 where
  pub counters : C l.counter r.counter
  pub this : Own d n l
  pub that : Own d m r
  pub blas_bytes : length l.blases ≡ length r.blases
  pub tlas_bytes : length l.tlases ≡ length r.tlases
  pub blases : (b : ℕ) → d.blas b ≡ true → unnumbered_blas (blas l b) ≡ unnumbered_blas (blas r b)
  pub tlases : (t : ℕ) → d.tlas t ≡ true → tlas_with 0 (tlas l t) ≡ tlas_with 0 (tlas r t)
  pub lists : (t : ℕ) → d.tlas t ≡ true → dependencies_of l t ≡ dependencies_of r t
  pub order : Order d n m l r

-- ---- a write: r is l, of the sender's records those that s names with the number n, a Blas of them Idle, a Tlas of them listing ds

abbrev given : Bool → List ℕ → Option (List ℕ)
given b ds = elim b [ true ↦ some ds | false ↦ none ]

pub record Wrote (d : Sender) (n : ℕ) (s : Structure → Bool) (ds : List ℕ) (l r : Lent) : Type 0 where
  pub blases : (b : ℕ) → d.blas b ≡ true → blas r b ≡ blas_if (s (a_blas b)) n (blas l b)
  pub tlases : (t : ℕ) → d.tlas t ≡ true → tlas r t ≡ tlas_if (given (s (a_tlas t)) ds) n (tlas l t)
  pub lists : (t : ℕ) → d.tlas t ≡ true → dependencies_of r t ≡ get_or (given (s (a_tlas t)) ds) (dependencies_of l t)
  pub blas_bytes : length r.blases ≡ length l.blases
  pub tlas_bytes : length r.tlases ≡ length l.tlases

-- whose number one has after it
abbrev taken : Bool → Held → Held
taken true x = now
taken false x = x

abbrev named : (Structure → Bool) → Held → Bool
named s now = false
named s (old none) = false
named s (old (some x)) = s x

has_taken : (d : Sender) (b : Bool) (x : Held) → has d x ≡ true → has d (taken b x) ≡ true
has_taken d true x h = refl
has_taken d false x h = h

module _ (d : Sender) where
  wrote_value : {n : ℕ} {s : Structure → Bool} {ds : List ℕ} {l r : Lent} → Wrote d n s ds l r → (x : Held) → has d x ≡ true
      → value n r x ≡ value n l (taken (named s x) x)
  wrote_value w now h = refl
  wrote_value w (old none) h = refl
  wrote_value {n} {s} {ds} {l} w (old (some (a_blas b))) h = ap (λ (x : Blas). x.built_index) (w.blases b h) ∙ go (s (a_blas b))
    where
      go : (t : Bool) → (blas_if t n (blas l b)).built_index ≡ value n l (taken t (old (some (a_blas b))))
      go true = refl
      go false = refl
  wrote_value {n} {s} {ds} {l} w (old (some (a_tlas t))) h = ap (λ (x : Tlas). x.built_index) (w.tlases t h) ∙ go (s (a_tlas t))
    where
      go : (b : Bool) → (tlas_if (given b ds) n (tlas l t)).built_index ≡ value n l (taken b (old (some (a_tlas t))))
      go true = refl
      go false = refl

  -- nothing of the sender's is named: nothing of it is written
  wrote_none : {n m : ℕ} {s : Structure → Bool} {ds : List ℕ} {l r : Lent} → Wrote d n s ds l r → ((x : Structure) → own_structure d x ≡ true → s x ≡ false)
      → Wrote d m (λ x. false) [] l r
  wrote_none {n} {m} {s} {ds} {l} w k =
      record {
        blases = λ b h. w.blases b h ∙ ap (λ (t : Bool). blas_if t n (blas l b)) (k (a_blas b) h);
        tlases = λ t h. w.tlases t h ∙ ap (λ (b : Bool). tlas_if (given b ds) n (tlas l t)) (k (a_tlas t) h);
        lists = λ t h. w.lists t h ∙ ap (λ (b : Bool). get_or (given b ds) (dependencies_of l t)) (k (a_tlas t) h);
        blas_bytes = w.blas_bytes;
        tlas_bytes = w.tlas_bytes;
      }

  own-wrote : {i n : ℕ} {s : Structure → Bool} {ds : List ℕ} {l r : Lent} → Own d i l → Wrote d n s ds l r → Sound r → every d.blas ds ≡ true
      → (¬ (r.counter ≡ 0) → (¬ (l.counter ≡ 0)) × (l.counter ≤ r.counter) × (n < r.counter)) → Own d n r
  own-wrote {i} {n} {s} {ds} {l} {r} o w f e c =
      record {
        sound = f;
        lists = λ t k h. rw (w.lists t h) (go (s (a_tlas t)) (dependencies_of l t) (o.lists t (rw w.tlas_bytes at k) h));
        below = λ z x h. rw (wrote_value w x h) (bound z (taken (named s x) x) (has_taken d (named s x) x h));
      }
    where
      go : (b : Bool) (ids : List ℕ) → every d.blas ids ≡ true → every d.blas (get_or (given b ds) ids) ≡ true
      go true ids k = e
      go false ids k = k

      bound : ¬ (r.counter ≡ 0) → (x : Held) → has d x ≡ true → value n l x < r.counter
      bound z now h = (c z).2
      bound z (old x) h = omega (arith, (c z).1, o.below (c z).0 (old x) h)

  alike_wrote : {C : Relation} {i j n m : ℕ} {s : Structure → Bool} {ds : List ℕ} {l l' r r' : Lent} → Alike C d i j l r → Order d n m l r
      → Wrote d n s ds l l' → Wrote d m s ds r r' → C l'.counter r'.counter → Own d n l' → Own d m r' → Alike C d n m l' r'
  alike_wrote {C} {i} {j} {n} {m} {s} {ds} {l} {l'} {r} {r'} v q w u c a b =
      record {
        counters = c;
        this = a;
        that = b;
        blas_bytes = w.blas_bytes ∙ v.blas_bytes ∙ sym u.blas_bytes;
        tlas_bytes = w.tlas_bytes ∙ v.tlas_bytes ∙ sym u.tlas_bytes;
        blases = λ b h. ap unnumbered_blas (w.blases b h) ∙ blas-go (s (a_blas b)) b h ∙ sym (ap unnumbered_blas (u.blases b h));
        tlases = λ t h. ap (tlas_with 0) (w.tlases t h) ∙ tlas-go (s (a_tlas t)) t h ∙ sym (ap (tlas_with 0) (u.tlases t h));
        lists = λ t h. w.lists t h ∙ ap (get_or (given (s (a_tlas t)) ds)) (v.lists t h) ∙ sym (u.lists t h);
        order =
            λ x y h k. (λ i. ltb (wrote_value w x h i) (wrote_value w y k i))
            ∙ q (taken (named s x) x) (taken (named s y) y) (has_taken d (named s x) x h) (has_taken d (named s y) y k)
            ∙ sym (λ i. ltb (wrote_value u x h i) (wrote_value u y k i));
      }
    where
      blas-go : (t : Bool) (b : ℕ) → d.blas b ≡ true → unnumbered_blas (blas_if t n (blas l b)) ≡ unnumbered_blas (blas_if t m (blas r b))
      blas-go true b h = ap (blas_with 0 0) (v.blases b h)
      blas-go false b h = v.blases b h

      tlas-go : (c : Bool) (t : ℕ) → d.tlas t ≡ true → tlas_with 0 (tlas_if (given c ds) n (tlas l t)) ≡ tlas_with 0 (tlas_if (given c ds) m (tlas r t))
      tlas-go true t h = v.tlases t h
      tlas-go false t h = v.tlases t h

  -- ---- the Build at hand

  -- it takes a number above all
  fresh : {C : Relation} {i j : ℕ} {l r : Lent} → Alike C d i j l r → ¬ (l.counter ≡ 0) → ¬ (r.counter ≡ 0) → Order d l.counter r.counter l r
  fresh {l = l} {r = r} v a b now now h k = le-ltb l.counter l.counter (omega arith) ∙ sym (le-ltb r.counter r.counter (omega arith))
  fresh {l = l} {r = r} v a b now (old y) h k =
      le-ltb l.counter (number_in l y) (omega (arith, v.this.below a (old y) k)) ∙ sym (le-ltb r.counter (number_in r y) (omega (arith, v.that.below b (old y) k)))
  fresh {l = l} {r = r} v a b (old x) now h k =
      lt-ltb (number_in l x) l.counter (v.this.below a (old x) h) ∙ sym (lt-ltb (number_in r x) r.counter (v.that.below b (old x) h))
  fresh v a b (old x) (old y) h k = v.order (old x) (old y) h k

  -- and is over
  own_settled : {n : ℕ} {l : Lent} → Own d n l → Own d 0 l
  own_settled {n} {l} o = record { sound = o.sound; lists = o.lists; below = λ z. go z }
    where
      go : ¬ (l.counter ≡ 0) → (x : Held) → has d x ≡ true → value 0 l x < l.counter
      go z now h = o.below z (old none) refl
      go z (old x) h = o.below z (old x) h

  settled : {C : Relation} {n m : ℕ} {l r : Lent} → Alike C d n m l r → Alike C d 0 0 l r
  settled {C} {n} {m} {l} {r} v =
      record {
        counters = v.counters;
        this = own_settled v.this;
        that = own_settled v.that;
        blas_bytes = v.blas_bytes;
        tlas_bytes = v.tlas_bytes;
        blases = v.blases;
        tlases = v.tlases;
        lists = v.lists;
        order = go;
      }
    where
      go : Order d 0 0 l r
      go now now h k = refl
      go now (old y) h k = v.order (old none) (old y) refl k
      go (old x) now h k = v.order (old x) (old none) h refl
      go (old x) (old y) h k = v.order (old x) (old y) h k

  -- ---- a state and itself, what is newer, and the other way round

  pub alike_self : {C : Relation} {l : Lent} → C l.counter l.counter → Own d 0 l → Alike C d 0 0 l l
  alike_self c o =
      record { counters = c; this = o; that = o; blas_bytes = refl; tlas_bytes = refl; blases = λ b h. refl; tlases = λ t h. refl; lists = λ t h. refl; order = λ x y h k. refl }

  -- with another relation of the counters
  pub alike_with : {C C' : Relation} {n m : ℕ} {l r : Lent} → C' l.counter r.counter → Alike C d n m l r → Alike C' d n m l r
  alike_with c v =
      record {
        counters = c;
        this = v.this;
        that = v.that;
        blas_bytes = v.blas_bytes;
        tlas_bytes = v.tlas_bytes;
        blases = v.blases;
        tlases = v.tlases;
        lists = v.lists;
        order = v.order;
      }

  pub alike_newer : {C : Relation} {n m : ℕ} {l r : Lent} → Alike C d n m l r → SameNewer d l r
  alike_newer v x y h k = v.order (old (some y)) (old (some x)) k h

  pub alike_sym : {C : Relation} {n m : ℕ} {l r : Lent} → Alike C d n m l r → Alike (λ a b. C b a) d m n r l
  alike_sym v =
      record {
        counters = v.counters;
        this = v.that;
        that = v.this;
        blas_bytes = sym v.blas_bytes;
        tlas_bytes = sym v.tlas_bytes;
        blases = λ b h. sym (v.blases b h);
        tlases = λ t h. sym (v.tlases t h);
        lists = λ t h. sym (v.lists t h);
        order = λ x y h k. sym (v.order x y h k);
      }

  -- ---- a Build's writes

  abbrev blases_in : List ℕ → Structure → Bool
  blases_in bs (a_blas b) = among b bs
  blases_in bs (a_tlas t) = false

  abbrev tlas_is : ℕ → Structure → Bool
  tlas_is i (a_blas b) = false
  tlas_is i (a_tlas t) = eqb t i

  module _ {i : ℕ} {l : Lent} (o : Own d i l) (bs : List ℕ) (e : first (mention_blas l) bs ≡ none) where
    wrote-blases : Wrote d l.counter (blases_in bs) [] l (build_blases bs l)
    wrote-blases =
        record {
          blases = λ b h. blas-built l.counter bs l.blases b o.sound.fits e;
          tlases = λ t h. refl;
          lists = λ t h. refl;
          blas_bytes = blases-length l.counter bs l.blases;
          tlas_bytes = refl;
        }

    own-blases : {n : ℕ} {t : Structure → Bool} → n ≤ l.counter → ¬ (l.counter ≡ 0) → Wrote d n t [] l (build_blases bs l) → Own d n (build_blases bs l)
    own-blases k z w = let f = o.sound.fits in own-wrote o w (sound_blases bs l e o.sound) refl (λ c. (z, omega arith, omega arith))

  module _ {i : ℕ} {l : Lent} (o : Own d i l) (n : ℕ) (p : Package) (f : n < 2 ^ 64) (e : mention_package l p ≡ none) (s : length p.dependencies ≤ most_dependencies) where
    wrote-tlas : Wrote d n (tlas_is p.tlas) p.dependencies l (build_tlas n p l)
    wrote-tlas =
        let one = one_put n p l f e s o.sound in
        record { blases = λ b h. refl; tlases = λ t h. one.tlases t; lists = λ t h. one.lists t; blas_bytes = refl; tlas_bytes = one.tlas_bytes }

    own-tlas : {t : Structure → Bool} {ds : List ℕ} → every d.blas ds ≡ true → Wrote d i t ds l (build_tlas n p l) → Own d i (build_tlas n p l)
    own-tlas k w = own-wrote o w (one_put n p l f e s o.sound).sound k (λ c. (c, omega arith, o.below c now refl))

-- ---- causes, the same or one of them 40

-- a list of more than a Tlas may have
abbrev too_long : Package → Option Cause
too_long p = cause_when (ltb most_dependencies (length p.dependencies)) (bare 4)

-- the first alone only where C lets its counter be 0 and the second's not
data Met (C : Relation) (c d : Option Cause) : Type 0 where
  same : c ≡ d → Met C c d
  this40 : {n m : ℕ} → C n m → n ≡ 0 → ¬ (m ≡ 0) → c ≡ some (bare 40) → Met C c d
  that40 : d ≡ some (bare 40) → Met C c d

met_or : {C : Relation} (c c' e f : Option Cause) → c ≡ c' → Met C e f → Met C (c or_else e) (c' or_else f)
met_or {C} c c' e f q h = subst (λ (x : Option Cause). Met C (c or_else e) (x or_else f)) q (go c)
  where
    go : (c : Option Cause) → Met C (c or_else e) (c or_else f)
    go none = h
    go (some x) = same refl

met_40 : {C : Relation} (n m : ℕ) (e f : Option Cause) → C n m → e ≡ f
    → Met C (cause_when (eqb n 0) (bare 40) or_else e) (cause_when (eqb m 0) (bare 40) or_else f)
met_40 {C} n m e f c q = go (eqb n 0) (eqb m 0) refl refl
  where
    go : (a b : Bool) → eqb n 0 ≡ a → eqb m 0 ≡ b → Met C (cause_when a (bare 40) or_else e) (cause_when b (bare 40) or_else f)
    go true true x y = same refl
    go true false x y = this40 c (eqb-true n 0 x) (eqb-false m 0 y) refl
    go false true x y = that40 refl
    go false false x y = same q

first_same : {A : Type 0} (f g : A → Option Cause) (t : A → Bool) → ((x : A) → t x ≡ true → f x ≡ g x) → (xs : List A) → every t xs ≡ true → first f xs ≡ first g xs
first_same f g t k [] e = refl
first_same f g t k (x ∷ xs) e =
    let a = and_true (t x) (every t xs) e in
    λ i. k x a.0 i or_else first_same f g t k xs a.1 i

-- the one is 0 where the other is
zero_same : (a b : ℕ) → ltb 0 a ≡ ltb 0 b → eqb a 0 ≡ eqb b 0
zero_same a b e = go (ltb 0 a) refl
  where
    go : (t : Bool) → ltb 0 a ≡ t → eqb a 0 ≡ eqb b 0
    go true q =
        ne_eqb a 0 (λ (z : a ≡ 0). omega (arith, ltb-true 0 a q)) ∙ sym (ne_eqb b 0 (λ (z : b ≡ 0). omega (arith, ltb-true 0 b (sym e ∙ q))))
    go false q =
        let x : a ≡ 0 = omega (arith, ltb-false 0 a q) in
        let y : b ≡ 0 = omega (arith, ltb-false 0 b (sym e ∙ q)) in
        rw (x, y)

other_id : (t : ℕ → Bool) (a b : ℕ) → t a ≡ true → t b ≡ false → eqb a b ≡ false
other_id t a b h k = ne_eqb a b (λ (q : a ≡ b). let z : ◌≡◌ {A = ℕ} 0 1 = cc in omega arith)

pub not_among : (t : ℕ → Bool) (xs : List ℕ) → every (λ x. not (t x)) xs ≡ true → (b : ℕ) → t b ≡ true → among b xs ≡ false
not_among t [] e b h = refl
not_among t (x ∷ xs) e b h =
    let a = and_true (not (t x)) _ e in
    rw (other_id t b x h (not-true (t x) a.0), not_among t xs a.1 b h)

used-inside : (l : Lent) (t : ℕ) → before l (use_tlas t) ≡ none → t < tlas_count l
unfolding before
used-inside l t e = inside (tlas_count l) t e

-- ---- C is kept where both counters step, or where the first alone does

abbrev pub BothStep : Relation → Type 0
BothStep C = (n m : ℕ) → C n m → ¬ (n ≡ 0) → ¬ (m ≡ 0) → n < 2 ^ 64 → m < 2 ^ 64 → C ((n + 1) % 2 ^ 64) ((m + 1) % 2 ^ 64)

abbrev pub FirstSteps : Relation → Type 0
FirstSteps C = (n m : ℕ) → C n m → ¬ (n ≡ 0) → n < 2 ^ 64 → C ((n + 1) % 2 ^ 64) m

-- an action of another's: it builds nothing of the sender's; what it lists or uses is no matter
abbrev pub elsewhere : Sender → Action → Bool
elsewhere d (build bs ps) = every (λ b. not (d.blas b)) bs && every (λ p. not (d.tlas p.tlas)) ps
elsewhere d (use_tlas t) = true
elsewhere d malformed = true

-- ---- outcomes: the same answer and states that are alike, or one of them meets 40

pub data Both (C : Relation) (d : Sender) : Outcome → Outcome → Type 0 where
  both : {a : Answer} {l r : Lent} → Alike C d 0 0 l r → Both C d (a leaving l) (a leaving r)
  first40 : {n m i : ℕ} {l : Lent} {o : Outcome} → C n m → n ≡ 0 → ¬ (m ≡ 0) → Both C d (refused i (bare 40) leaving l) o
  second40 : {i : ℕ} {r : Lent} {o : Outcome} → Both C d o (refused i (bare 40) leaving r)

module _ (C : Relation) (d : Sender) where
  both_unless : {l r : Lent} {o q : Outcome} (c e : Option Cause) → Met C c e → Alike C d 0 0 l r → (c ≡ none → e ≡ none → Both C d o q)
      → Both C d (unless_cause c l o) (unless_cause e r q)
  both_unless {l} {r} {o} {q} c e (same p) v k = subst (λ (x : Option Cause). Both C d (unless_cause c l o) (unless_cause x r q)) p (go c refl)
    where
      go : (x : Option Cause) → c ≡ x → Both C d (unless_cause x l o) (unless_cause x r q)
      go none a = k a (sym p ∙ a)
      go (some x) a = both v
  both_unless c e (this40 a z w p) v k = rw p (first40 a z w)
  both_unless c e (that40 p) v k = rw p second40

  both_then : {o q : Outcome} (f g : Lent → Outcome) → Both C d o q → ((l r : Lent) → Alike C d 0 0 l r → Both C d (f l) (g r)) → Both C d (o followed_by f) (q followed_by g)
  both_then f g (both {a = accepted} {l = l} {r = r} v) k = k l r v
  both_then f g (both {a = refused i c} v) k = both v
  both_then f g (first40 c z w) k = first40 c z w
  both_then f g second40 k = second40

  both_later : {o q : Outcome} (n : ℕ) → Both C d o q → Both C d (later n o) (later n q)
  both_later n (both {a = accepted} v) = both v
  both_later n (both {a = refused i c} v) = both v
  both_later n (first40 c z w) = first40 c z w
  both_later n second40 = second40

  -- ---- an action of the sender's

  module _ {n m : ℕ} {l r : Lent} (v : Alike C d n m l r) where
    zero-alike : (x : Structure) → own_structure d x ≡ true → eqb (number_of l x) 0 ≡ eqb (number_of r x) 0
    zero-alike x h = zero_same (number_of l x) (number_of r x) (v.order (old none) (old (some x)) refl h)

    before-alike : (a : Action) → own_action d a ≡ true → Met C (before l a) (before r a)
    unfolding before
    before-alike malformed e = same refl
    before-alike (use_tlas t) e = same (λ i. outside (v.tlas_bytes i / tlas_size) t)
    before-alike (build bs ps) e =
        met_or (too_many bs ps) (too_many bs ps) _ _ refl
        (met_or (first (mention_blas l) bs) (first (mention_blas r) bs) _ _ (λ i. first (λ b. outside (v.blas_bytes i / blas_size) b) bs)
        (met_or (first (mention_package l) ps) (first (mention_package r) ps) _ _
        (λ i. first (λ p. outside (v.tlas_bytes i / tlas_size) p.tlas or_else first (λ b. outside (v.blas_bytes i / blas_size) b) p.dependencies) ps)
        (met_40 l.counter r.counter (first (compacted l) bs) (first (compacted r) bs) v.counters
        (first_same (compacted l) (compacted r) d.blas state bs (and_true (every d.blas bs) _ e).0))))
      where
        state : (b : ℕ) → d.blas b ≡ true → compacted l b ≡ compacted r b
        state b h = ap (λ (x : Blas). cause_when (eqb x.compacted_state 3) (cause 41 b 0 0)) (v.blases b h)

    unnumbered-alike : (t : ℕ) (ds : List ℕ) → every d.blas ds ≡ true → first (unnumbered l t) ds ≡ first (unnumbered r t) ds
    unnumbered-alike t ds e =
        first_same (unnumbered l t) (unnumbered r t) d.blas (λ b h. ap (λ (z : Bool). cause_when z (cause 42 b t 0)) (zero-alike (a_blas b) h)) ds e

    unusable-alike : (t : ℕ) → t < tlas_count l → d.tlas t ≡ true → unusable l t ≡ unusable r t
    unusable-alike t k h =
        (λ i. cause_when (zero-alike (a_tlas t) h i) (cause 43 t 0 0)
        or_else first_same (unusable_blas l t) (unusable_blas r t) d.blas each (dependencies_of l t) (v.this.lists t k h) i)
        ∙ ap (λ (ds : List ℕ). cause_when (eqb (tlas r t).built_index 0) (cause 43 t 0 0) or_else first (unusable_blas r t) ds) (v.lists t h)
      where
        each : (b : ℕ) → d.blas b ≡ true → unusable_blas l t b ≡ unusable_blas r t b
        each b g =
            λ i. cause_when (zero-alike (a_blas b) g i) (unbuilt_in_use t b)
            or_else cause_when (v.order (old (some (a_tlas t))) (old (some (a_blas b))) h g i) (cause 44 b t 0)
            or_else cause_when (eqb (v.blases b g i).destroyed 1) (cause 21 b 0 0)

  build-tlases : {n m : ℕ} {l r : Lent} → Alike C d n m l r → n < 2 ^ 64 → m < 2 ^ 64 → (ps : List Package) → every (own_package d) ps ≡ true
      → first too_long ps ≡ none → first (mention_package l) ps ≡ none → first (mention_package r) ps ≡ none
      → Both C d (build_tlases n ps l) (build_tlases m ps r)
  unfolding build_tlases
  build-tlases v f g [] e s x y = both (settled d v)
  build-tlases {n} {m} {l} {r} v f g (p ∷ ps) e s x y =
      let own = and_true (own_package d p) _ e in
      let ids = and_true (d.tlas p.tlas) (every d.blas p.dependencies) own.0 in
      let short = or_none (too_long p) _ s in
      let here = or_none (mention_package l p) _ x in
      let there = or_none (mention_package r p) _ y in
      let most = within most_dependencies (length p.dependencies) (bare 4) short.0 in
      let w = wrote-tlas d v.this n p f here.0 most in
      let u = wrote-tlas d v.that m p g there.0 most in
      both_unless (first (unnumbered l p.tlas) p.dependencies) (first (unnumbered r p.tlas) p.dependencies)
      (same (unnumbered-alike v p.tlas p.dependencies ids.1)) (settled d v)
      (λ a b. build-tlases {l = build_tlas n p l} {r = build_tlas m p r}
      (alike_wrote d v v.order w u v.counters (own-tlas d v.this n p f here.0 most ids.1 w) (own-tlas d v.that m p g there.0 most ids.1 u))
      f g ps own.1 short.1 (mention-kept n p l ps here.1) (mention-kept m p r ps there.1))

  module _ (next : BothStep C) where
    act-alike : {l r : Lent} → Alike C d 0 0 l r → (a : Action) → own_action d a ≡ true → before l a ≡ none → before r a ≡ none → Both C d (act l a) (act r a)
    unfolding act
    act-alike v malformed e x y = both v
    act-alike {l} {r} v (use_tlas t) e x y =
        both_unless (unusable l t) (unusable r t) (same (unusable-alike v t (used-inside l t x) e)) v (λ a b. both v)
    act-alike {l} {r} v (build bs ps) e x y =
        let f = fit l bs ps x in
        let g = fit r bs ps y in
        let a = eqb-false l.counter 0 f.counts in
        let b = eqb-false r.counter 0 g.counts in
        let w = wrote-blases d v.this bs f.blases in
        let u = wrote-blases d v.that bs g.blases in
        build-tlases
        (alike_wrote d v (fresh d v a b) w u (next l.counter r.counter v.counters a b v.this.sound.fits v.that.sound.fits) (own-blases d v.this bs f.blases (omega arith) a w) (own-blases d v.that bs g.blases (omega arith) b u))
        v.this.sound.fits v.that.sound.fits ps (and_true (every d.blas bs) _ e).1 f.short (mention-built bs l ps f.tlases) (mention-built bs r ps g.tlases)

    pub step-alike : {l r : Lent} → Alike C d 0 0 l r → (a : Action) → own_action d a ≡ true → Both C d (step l a) (step r a)
    unfolding step
    step-alike {l} {r} v a e = both_unless (before l a) (before r a) (before-alike v a e) v (act-alike v a e)

    pub run-alike : {l r : Lent} → Alike C d 0 0 l r → (acts : List Action) → every (own_action d) acts ≡ true → Both C d (run l acts) (run r acts)
    unfolding run
    run-alike v [] e = both v
    run-alike {l} {r} v (a ∷ more) e =
        let own = and_true (own_action d a) _ e in
        both_then (λ q. later 1 (run q more)) (λ q. later 1 (run q more)) (step-alike v a own.0) (λ p q w. both_later 1 (run-alike w more own.1))

    pub submission-alike : {l r : Lent} → Alike C d 0 0 l r → (acts : List Action) → every (own_action d) acts ≡ true → Both C d (submission l acts) (submission r acts)
    submission-alike {l} {r} v acts e = rw (submission-run l acts v.this.sound, submission-run r acts v.that.sound) (run-alike v acts e)

  -- ---- an action of another's

  -- a write of nothing of the sender's
  alike_none : {l l' r : Lent} → Alike C d 0 0 l r → Wrote d 0 (λ x. false) [] l l' → C l'.counter r.counter → Own d 0 l' → Alike C d 0 0 l' r
  alike_none v w c o = alike_wrote d v v.order w (record { blases = λ b h. refl; tlases = λ t h. refl; lists = λ t h. refl; blas_bytes = refl; tlas_bytes = refl }) c o v.that

  other-tlases : {l r : Lent} → Alike C d 0 0 l r → (n : ℕ) → n < 2 ^ 64 → (ps : List Package) → every (λ p. not (d.tlas p.tlas)) ps ≡ true
      → first too_long ps ≡ none → first (mention_package l) ps ≡ none
      → Alike C d 0 0 (left (build_tlases n ps l)) r
  unfolding build_tlases
  other-tlases v n f [] e s x = v
  other-tlases {l} {r} v n f (p ∷ ps) e s x =
      let miss = and_true (not (d.tlas p.tlas)) _ e in
      let short = or_none (too_long p) _ s in
      let here = or_none (mention_package l p) _ x in
      let most = within most_dependencies (length p.dependencies) (bare 4) short.0 in
      let w = wrote_none d (wrote-tlas d v.this n p f here.0 most) (apart (not-true (d.tlas p.tlas) miss.0)) in
      left-unless (λ q. Alike C d 0 0 q r) (first (unnumbered l p.tlas) p.dependencies) l (build_tlases n ps (build_tlas n p l)) v
      (other-tlases {l = build_tlas n p l} (alike_none v w v.counters (own-tlas d v.this n p f here.0 most refl w)) n f ps miss.1 short.1 (mention-kept n p l ps here.1))
    where
      apart : d.tlas p.tlas ≡ false → (x : Structure) → own_structure d x ≡ true → tlas_is d p.tlas x ≡ false
      apart k (a_blas b) h = refl
      apart k (a_tlas t) h = other_id d.tlas t p.tlas h k

  module _ (onward : FirstSteps C) where
    other_step : {l r : Lent} → Alike C d 0 0 l r → (a : Action) → elsewhere d a ≡ true → Alike C d 0 0 (left (step l a)) r
    unfolding step act
    other_step {l} {r} v a e = go a e (before l a) refl
      where
        apart : (bs : List ℕ) → every (λ b. not (d.blas b)) bs ≡ true → (x : Structure) → own_structure d x ≡ true → blases_in d bs x ≡ false
        apart bs k (a_blas b) h = not_among d.blas bs k b h
        apart bs k (a_tlas t) h = refl

        go : (a : Action) → elsewhere d a ≡ true → (c : Option Cause) → before l a ≡ c → Alike C d 0 0 (left (unless_cause c l (act l a))) r
        go a e (some c) q = v
        go malformed e none q = v
        go (use_tlas t) e none q = left-unless (λ x. Alike C d 0 0 x r) (unusable l t) l (accepted leaving l) v v
        go (build bs ps) e none q =
            let f = fit l bs ps q in
            let z = eqb-false l.counter 0 f.counts in
            let miss = and_true (every (λ b. not (d.blas b)) bs) _ e in
            let w = wrote_none d (wrote-blases d v.this bs f.blases) (apart bs miss.0) in
            other-tlases (alike_none v w (onward l.counter r.counter v.counters z v.this.sound.fits) (own-blases d v.this bs f.blases (omega arith) z w))
            l.counter v.this.sound.fits ps miss.1 f.short (mention-built bs l ps f.tlases)

    pub run-elsewhere : {l r : Lent} → Alike C d 0 0 l r → (acts : List Action) → every (elsewhere d) acts ≡ true → Alike C d 0 0 (left (run l acts)) r
    unfolding run
    run-elsewhere v [] e = v
    run-elsewhere {l} {r} v (a ∷ more) e =
        let own = and_true (elsewhere d a) _ e in
        left_then (λ x. Alike C d 0 0 x r) (step l a) _ (other_step v a own.0) (λ q g. rw left-later (run-elsewhere g more own.1))

    pub submission-elsewhere : {l r : Lent} → Alike C d 0 0 l r → (acts : List Action) → every (elsewhere d) acts ≡ true → Alike C d 0 0 (left (submission l acts)) r
    submission-elsewhere {l} {r} v acts e = rw (submission-run l acts v.this.sound) (run-elsewhere v acts e)
