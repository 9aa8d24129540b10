-- What is lent agrees with the history's log through every action: after a reached action both tell the same counter, records and lists,
-- and the history stops exactly where the submission is refused.
use Prim.Native.Nat.{ℕ, suc, ◌+◌, ◌*◌, ◌/◌, ◌%◌, ◌^◌, ◌<◌, ◌≤◌}
use native.Mathlib.Nat.{mod-add-mod, mod-eq_of_lt}
use native.Mathlib.Omega.{arith}
use mathlib.Core.Path.{◌≡◌, refl, sym, ap, ◌∙◌}
use mathlib.Core.Bool.{Bool, true, false, ◌&&◌, ◌||◌, not}
use mathlib.Core.Option
use mathlib.Core.Option.{Option, none, some}
use mathlib.Core.List.{List, [], ◌∷◌}
use lib.ListN.{length, drop, get_or, length-drop}
use lib.Seq.{length-take-le}
use lib.Dec.{eqb, leb, ltb}
use borrow.Author.Tests.{eqb-false, ne_eqb}
use Rattle.ray_tracing.specs.declared.Blas.{Blas}
use Rattle.ray_tracing.specs.Layout.{size}
use Rattle.ray_tracing.specs.Causes.{Cause, cause}
use Rattle.ray_tracing.specs.Submission.{Lent, Package, Action, build, use_tlas, malformed, Outcome, accepted, refused, ◌leaving◌, left, ◌followed_by◌, later, unless_cause, cause_when, tlas_count, blas_in, list_in, blas, tlas, dependencies_of, mention_package, compacted, before, build_blases, build_tlases, unusable_blas, unusable, act, step, run}
use Rattle.ray_tracing.specs.History.{every, while_holds, among, Built, next, blas_number, blas_state, known, listed, cell_listed, built_with, latest, blas_by, tlas_by, usable, allowed, Told, passed, stopped, log, told, and_then, lists_known, acts, tell_action, tell_actions}
use Rattle.ray_tracing.specs.Claim.{ByHistory}
use Rattle.ray_tracing.proofs.Tables.{blas_with, tlas_with}
use Rattle.ray_tracing.proofs.Firsts.{on_none, first_while, first-among, is_none, is_none-on, is_none_on_or, is_none-first, not_ltb}
use Rattle.ray_tracing.proofs.Sound.{Sound, Fit, fit, sound_blases, blases-length, mention-built}
use Rattle.ray_tracing.proofs.Builds.{blas_if, blas-built, tlas_if, put, Put, put_is, Is, tlases_is}
use Rattle.ray_tracing.proofs.Allowed.{before-allowed}

-- the log's numbers: its Builds are numbered from the starting counter on, without a gap and short of 2 ^ 64
abbrev pub Chain : Lent → List Built → Type 0
Chain l [] = Unit {0}
Chain l (e ∷ h) = (e.number ≡ l.counter + length h) × (0 < e.number) × Chain l h

pub record Agree (l : Lent) (h : List Built) (r : Lent) : Type 0 where
  pub by : ByHistory l h r
  pub sound : Sound r
  -- 41 by the start: no Blas that was built was compacted
  pub still : (b : ℕ) → eqb (blas r b).compacted_state 3 ≡ eqb (blas l b).compacted_state 3
  pub wide : l.counter + length h ≤ 2 ^ 64
  pub chain : Chain l h

-- a list in its room is as long as its count says
list_length : (l : Lent) → Sound l → (t : ℕ) → t < tlas_count l → get_or l.dependency_counts t 0 ≡ length (dependencies_of l t)
unfolding list_in
list_length l h t k =
    sym (length-take-le (get_or l.dependency_counts t 0) (drop (t * 512) l.dependencies)
    (omega (arith, length-drop (t * 512) l.dependencies, h.short t k, h.cells)))

pub agree_start : (l : Lent) → Sound l → Agree l [] l
agree_start l h =
    record {
      by = record {
        counter = omega (arith, h.fits);
        blases = λ b. refl;
        tlases = λ t. refl;
        lists = λ t. refl;
        counts = λ t k. list_length l h t k;
        cells = λ t i k m. refl;
        past_counts = λ i k. refl;
        past_cells = λ i k. refl;
        blas_bytes = refl;
        tlas_bytes = refl;
        count_cells = refl;
        list_cells = refl;
      };
      sound = h;
      still = λ b. refl;
      wide = omega (arith, h.fits);
      chain = tt;
    }

-- built so far or numbered at the start: the Blas has a number
known-number : (l : Lent) (h : List Built) (b : ℕ) → Chain l h → known l h b ≡ not (eqb (blas_number l h b) 0)
known-number l [] b c = refl
known-number l (e ∷ h) b c = go (among b e.blases) (known-number l h b c.2)
  where
    go : (m : Bool) → known l h b ≡ not (eqb (blas_number l h b) 0)
        → (m || known l h b) ≡ not (eqb (elim m [ true ↦ e.number | false ↦ blas_number l h b ]) 0)
    go true k = sym (ap not (ne_eqb e.number 0 (omega arith)))
    go false k = k

-- history and outcome say the same
abbrev pub Same : Lent → Told → Outcome → Type 0
Same l (passed h) (accepted leaving r) = Agree l h r
Same l (passed h) (refused i c leaving r) = ⊥
Same l (stopped h) (accepted leaving r) = ⊥
Same l (stopped h) (refused i c leaving r) = Agree l h r

is_same : (l : Lent) (h : List Built) (b : Bool) (x : Lent) (o : Outcome) → Is b x o → Agree l h x → Same l (told b h) o
is_same l h true x (accepted leaving r) e a = rw e a
is_same l h false x (refused i c leaving r) e a = rw e a
is_same l h true x (refused i c leaving r) e a = absurd e
is_same l h false x (accepted leaving r) e a = absurd e

-- ---- a Build

module _ (l : Lent) (h : List Built) (r : Lent) (a : Agree l h r) (bs : List ℕ) (ps : List Package) (f : Fit r bs ps) where
  abbrev built : List Package
  built = while_holds (lists_known l h bs) ps

  abbrev now : List Built
  now = record { number = next l h; blases = bs; tlases = built } ∷ h

  abbrev after : Lent
  after = put r.counter built (build_blases bs r)

  small : l.counter + length h < 2 ^ 64
  small = let z = a.wide in let q = a.by.counter in let n = eqb-false r.counter 0 f.counts in omega (arith, z, q, n)

  chain_now : Chain l now
  chain_now = let n = eqb-false r.counter 0 f.counts in let q = a.by.counter in (mod-eq_of_lt small, omega (arith, n, q), a.chain)

  one : (b : ℕ) → blas (build_blases bs r) b ≡ blas_if (among b bs) r.counter (blas r b)
  one b = blas-built r.counter bs r.blases b a.sound.fits f.blases

  blas_now : (b : ℕ) → blas (build_blases bs r) b ≡ blas_by l now b
  blas_now b = one b ∙ go (among b bs)
    where
      go : (m : Bool) → blas_if m r.counter (blas r b) ≡ record {
        kind = (blas l b).kind;
        flags = (blas l b).flags;
        compacted_state = elim m [ true ↦ 0 | false ↦ blas_state l h b ];
        destroyed = (blas l b).destroyed;
        build_scratch_size = (blas l b).build_scratch_size;
        handle = (blas l b).handle;
        built_index = elim m [ true ↦ next l h | false ↦ blas_number l h b ];
      }
      go true = λ i. blas_with 0 (a.by.counter i) (a.by.blases b i)
      go false = a.by.blases b

  still_now : (b : ℕ) → eqb (blas (build_blases bs r) b).compacted_state 3 ≡ eqb (blas l b).compacted_state 3
  still_now b = ap (λ (x : Blas). eqb x.compacted_state 3) (one b) ∙ go (among b bs) refl ∙ a.still b
    where
      go : (m : Bool) → among b bs ≡ m → eqb (blas_if m r.counter (blas r b)).compacted_state 3 ≡ eqb (blas r b).compacted_state 3
      go true q = sym (on_none (eqb (blas r b).compacted_state 3) (cause 41 b 0 0) (first-among (compacted r) bs b f.idle q))
      go false q = refl

  known_now : (p : Package) → every (λ b. not (eqb (blas (build_blases bs r) b).built_index 0)) p.dependencies ≡ lists_known l h bs p
  known_now p =
      λ i. every (λ b. (ap (λ (x : Blas). not (eqb x.built_index 0)) (blas_now b) ∙ sym (known-number l now b chain_now)) i) p.dependencies

  is_put : Put r.counter built (build_blases bs r) after
  is_put =
      put_is r.counter built (build_blases bs r) a.sound.fits (first_while _ (lists_known l h bs) ps f.short)
      (first_while (mention_package (build_blases bs r)) (lists_known l h bs) ps (mention-built bs r ps f.tlases))
      (sound_blases bs r f.blases a.sound)

  count : (r.counter + 1) % 2 ^ 64 ≡ next l now
  count =
      let z : l.counter + length h + 1 ≡ l.counter + suc (length h) = omega arith in
      ap (λ (n : ℕ). (n + 1) % 2 ^ 64) a.by.counter ∙ mod-add-mod (l.counter + length h) (2 ^ 64) 1 ∙ ap (λ (n : ℕ). n % 2 ^ 64) z

  tlas_now : (t : ℕ) → tlas after t ≡ tlas_by l now t
  tlas_now t = is_put.tlases t ∙ go (listed t built)
    where
      go : (d : Option (List ℕ)) → tlas_if d r.counter (tlas r t) ≡ record {
        flags = (tlas l t).flags;
        destroyed = (tlas l t).destroyed;
        build_scratch_size = (tlas l t).build_scratch_size;
        max_instance_count = (tlas l t).max_instance_count;
        built_index = (built_with (next l h) d (latest l h t)).number;
      }
      go none = a.by.tlases t
      go (some d) = λ i. tlas_with (a.by.counter i) (a.by.tlases t i)

  list_now : (t : ℕ) → dependencies_of after t ≡ (latest l now t).dependencies
  list_now t = is_put.lists t ∙ go (listed t built)
    where
      go : (d : Option (List ℕ)) → Option.get_or d (dependencies_of r t) ≡ (built_with (next l h) d (latest l h t)).dependencies
      go none = a.by.lists t
      go (some d) = refl

  agree_now : Agree l now after
  agree_now =
      let n = is_put.tlas_bytes ∙ a.by.tlas_bytes in
      record {
        by = record {
          counter = is_put.counter ∙ count;
          blases = λ b. ap (λ (x : List ℕ). blas_in x b) is_put.blases ∙ blas_now b;
          tlases = tlas_now;
          lists = list_now;
          counts = λ t k. list_length after is_put.sound t (rw n k) ∙ ap length (list_now t);
          cells = λ t i k m. is_put.cells t i m ∙ ap (Option.get_or (cell_listed t i built)) (a.by.cells t i k m);
          past_counts = λ i k. is_put.past_counts i (rw a.by.tlas_bytes k) ∙ a.by.past_counts i k;
          past_cells = λ i k. is_put.past_cells i (rw a.by.tlas_bytes k) ∙ a.by.past_cells i k;
          blas_bytes = ap length is_put.blases ∙ blases-length r.counter bs r.blases ∙ a.by.blas_bytes;
          tlas_bytes = n;
          count_cells = is_put.count_cells ∙ a.by.count_cells;
          list_cells = is_put.list_cells ∙ a.by.list_cells;
        };
        sound = is_put.sound;
        still = λ b. ap (λ (x : List ℕ). eqb (blas_in x b).compacted_state 3) is_put.blases ∙ still_now b;
        wide = omega (arith, small);
        chain = chain_now;
      }

  build_same : Same l (told (every (lists_known l h bs) ps) now) (build_tlases r.counter ps (build_blases bs r))
  build_same =
      is_same l now (every (lists_known l h bs) ps) after (build_tlases r.counter ps (build_blases bs r))
      (tlases_is r.counter ps (build_blases bs r) (lists_known l h bs) known_now) agree_now

-- ---- a use

unusable-usable : (l : Lent) (h : List Built) (r : Lent) → Agree l h r → (t : ℕ) → is_none (unusable r t) ≡ usable l h t
unusable-usable l h r a t =
    is_none_on_or (eqb (tlas r t).built_index 0) _ _
    ∙ ap (λ (x : Bool). not (eqb (tlas r t).built_index 0) && x) (is_none-first (unusable_blas r t) plain each (dependencies_of r t))
    ∙ (λ i.
    not (eqb (a.by.tlases t i).built_index 0)
    && every
    (λ b. not (eqb (a.by.blases b i).built_index 0)
    && (leb (a.by.blases b i).built_index (a.by.tlases t i).built_index && not (eqb (a.by.blases b i).destroyed 1)))
    (a.by.lists t i))
  where
    plain : ℕ → Bool
    plain b = not (eqb (blas r b).built_index 0) && (leb (blas r b).built_index (tlas r t).built_index && not (eqb (blas r b).destroyed 1))

    each : (b : ℕ) → is_none (unusable_blas r t b) ≡ plain b
    each b =
        is_none_on_or (eqb (blas r b).built_index 0) _ _
        ∙ ap (λ (x : Bool). not (eqb (blas r b).built_index 0) && x)
        (is_none_on_or (ltb (tlas r t).built_index (blas r b).built_index) _ (cause_when (eqb (blas r b).destroyed 1) (cause 21 b 0 0))
        ∙ (λ i. not_ltb (tlas r t).built_index (blas r b).built_index i && is_none-on (eqb (blas r b).destroyed 1) (cause 21 b 0 0) i))

-- ---- an action

malformed-refused : (r : Lent) → before r malformed ≡ none → ⊥
unfolding before
malformed-refused r e = let z : ◌≡◌ {A = ℕ} 0 1 = cc in omega arith

pub step_same : (l : Lent) (h : List Built) (r : Lent) → Agree l h r → (a : Action) → Same l (tell_action l h a) (step r a)
unfolding step tell_action act acts
step_same l h r g a =
    go a (before r a) (allowed l h a) refl
    (before-allowed l h r (ap (λ (n : ℕ). n / size 2) g.by.blas_bytes) (ap (λ (n : ℕ). n / size 4) g.by.tlas_bytes) g.by.counter g.still a)
  where
    a-use : (c : Option Cause) (b : Bool) → is_none c ≡ b → Same l (told b h) (unless_cause c r (accepted leaving r))
    a-use none true e = g
    a-use (some c) false e = g
    a-use none false e = let z : ◌≡◌ {A = ℕ} 0 1 = cc in absurd (omega arith)
    a-use (some c) true e = let z : ◌≡◌ {A = ℕ} 0 1 = cc in absurd (omega arith)

    go : (a : Action) (c : Option Cause) (b : Bool) → before r a ≡ c → is_none c ≡ b
        → Same l (elim b [ true ↦ acts l h a | false ↦ stopped h ]) (unless_cause c r (act r a))
    go (build bs ps) none true e d = build_same l h r g bs ps (fit r bs ps e)
    go (use_tlas t) none true e d = a-use (unusable r t) (usable l h t) (unusable-usable l h r g t)
    go malformed none true e d = absurd (malformed-refused r e)
    go a (some c) false e d = g
    go a none false e d = let z : ◌≡◌ {A = ℕ} 0 1 = cc in absurd (omega arith)
    go a (some c) true e d = let z : ◌≡◌ {A = ℕ} 0 1 = cc in absurd (omega arith)

-- ---- a submission's actions

same_then : (l : Lent) (x : Told) (o : Outcome) (f : List Built → Told) (g : Lent → Outcome) → Same l x o
    → ((h : List Built) (r : Lent) → Agree l h r → Same l (f h) (g r)) → Same l (and_then x f) (o followed_by g)
same_then l (passed h) (accepted leaving r) f g a k = k h r a
same_then l (stopped h) (refused i c leaving r) f g a k = a
same_then l (passed h) (refused i c leaving r) f g a k = absurd a
same_then l (stopped h) (accepted leaving r) f g a k = absurd a

same_later : (l : Lent) (x : Told) (n : ℕ) (o : Outcome) → Same l x o → Same l x (later n o)
same_later l (passed h) n (accepted leaving r) a = a
same_later l (stopped h) n (refused i c leaving r) a = a
same_later l (passed h) n (refused i c leaving r) a = absurd a
same_later l (stopped h) n (accepted leaving r) a = absurd a

pub run_same : (l : Lent) (h : List Built) (r : Lent) → Agree l h r → (more : List Action) → Same l (tell_actions l h more) (run r more)
unfolding run tell_actions
run_same l h r a [] = a
run_same l h r a (x ∷ more) =
    same_then l (tell_action l h x) (step r x) _ _ (step_same l h r a x) (λ k q b. same_later l (tell_actions l k more) 1 (run q more) (run_same l k q b more))

pub same_agree : (l : Lent) (x : Told) (o : Outcome) → Same l x o → Agree l (log x) (left o)
same_agree l (passed h) (accepted leaving r) a = a
same_agree l (stopped h) (refused i c leaving r) a = a
same_agree l (passed h) (refused i c leaving r) a = absurd a
same_agree l (stopped h) (accepted leaving r) a = absurd a
