-- Actions and their lists as cells: four cells after four by index; a list of cells cut at whole actions is a cut of its actions; and an
-- action is read from its own lists alone.
use Prim.Native.Nat.{ℕ, zero, suc, ◌+◌, ◌%◌, ◌≤◌, ◌<◌}
use native.Mathlib.Nat.{add_assoc}
use native.Mathlib.Numerals.{add-one}
use native.Mathlib.Omega.{arith}
use mathlib.Core.Path.{◌≡◌, refl, sym, ap, ◌∙◌}
use mathlib.Core.Bool.{Bool, true, false, ◌&&◌, cond}
use mathlib.Core.Option.{none}
use mathlib.Core.List.{List, [], ◌∷◌, ◌++◌, map, flatten, append_assoc}
use lib.ListN.{length, take, drop, get_or, length-append, length-drop, get_or-append}
use lib.Seq.{drop-cons, drop-append-le, take-append-le}
use lib.Dec.{leb, eqb}
use borrow.Author.Tests.{leb-true, le-leb}
use Rattle.ray_tracing.specs.Submission.{Lent, Piece, Package, Action, build, use_tlas, mark_blas, mark_tlas, malformed, Outcome, judge, submission, package_from, past_package, packages_at, packages_lent, build_at, taken_for, action_of, action, decode_cells, decode}
use Rattle.ray_tracing.specs.Claim.{Each, Cut, Fits}
use Rattle.ray_tracing.proofs.Outcomes.{OutcomeSent}
use Rattle.ray_tracing.proofs.Demand3.{demand_3}

-- ---- cells by index

rest : (s : List ℕ) (i : ℕ) → i < length s → drop i s ≡ get_or s i 0 ∷ drop (i + 1) s
rest s i h = rw add-one (drop-cons s i 0 h)

pub decode-step : (lists s : List ℕ) (i : ℕ) → i + 4 ≤ length s
    → decode_cells lists (drop i s) ≡ action lists (get_or s i 0) (get_or s (i + 1) 0) (get_or s (i + 2) 0) (get_or s (i + 3) 0) ∷ decode_cells lists (drop (i + 4) s)
unfolding decode_cells
decode-step lists s i h =
    let a : drop i s ≡ get_or s i 0 ∷ drop (i + 1) s = rest s i (omega arith) in
    let b : drop (i + 1) s ≡ get_or s (i + 1) 0 ∷ drop (i + 2) s = rw (add_assoc i 1 1) at (rest s (i + 1) (omega arith)) in
    let c : drop (i + 2) s ≡ get_or s (i + 2) 0 ∷ drop (i + 3) s = rw (add_assoc i 2 1) at (rest s (i + 2) (omega arith)) in
    let d : drop (i + 3) s ≡ get_or s (i + 3) 0 ∷ drop (i + 4) s = rw (add_assoc i 3 1) at (rest s (i + 3) (omega arith)) in
    ap (decode_cells lists) (a ∙ ap (λ (x : List ℕ). get_or s i 0 ∷ x) (b ∙ ap (λ (x : List ℕ). get_or s (i + 1) 0 ∷ x) (c ∙ ap (λ (x : List ℕ). get_or s (i + 2) 0 ∷ x) d)))

-- a part of an action
decode-short : (lists s : List ℕ) → 0 < length s → length s < 4 → decode_cells lists s ≡ malformed ∷ []
unfolding decode_cells
decode-short lists [] h k = absurd (omega arith)
decode-short lists (a ∷ []) h k = refl
decode-short lists (a ∷ b ∷ []) h k = refl
decode-short lists (a ∷ b ∷ c ∷ []) h k = refl
decode-short lists (a ∷ b ∷ c ∷ d ∷ s) h k = absurd (omega arith)

pub decode_part : (lists s : List ℕ) (i : ℕ) → i < length s → length s < i + 4 → decode_cells lists (drop i s) ≡ malformed ∷ []
decode_part lists s i h k = decode-short lists (drop i s) (omega (arith, length-drop i s)) (omega (arith, length-drop i s))

pub decode_done : (lists s : List ℕ) (i : ℕ) → length s ≤ i → decode_cells lists (drop i s) ≡ []
unfolding decode_cells
decode_done lists s i h = go (drop i s) (omega (arith, length-drop i s))
  where
    go : (x : List ℕ) → length x ≡ 0 → decode_cells lists x ≡ []
    go [] e = refl
    go (y ∷ x) e = absurd (omega arith)

-- ---- cells in two parts, the first of whole actions

pub decode-append : (lists s t : List ℕ) → length s % 4 ≡ 0 → decode_cells lists (s ++ t) ≡ decode_cells lists s ++ decode_cells lists t
unfolding decode_cells
decode-append lists [] t e = refl
decode-append lists (a ∷ []) t e = absurd (omega arith)
decode-append lists (a ∷ b ∷ []) t e = absurd (omega arith)
decode-append lists (a ∷ b ∷ c ∷ []) t e = absurd (omega arith)
decode-append lists (a ∷ b ∷ c ∷ d ∷ s) t e = ap (λ (x : List Action). action lists a b c d ∷ x) (decode-append lists s t (omega arith))

abbrev pub over : List ℕ → List ℕ → Piece
over lists actions = record { actions = actions; lists = lists }

-- a list of cells cut at whole actions, each part with the same lists
pub cut_of_cells : (lists : List ℕ) (parts : List (List ℕ)) (last : List ℕ) → Each (λ s. length s % 4 ≡ 0) parts
    → Cut (over lists (flatten parts ++ last)) (map (over lists) (parts ++ last ∷ []))
unfolding flatten
cut_of_cells lists [] last w = go (decode_cells lists last)
  where
    go : (x : List Action) → x ++ [] ≡ x
    go [] = refl
    go (a ∷ x) = ap (λ (y : List Action). a ∷ y) (go x)
cut_of_cells lists (s ∷ parts) last w =
    ap (λ (x : List Action). decode_cells lists s ++ x) (cut_of_cells lists parts last w.1)
    ∙ sym (decode-append lists s (flatten parts ++ last) w.0)
    ∙ ap (decode_cells lists) (sym (append_assoc s (flatten parts) last))

-- and so demand 3's first half, of such a cut
pub cuts_of_cells : (l : Lent) → Fits l → judge l ≡ none → (lists : List ℕ) (parts : List (List ℕ)) (last : List ℕ) → Each (λ s. length s % 4 ≡ 0) parts
    → (o : Outcome) → OutcomeSent l (map (over lists) (parts ++ last ∷ [])) o → o ≡ submission l (decode (over lists (flatten parts ++ last)))
cuts_of_cells l f j lists parts last w o s =
    (demand_3 l f j).cuts (over lists (flatten parts ++ last)) (map (over lists) (parts ++ last ∷ [])) (cut_of_cells lists parts last w) o s

-- ---- "Lent bytes past an action's lists aren't read"

module _ (lists more : List ℕ) where
  -- a part that stands within
  part_longer : (a n : ℕ) → a + n ≤ length lists → take n (drop a (lists ++ more)) ≡ take n (drop a lists)
  part_longer a n h =
      ap (take n) (drop-append-le a lists more (omega arith)) ∙ take-append-le n (drop a lists) more (omega (arith, length-drop a lists))

  past_longer : (at : ℕ) → past_package lists at ≤ length lists → past_package (lists ++ more) at ≡ past_package lists at
  past_longer at h = ap (λ (n : ℕ). at + 2 + n) (get_or-append lists more 0 (at + 1) (omega arith))

  package_longer : (at : ℕ) → past_package lists at ≤ length lists → package_from (lists ++ more) at ≡ package_from lists at
  package_longer at h =
      let n : get_or (lists ++ more) (at + 1) 0 ≡ get_or lists (at + 1) 0 = get_or-append lists more 0 (at + 1) (omega arith) in
      let t : get_or (lists ++ more) at 0 ≡ get_or lists at 0 = get_or-append lists more 0 at (omega arith) in
      let d = part_longer (at + 2) (get_or lists (at + 1) 0) h in
      cc (t, ap (λ (k : ℕ). take k (drop (at + 2) (lists ++ more))) n ∙ d)

  packages_longer : (n at : ℕ) → packages_lent lists at n ≡ true
      → (packages_lent (lists ++ more) at n ≡ true) × (packages_at (lists ++ more) at n ≡ packages_at lists at n)
  unfolding packages_lent packages_at
  packages_longer zero at e = (refl, refl)
  packages_longer (suc n) at e = go (leb (past_package lists at) (length lists)) refl e (packages_longer n (past_package lists at))
    where
      go : (b : Bool) → leb (past_package lists at) (length lists) ≡ b
          → elim b [ true ↦ packages_lent lists (past_package lists at) n | false ↦ false ] ≡ true
          → (packages_lent lists (past_package lists at) n ≡ true
          → (packages_lent (lists ++ more) (past_package lists at) n ≡ true) × (packages_at (lists ++ more) (past_package lists at) n ≡ packages_at lists (past_package lists at) n))
          → (elim (leb (past_package (lists ++ more) at) (length (lists ++ more))) [ true ↦ packages_lent (lists ++ more) (past_package (lists ++ more) at) n | false ↦ false ] ≡ true)
          × (package_from (lists ++ more) at ∷ packages_at (lists ++ more) (past_package (lists ++ more) at) n ≡ package_from lists at ∷ packages_at lists (past_package lists at) n)
      go true q e k =
          let h = leb-true (past_package lists at) (length lists) q in
          let r = k e in
          let p = past_longer at h in
          let w : leb (past_package lists at) (length (lists ++ more)) ≡ true = le-leb (past_package lists at) (length (lists ++ more)) (omega (arith, length-append lists more)) in (
            (λ i. elim (leb (p i) (length (lists ++ more))) [ true ↦ packages_lent (lists ++ more) (p i) n | false ↦ false ])
                ∙ ap (λ (b : Bool). elim b [ true ↦ packages_lent (lists ++ more) (past_package lists at) n | false ↦ false ]) w
                ∙ r.0,
            (λ i. package_longer at h i ∷ packages_at (lists ++ more) (p i) n) ∙ ap (λ (x : List Package). package_from lists at ∷ x) r.1,
          )
      go false q e k = let z : ◌≡◌ {A = ℕ} 0 1 = cc in absurd (omega arith)

  build_longer : (at n m : ℕ) → ¬ (build_at lists at n m ≡ malformed) → build_at (lists ++ more) at n m ≡ build_at lists at n m
  build_longer at n m d = go (leb (at + n) (length lists)) (packages_lent lists (at + n) m) refl refl d
    where
      go : (a b : Bool) → leb (at + n) (length lists) ≡ a → packages_lent lists (at + n) m ≡ b
          → ¬ (elim (a && b) [ true ↦ build (take n (drop at lists)) (packages_at lists (at + n) m) | false ↦ malformed ] ≡ malformed)
          → build_at (lists ++ more) at n m ≡ elim (a && b) [ true ↦ build (take n (drop at lists)) (packages_at lists (at + n) m) | false ↦ malformed ]
      go true true p q d =
          let h = leb-true (at + n) (length lists) p in
          let r = packages_longer m (at + n) q in
          let w : leb (at + n) (length (lists ++ more)) ≡ true = le-leb (at + n) (length (lists ++ more)) (omega (arith, length-append lists more)) in
          (λ i. elim (w i && r.0 i) [ true ↦ build (part_longer at n h i) (r.1 i) | false ↦ malformed ])
      go true false p q d = absurd (d refl)
      go false b p q d = absurd (d refl)

  of_longer : (k o b t : ℕ) → ¬ (action_of lists k o b t ≡ malformed) → action_of (lists ++ more) k o b t ≡ action_of lists k o b t
  of_longer k o b t d = go (eqb k 1) d
    where
      other : Action
      other = cond (eqb k 2) (use_tlas o) (cond (eqb k 3) (mark_blas o) (cond (eqb k 4) (mark_tlas o) malformed))

      go : (x : Bool) → ¬ (elim x [ true ↦ build_at lists o b t | false ↦ other ] ≡ malformed)
          → ◌≡◌ {A = Action} (elim x [ true ↦ build_at (lists ++ more) o b t | false ↦ other ]) (elim x [ true ↦ build_at lists o b t | false ↦ other ])
      go true d = build_longer o b t d
      go false d = refl

  -- an action that is well formed is the same with more cells behind its lists
  pub action_longer : (k o b t : ℕ) → ¬ (action lists k o b t ≡ malformed) → action (lists ++ more) k o b t ≡ action lists k o b t
  unfolding action
  action_longer k o b t d = of_longer (taken_for k) _ _ _ d
