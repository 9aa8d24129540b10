-- Each line, filled, is the words of its refusal: number by number, by computing.
use Prim.Native.Nat.{ℕ, zero, suc, ◌+◌, ◌≤◌, ◌<◌}
use Prim.Native.String.{String}
use native.Mathlib.Omega.{arith}
use mathlib.Core.Bool.{Bool, true, false, ◌&&◌, ◌||◌, cond}
use mathlib.Core.Path.{◌≡◌, refl, sym, ◌∙◌}
use mathlib.Core.List.{List, [], ◌∷◌, ◌++◌, append_assoc}
use lib.Dec.{eqb, ltb, leb}
use borrow.Author.Tests.{ltb-true, ltb-false, le-leb, leb-true, eqb-true, ne_eqb}
use Rattle.ray_tracing.specs.Causes.{Cause, cause}
use Rattle.ray_tracing.specs.Report.{ascii, decimal, digits}
use Rattle.ray_tracing.specs.Explain.{nothing, of_sheet, of_build, of_action, Item, ◌is◌, cause_words, kind_words, place_items, figure_items, action_items, many_items, record_items, item_bytes, line_with, refused_line, explanation, between, write_line, convert_line, no_such_cause, words_of}
use Rattle.report_words.specs.declared.Refusal.{Refusal}
use Rattle.report_words.specs.Lines.{number_for, letter, filled, past_lines, lines, build_place, action_place, append_place, write_place, open_place, many_place, to_two_place, to_one_place, record_place, line_place}

-- ---- a line as one text goes after the other

abbrev items_then : List Item → List ℕ → List ℕ
items_then [] t = t
items_then (i ∷ l) t = ascii ", " ++ (ascii i.word ++ (32 ∷ (decimal i.value ++ items_then l t)))

items-then : (l : List Item) (t : List ℕ) → item_bytes l ++ t ≡ items_then l t
unfolding item_bytes
items-then [] t = refl
items-then (i ∷ l) t = simp append_assoc (rw (items-then l t))

abbrev begun_with : ℕ → String → List Item → List ℕ
begun_with n words l = ascii "refused " ++ (decimal n ++ (ascii ": " ++ (ascii words ++ items_then l (10 ∷ []))))

line-with : (n : ℕ) (words : String) (l : List Item) → begun_with n words l ≡ line_with n words l
line-with n words l = sym (simp append_assoc (rw (items-then l (10 ∷ []))))

abbrev begun : ℕ → List Item → List ℕ
begun n l = begun_with n (cause_words n) l

line_is : (n : ℕ) (l : List Item) → begun n l ≡ refused_line n l
line_is n l = line-with n (cause_words n) l

-- ---- numbers from a on

infixr 20 ◌and◌
data AllFrom (P : ℕ → Type 0) : ℕ → ℕ → Type 0 where
  end : {a : ℕ} → AllFrom P a 0
  ◌and◌ : {a k : ℕ} → P a → AllFrom P (a + 1) k → AllFrom P a (suc k)

ranged : (P : ℕ → Type 0) (a k : ℕ) → AllFrom P a k → (n : ℕ) → a ≤ n → n < a + k → P n
ranged P a zero all n h l = absurd (omega arith)
ranged P a (suc k) (p and all) n h l = go (ltb a n) refl (ranged P (a + 1) k all n)
  where
    go : (b : Bool) → ltb a n ≡ b → (a + 1 ≤ n → n < a + 1 + k → P n) → P n
    go true e further = further (omega (arith, ltb-true a n e)) (omega arith)
    go false e further =
        let same : a ≡ n = omega (arith, ltb-false a n e) in
        rw same at p

and_both : (p q : Bool) → (p && q) ≡ true → (p ≡ true) × (q ≡ true)
and_both true q h = (refl, h)
and_both false q h = absurd (let z : ◌≡◌ {A = ℕ} 0 1 = cc in omega arith)

bounded : (P : ℕ → Type 0) (a k b n : ℕ) → a + k ≡ b + 1 → AllFrom P a k → between a b n ≡ true → P n
bounded P a k b n s all h =
    let both = and_both (leb a n) (leb n b) h in
    ranged P a k all n (leb-true a n both.0) (omega (arith, leb-true n b both.1))

outside : (a b m n : ℕ) → between a b m ≡ true → between a b n ≡ false → n ≡ m → ⊥
outside a b m n p q e =
    let r : between a b m ≡ false = rw e at q in
    let z : ◌≡◌ {A = ℕ} 0 1 = cc in
    omega arith

wider : (n : ℕ) → between 2 5 n ≡ true → between 1 5 n ≡ true
wider n h =
    let both = and_both (leb 2 n) (leb n 5) h in
    rw (le-leb 1 n (omega (arith, leb-true 2 n both.0)), both.1)

or_last : (a b : Bool) → (a || (b || true)) ≡ true
or_last true b = refl
or_last false true = refl
or_last false false = refl

or_none : (b : Bool) → (b || false) ≡ b
or_none true = refl
or_none false = refl

-- ---- the lines

abbrev pub refusal_of : ℕ → ℕ → ℕ → ℕ → ℕ → ℕ → ℕ → Refusal
refusal_of call n e f x y z = record { call = call; number = n; e = e; f = f; x = x; y = y; z = z }

abbrev build_items : ℕ → ℕ → Cause → List Item
build_items e f c = place_items c e f ++ figure_items c

abbrev submit_items : ℕ → ℕ → Cause → List Item
submit_items e f c = kind_words f is e ∷ action_items f c

module _ (call e f x y z : ℕ) where
  -- line p, filled for number n
  abbrev at : ℕ → ℕ → List ℕ
  at n p = filled (refusal_of call n e f x y z) (past_lines p lines)

  none : (n : ℕ) → at n 0 ≡ explanation nothing
  unfolding letter filled past_lines lines digits number_for explanation
  none n = refl

  unknown : (n : ℕ) → at n 1 ≡ no_such_cause n
  unfolding letter filled past_lines lines digits number_for
  unknown n = refl

  abbrev Sheet : ℕ → Type 0
  Sheet n = at n (n + 1) ≡ begun n ("byte" is e ∷ [])

  sheet-lines : AllFrom Sheet 1 5
  unfolding letter filled past_lines lines digits number_for
  sheet-lines = refl and refl and refl and refl and refl and end

  sheet :
      (n : ℕ)
      → at n (cond (between 1 5 n) (n + 1) 1) ≡ cond (between 1 5 n) (explanation (of_sheet n e)) (no_such_cause n)
  unfolding explanation
  sheet n = go (between 1 5 n) refl
    where
      go : (b : Bool) → between 1 5 n ≡ b → at n (cond b (n + 1) 1) ≡ cond b (explanation (of_sheet n e)) (no_such_cause n)
      go true h = bounded Sheet 1 5 5 n refl sheet-lines h ∙ line_is n ("byte" is e ∷ [])
      go false h = unknown n

  abbrev Build : ℕ → Type 0
  Build n = at n (build_place n x) ≡ begun n (build_items e f (cause n x y z))

  destroyed : Build 21
  unfolding letter filled past_lines lines digits number_for
  destroyed = go (eqb x 1) refl (eqb x 2) refl (eqb x 3) refl
    where
      go : (a : Bool) → eqb x 1 ≡ a → (b : Bool) → eqb x 2 ≡ b → (c : Bool) → eqb x 3 ≡ c → Build 21
      go true h b i c k = rw (eqb-true x 1 h)
      go false h true i c k = rw (eqb-true x 2 i)
      go false h false i true k = rw (eqb-true x 3 k)
      go false h false i false k = rw (h, i, k)

  reached : Build 37
  unfolding letter filled past_lines lines digits number_for
  reached = go (eqb x 1) refl (eqb x 2) refl
    where
      go : (a : Bool) → eqb x 1 ≡ a → (b : Bool) → eqb x 2 ≡ b → Build 37
      go true h b i = rw (eqb-true x 1 h)
      go false h true i = rw (eqb-true x 2 i)
      go false h false i = rw (h, i)

  build-first : AllFrom Build 4 3
  unfolding letter filled past_lines lines digits number_for
  build-first = refl and refl and refl and end

  build_others : AllFrom Build 10 30
  unfolding letter filled past_lines lines digits number_for
  build_others =
      refl and refl and refl and refl and refl and refl and refl and refl and refl and refl and refl and destroyed
      and refl and refl and refl and refl and refl and refl and refl and refl and refl and refl and refl and refl and refl and refl and refl and reached
      and refl and refl and end

  build :
      (n : ℕ)
      → at n (build_place n x)
      ≡ cond (between 4 6 n || between 10 39 n) (explanation (of_build e f (cause n x y z))) (no_such_cause n)
  unfolding explanation
  build n = go (between 4 6 n) refl (between 10 39 n) refl
    where
      go :
          (a : Bool)
          → between 4 6 n ≡ a
          → (b : Bool)
          → between 10 39 n ≡ b
          → at n (build_place n x) ≡ cond (a || b) (explanation (of_build e f (cause n x y z))) (no_such_cause n)
      go true h b k = bounded Build 4 3 6 n refl build-first h ∙ line_is n (build_items e f (cause n x y z))
      go false h true k = bounded Build 10 30 39 n refl build_others k ∙ line_is n (build_items e f (cause n x y z))
      go false h false k = rw (h, ne_eqb n 21 (outside 10 39 21 n refl k), ne_eqb n 37 (outside 10 39 37 n refl k), k) (unknown n)

  abbrev Submit : ℕ → Type 0
  Submit n = at n (action_place n f) ≡ begun n (submit_items e f (cause n x y z))

  unbuilt :
      (a b : Bool)
      → at 42 (cond a 50 (cond b 53 54))
      ≡ begun 42
      (kind_words f is e
      ∷ cond a ("Blas" is x ∷ "Tlas" is y ∷ [])
      (cond b ("Tlas" is x ∷ "Blas" is y ∷ []) ("Blas or Tlas" is x ∷ "Tlas or Blas" is y ∷ [])))
  unfolding letter filled past_lines lines digits number_for
  unbuilt true b = refl
  unbuilt false true = refl
  unbuilt false false = refl

  submit_first : AllFrom Submit 4 3
  unfolding letter filled past_lines lines digits number_for
  submit_first = refl and refl and refl and end

  submit_destroyed : Submit 21
  unfolding letter filled past_lines lines digits number_for
  submit_destroyed = refl

  submit_others : AllFrom Submit 39 6
  unfolding letter filled past_lines lines digits number_for
  submit_others = refl and refl and refl and unbuilt (eqb f 1 || eqb f 5) (eqb f 2) and refl and refl and end

  submit :
      (n : ℕ)
      → at n (action_place n f)
      ≡ cond (between 4 6 n || (eqb n 21 || between 39 44 n)) (explanation (of_action e f (cause n x y z))) (no_such_cause n)
  unfolding explanation
  submit n = go (between 4 6 n) refl (eqb n 21) refl (between 39 44 n) refl
    where
      go :
          (a : Bool)
          → between 4 6 n ≡ a
          → (b : Bool)
          → eqb n 21 ≡ b
          → (c : Bool)
          → between 39 44 n ≡ c
          → at n (action_place n f) ≡ cond (a || (b || c)) (explanation (of_action e f (cause n x y z))) (no_such_cause n)
      go true h b i c k = bounded Submit 4 3 6 n refl submit_first h ∙ line_is n (submit_items e f (cause n x y z))
      go false h true i c k = rw (eqb-true n 21 i) (submit_destroyed ∙ line_is 21 (submit_items e f (cause 21 x y z)))
      go false h false i true k = bounded Submit 39 6 44 n refl submit_others k ∙ line_is n (submit_items e f (cause n x y z))
      go false h false i false k = rw (h, ne_eqb n 42 (outside 39 44 42 n refl k), k, i) (unknown n)

  abbrev Append : ℕ → Type 0
  Append n = at n (append_place n) ≡ begun n []

  append-lines : AllFrom Append 34 2
  unfolding letter filled past_lines lines digits number_for
  append-lines = refl and refl and end

  append_6 : Append 6
  unfolding letter filled past_lines lines digits number_for
  append_6 = refl

  append_39 : Append 39
  unfolding letter filled past_lines lines digits number_for
  append_39 = refl

  append :
      (n : ℕ)
      → at n (append_place n) ≡ cond (eqb n 6 || (between 34 35 n || eqb n 39)) (refused_line n []) (no_such_cause n)
  append n = go (eqb n 6) refl (between 34 35 n) refl (eqb n 39) refl
    where
      go :
          (a : Bool)
          → eqb n 6 ≡ a
          → (b : Bool)
          → between 34 35 n ≡ b
          → (c : Bool)
          → eqb n 39 ≡ c
          → at n (append_place n) ≡ cond (a || (b || c)) (refused_line n []) (no_such_cause n)
      go true h b i c k = rw (eqb-true n 6 h) (append_6 ∙ line_is 6 [])
      go false h true i c k = bounded Append 34 2 35 n refl append-lines i ∙ line_is n []
      go false h false i true k = rw (eqb-true n 39 k) (append_39 ∙ line_is 39 [])
      go false h false i false k = rw (i, h, k) (unknown n)

  write :
      (n : ℕ)
      → at n (write_place n)
      ≡ cond (between 1 5 n || eqb n 39) (cond (between 1 5 n) (explanation (of_sheet n e)) (refused_line n [])) (no_such_cause n)
  unfolding explanation
  write n = go (between 1 5 n) refl (eqb n 39) refl
    where
      go :
          (a : Bool)
          → between 1 5 n ≡ a
          → (b : Bool)
          → eqb n 39 ≡ b
          → at n (cond a (n + 1) (cond b 58 1))
          ≡ cond (a || b) (cond a (explanation (of_sheet n e)) (refused_line n [])) (no_such_cause n)
      go true h b i = bounded Sheet 1 5 5 n refl sheet-lines h ∙ line_is n ("byte" is e ∷ [])
      go false h true i = rw (eqb-true n 39 i) (append_39 ∙ line_is 39 [])
      go false h false i = unknown n

  abbrev Open : ℕ → Type 0
  Open n = at n (n + 14) ≡ begun n ("group" is e ∷ "item" is f ∷ [])

  open_lines : AllFrom Open 45 2
  unfolding letter filled past_lines lines digits number_for
  open_lines = refl and refl and end

  -- the reader's but for 1, and 39
  by_byte :
      (n : ℕ)
      → at n (cond (between 2 5 n) (n + 1) (cond (eqb n 39) 58 1))
      ≡ cond (between 2 5 n || eqb n 39) (cond (between 1 5 n) (explanation (of_sheet n e)) (refused_line n [])) (no_such_cause n)
  unfolding explanation
  by_byte n = go (between 2 5 n) refl (eqb n 39) refl
    where
      go :
          (a : Bool)
          → between 2 5 n ≡ a
          → (b : Bool)
          → eqb n 39 ≡ b
          → at n (cond a (n + 1) (cond b 58 1))
          ≡ cond (a || b) (cond (between 1 5 n) (explanation (of_sheet n e)) (refused_line n [])) (no_such_cause n)
      go true k b i = rw (wider n k) (bounded Sheet 1 5 5 n refl sheet-lines (wider n k) ∙ line_is n ("byte" is e ∷ []))
      go false k true i = rw (eqb-true n 39 i) (append_39 ∙ line_is 39 [])
      go false k false i = unknown n

  opening :
      (n : ℕ)
      → at n (open_place n)
      ≡ cond (between 2 5 n || (eqb n 39 || between 45 46 n))
      (cond (between 45 46 n) (refused_line n ("group" is e ∷ "item" is f ∷ []))
      (cond (between 1 5 n) (explanation (of_sheet n e)) (refused_line n [])))
      (no_such_cause n)
  opening n = go (between 45 46 n) refl
    where
      go :
          (a : Bool)
          → between 45 46 n ≡ a
          → at n (cond a (n + 14) (cond (between 2 5 n) (n + 1) (cond (eqb n 39) 58 1)))
          ≡ cond (between 2 5 n || (eqb n 39 || a))
          (cond a (refused_line n ("group" is e ∷ "item" is f ∷ []))
          (cond (between 1 5 n) (explanation (of_sheet n e)) (refused_line n [])))
          (no_such_cause n)
      go true h = rw (or_last (between 2 5 n) (eqb n 39)) (bounded Open 45 2 46 n refl open_lines h ∙ line_is n ("group" is e ∷ "item" is f ∷ []))
      go false h = rw (or_none (eqb n 39)) (by_byte n)

  abbrev Many : ℕ → Type 0
  Many n = at n (many_place n f) ≡ begun n (many_items f n)

  -- the Tlas's or the first one's
  many_6 : Many 6
  unfolding letter filled past_lines lines digits number_for
  many_6 = go (eqb f 0)
    where
      go : (b : Bool) → at 6 (cond b 65 62) ≡ begun 6 (cond b ("Tlas or instance" is f ∷ []) ("instance" is f ∷ []))
      go true = refl
      go false = refl

  many_first : AllFrom Many 5 2
  unfolding letter filled past_lines lines digits number_for
  many_first = refl and many_6 and end

  many_others : AllFrom Many 34 2
  unfolding letter filled past_lines lines digits number_for
  many_others = refl and refl and end

  many :
      (n : ℕ)
      → at n (many_place n f)
      ≡ cond (between 5 6 n || (between 34 35 n || eqb n 39)) (refused_line n (many_items f n)) (no_such_cause n)
  many n = go (between 5 6 n) refl (between 34 35 n) refl (eqb n 39) refl
    where
      go :
          (a : Bool)
          → between 5 6 n ≡ a
          → (b : Bool)
          → between 34 35 n ≡ b
          → (c : Bool)
          → eqb n 39 ≡ c
          → at n (many_place n f) ≡ cond (a || (b || c)) (refused_line n (many_items f n)) (no_such_cause n)
      go true h b i c k = bounded Many 5 2 6 n refl many_first h ∙ line_is n (many_items f n)
      go false h true i c k = bounded Many 34 2 35 n refl many_others i ∙ line_is n (many_items f n)
      go false h false i true k = rw (eqb-true n 39 k) (append_39 ∙ line_is 39 [])
      go false h false i false k = rw (ne_eqb n 6 (outside 5 6 6 n refl h), i, h, k) (unknown n)

  -- the other version, 47, and what a writer is refused

  two_version : at 1 68 ≡ begun_with 1 "version not 1" ("byte" is e ∷ [])
  unfolding letter filled past_lines lines digits number_for
  two_version = refl

  one-version : at 1 69 ≡ begun_with 1 "version not 2" ("byte" is e ∷ [])
  unfolding letter filled past_lines lines digits number_for
  one-version = refl

  far : at 47 70 ≡ begun 47 ("byte" is e ∷ [])
  unfolding letter filled past_lines lines digits number_for
  far = refl

  to_two : (n : ℕ) → at n (to_two_place n) ≡ cond (between 1 5 n || eqb n 39) (convert_line "version not 1" e n) (no_such_cause n)
  to_two n = go (eqb n 1) refl (eqb n 47) refl
    where
      go :
          (a : Bool)
          → eqb n 1 ≡ a
          → (b : Bool)
          → eqb n 47 ≡ b
          → at n (cond a 68 (write_place n))
          ≡ cond (between 1 5 n || eqb n 39)
          (cond a (line_with n "version not 1" ("byte" is e ∷ [])) (cond b (refused_line n ("byte" is e ∷ [])) (write_line e n)))
          (no_such_cause n)
      go true h b i = rw (eqb-true n 1 h) (two_version ∙ line-with 1 "version not 1" ("byte" is e ∷ []))
      go false h true i = rw (eqb-true n 47 i) (unknown 47)
      go false h false i = write n

  to_one :
      (n : ℕ) → at n (to_one_place n) ≡ cond (between 1 5 n || (eqb n 39 || eqb n 47)) (convert_line "version not 2" e n) (no_such_cause n)
  to_one n = go (eqb n 1) refl (eqb n 47) refl
    where
      go :
          (a : Bool)
          → eqb n 1 ≡ a
          → (b : Bool)
          → eqb n 47 ≡ b
          → at n (cond a 69 (cond b 70 (write_place n)))
          ≡ cond (between 1 5 n || (eqb n 39 || b))
          (cond a (line_with n "version not 2" ("byte" is e ∷ [])) (cond b (refused_line n ("byte" is e ∷ [])) (write_line e n)))
          (no_such_cause n)
      go true h b i = rw (eqb-true n 1 h) (one-version ∙ line-with 1 "version not 2" ("byte" is e ∷ []))
      go false h true i = rw (eqb-true n 47 i) (far ∙ line_is 47 ("byte" is e ∷ []))
      go false h false i = rw (or_none (eqb n 39)) (write n)

  -- records that are read back

  abbrev Back : ℕ → Type 0
  Back n = at n (record_place n) ≡ begun n (record_items e n)

  record_lines : AllFrom Back 48 3
  unfolding letter filled past_lines lines digits number_for
  record_lines = refl and refl and refl and end

  record_39 : Back 39
  unfolding letter filled past_lines lines digits number_for
  record_39 = refl

  records : (n : ℕ) → at n (record_place n) ≡ cond (eqb n 39 || between 48 50 n) (refused_line n (record_items e n)) (no_such_cause n)
  records n = go (eqb n 39) refl (between 48 50 n) refl
    where
      go :
          (a : Bool)
          → eqb n 39 ≡ a
          → (b : Bool)
          → between 48 50 n ≡ b
          → at n (record_place n) ≡ cond (a || b) (refused_line n (record_items e n)) (no_such_cause n)
      go true h b i = rw (eqb-true n 39 h) (record_39 ∙ line_is 39 (record_items e 39))
      go false h true i = bounded Back 48 3 50 n refl record_lines i ∙ line_is n (record_items e n)
      go false h false i = rw (i, h) (unknown n)

  -- ---- the table by call

  pub words_are : (n : ℕ) → at n (line_place call n f x) ≡ words_of call n e f x y z
  unfolding words_of
  words_are n = some (eqb n 0) _ _ (each (eqb call 1) (eqb call 2) (eqb call 3) (eqb call 4) (eqb call 5) (eqb call 6) (eqb call 7) (eqb call 8) (eqb call 9) (eqb call 10))
    where
      each :
          (a b c d g h i j k l : Bool)
          → at n
          (cond a (cond (between 1 5 n) (n + 1) 1)
          (cond b (build_place n x)
          (cond c (action_place n f)
          (cond d (append_place n)
          (cond g (write_place n)
          (cond h (open_place n)
          (cond i (many_place n f) (cond j (to_two_place n) (cond k (to_one_place n) (cond l (record_place n) 1))))))))))
          ≡ cond
          (cond a (between 1 5 n)
          (cond b (between 4 6 n || between 10 39 n)
          (cond c (between 4 6 n || (eqb n 21 || between 39 44 n))
          (cond d (eqb n 6 || (between 34 35 n || eqb n 39))
          (cond g (between 1 5 n || eqb n 39)
          (cond h (between 2 5 n || (eqb n 39 || between 45 46 n))
          (cond i (between 5 6 n || (between 34 35 n || eqb n 39))
          (cond j (between 1 5 n || eqb n 39)
          (cond k (between 1 5 n || (eqb n 39 || eqb n 47)) (cond l (eqb n 39 || between 48 50 n) false))))))))))
          (cond a (explanation (of_sheet n e))
          (cond b (explanation (of_build e f (cause n x y z)))
          (cond c (explanation (of_action e f (cause n x y z)))
          (cond d (refused_line n [])
          (cond g (cond (between 1 5 n) (explanation (of_sheet n e)) (refused_line n []))
          (cond h
          (cond (between 45 46 n) (refused_line n ("group" is e ∷ "item" is f ∷ []))
          (cond (between 1 5 n) (explanation (of_sheet n e)) (refused_line n [])))
          (cond i (refused_line n (many_items f n))
          (cond j (convert_line "version not 1" e n)
          (cond k (convert_line "version not 2" e n) (refused_line n (record_items e n)))))))))))
          (no_such_cause n)
      each true b c d g h i j k l = sheet n
      each false true c d g h i j k l = build n
      each false false true d g h i j k l = submit n
      each false false false true g h i j k l = append n
      each false false false false true h i j k l = write n
      each false false false false false true i j k l = opening n
      each false false false false false false true j k l = many n
      each false false false false false false false true k l = to_two n
      each false false false false false false false false true l = to_one n
      each false false false false false false false false false true = records n
      each false false false false false false false false false false = unknown n

      some : (b : Bool) (p : ℕ) (t : List ℕ) → at n p ≡ t → at n (cond b 0 p) ≡ cond b (explanation nothing) t
      some true p t h = none n
      some false p t h = h
