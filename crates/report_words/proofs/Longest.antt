-- The most bytes that the words of any refusal have.
use Prim.Native.Nat.{ℕ, zero, suc, ◌+◌, ◌≤◌}
use Prim.Native.String.{String}
use native.Mathlib.Omega.{arith}
use mathlib.Core.Bool.{Bool, true, false, ◌&&◌, cond}
use mathlib.Core.Path.{◌≡◌, refl}
use mathlib.Core.List.{List, [], ◌∷◌, ◌++◌}
use lib.Dec.{T, leb, eqb, leb→le, lit≤}
use lib.ListN.{length, get_or, length-append}
use Rattle.ray_tracing.specs.Causes.{Cause, cause}
use Rattle.ray_tracing.specs.Report.{ascii}
use Rattle.ray_tracing.specs.Explain.{Refusal, nothing, of_sheet, of_build, of_action, Item, ◌is◌, causes, cause_words, sort_word, reached_word, kind_words, place_items, figure_items, action_items, many_items, record_items, item_bytes, convert_line, refused_line, explanation, between, refuses_with, words_of}
use Rattle.report_text.proofs.Laws.{digits-most}
use Rattle.report_words.specs.Longest.{longest_item, longest_explanation}

pub longest_explanation_is : longest_explanation ≡ 247
longest_explanation_is = refl

-- ---- words

abbrev within : ℕ → List String → Bool
within n [] = true
within n (w ∷ l) = leb (length (ascii w)) n && within n l

both : (a b : Bool) → T (a && b) → T a × T b
both true b h = (tt, h)
both false b h = absurd h

words_within :
    (n : ℕ) (d : String)
    → length (ascii d) ≤ n
    → (l : List String)
    → T (within n l)
    → (k : ℕ)
    → length (ascii (get_or l k d)) ≤ n
words_within n d e [] h k = e
words_within n d e (w ∷ l) h zero = leb→le (length (ascii w)) n (both (leb (length (ascii w)) n) (within n l) h).0
words_within n d e (w ∷ l) h (suc k) = words_within n d e l (both (leb (length (ascii w)) n) (within n l) h).1 k

cause-most : (n : ℕ) → length (ascii (cause_words n)) ≤ 51
cause-most n = words_within 51 "no such cause" (lit≤ tt) causes tt n

-- ---- items

abbrev widest : List Item → ℕ
widest [] = 0
widest (i ∷ l) = longest_item i.word + widest l

items_most : (l : List Item) → length (item_bytes l) ≤ widest l
unfolding item_bytes
items_most [] = omega arith
items_most (i ∷ l) = simp length-append (omega (arith, digits-most 20 i.value, items_most l))

widest_append : (l m : List Item) → widest (l ++ m) ≡ widest l + widest m
widest_append [] m = omega arith
widest_append (i ∷ l) m = omega (arith, widest_append l m)

either : (n : ℕ) (b : Bool) (l m : List Item) → widest l ≤ n → widest m ≤ n → widest (cond b l m) ≤ n
either n true l m h k = h
either n false l m h k = k

word : (n : ℕ) (b : Bool) (v w : String) → length (ascii v) ≤ n → length (ascii w) ≤ n → length (ascii (cond b v w)) ≤ n
word n true v w h k = h
word n false v w h k = k

reached-most : (n v : ℕ) → widest (reached_word n is v ∷ []) ≤ 78
reached-most n v = let h : length (ascii (reached_word n)) ≤ 16 = search (word, lit≤) depth 9 in omega arith

place-most : (c : Cause) (e f : ℕ) → widest (place_items c e f) ≤ 78
place-most c e f = search (either, reached-most, lit≤) depth 12

sort_most : (n v : ℕ) → widest (sort_word n is v ∷ []) ≤ 87
sort_most n v = let h : length (ascii (sort_word n)) ≤ 8 = search (word, lit≤) depth 9 in omega arith

figures_most : (c : Cause) → widest (figure_items c) ≤ 87
figures_most c = search (either, sort_most, lit≤) depth 12

kind_most : (kind : ℕ) → length (ascii (kind_words kind)) ≤ 24
kind_most kind = search (word, lit≤) depth 12

action-most : (kind : ℕ) (c : Cause) → widest (action_items kind c) ≤ 70
action-most kind c = search (either, lit≤) depth 12

many_most : (f n : ℕ) → widest (many_items f n) ≤ 39
many_most f n = search (either, lit≤) depth 9

record_most : (e n : ℕ) → widest (record_items e n) ≤ 39
record_most e n = search (either, lit≤) depth 9

-- ---- the whole

pub explanation-most : (r : Refusal) → length (explanation r) ≤ longest_explanation
unfolding explanation
explanation-most nothing = omega arith
explanation-most (of_sheet n place) =
    simp length-append (omega (arith, digits-most 20 n, cause-most n, items_most ("byte" is place ∷ [])))
explanation-most (of_build e f c) =
    simp length-append
    (omega (
      arith,
      digits-most 20 c.number,
      cause-most c.number,
      items_most (place_items c e f ++ figure_items c),
      widest_append (place_items c e f) (figure_items c),
      place-most c e f,
      figures_most c,
    ))
explanation-most (of_action i kind c) =
    simp length-append
    (omega (
      arith,
      digits-most 20 c.number,
      cause-most c.number,
      items_most (kind_words kind is i ∷ action_items kind c),
      kind_most kind,
      action-most kind c,
    ))

module _ (b : Bool) (l m : List ℕ) where
  pub each_within : length l ≤ longest_explanation → length m ≤ longest_explanation → length (cond b l m) ≤ longest_explanation
  each_within h k = go b
    where
      go : (b : Bool) → length (cond b l m) ≤ longest_explanation
      go true = h
      go false = k

pub words-most : (call n e f x y z : ℕ) → length (words_of call n e f x y z) ≤ longest_explanation
unfolding words_of
words-most call n e f x y z =
    each_within (eqb n 0) _ _ (explanation-most nothing)
    (each_within (refuses_with call n) _ _
    (each_within (eqb call 1) _ _ (explanation-most (of_sheet n e))
    (each_within (eqb call 2) _ _ (explanation-most (of_build e f (cause n x y z)))
    (each_within (eqb call 3) _ _ (explanation-most (of_action e f (cause n x y z)))
    (each_within (eqb call 4) _ _ plain-most
    (each_within (eqb call 5) _ _ sheet-most
    (each_within (eqb call 6) _ _ (each_within (between 45 46 n) _ _ group-most sheet-most)
    (each_within (eqb call 7) _ _ instance-most
    (each_within (eqb call 8) _ _ (converter-most "version not 1" (lit≤ tt))
    (each_within (eqb call 9) _ _ (converter-most "version not 2" (lit≤ tt)) record-line-most)))))))))
    (simp length-append (omega (arith, digits-most 20 n))))
  where
    plain-most : length (refused_line n []) ≤ longest_explanation
    plain-most = simp length-append (omega (arith, digits-most 20 n, cause-most n, items_most []))

    sheet-most : length (cond (between 1 5 n) (explanation (of_sheet n e)) (refused_line n [])) ≤ longest_explanation
    sheet-most = each_within (between 1 5 n) _ _ (explanation-most (of_sheet n e)) plain-most

    place-line-most : length (refused_line n ("byte" is e ∷ [])) ≤ longest_explanation
    place-line-most = simp length-append (omega (arith, digits-most 20 n, cause-most n, items_most ("byte" is e ∷ [])))

    converter-most : (version : String) → length (ascii version) ≤ 13 → length (convert_line version e n) ≤ longest_explanation
    converter-most version h =
        each_within (eqb n 1) _ _ (simp length-append (omega (arith, digits-most 20 n, h, items_most ("byte" is e ∷ []))))
        (each_within (eqb n 47) _ _ place-line-most sheet-most)

    record-line-most : length (refused_line n (record_items e n)) ≤ longest_explanation
    record-line-most =
        simp length-append (omega (arith, digits-most 20 n, cause-most n, items_most (record_items e n), record_most e n))

    group-most : length (refused_line n ("group" is e ∷ "item" is f ∷ [])) ≤ longest_explanation
    group-most = simp length-append (omega (arith, digits-most 20 n, cause-most n, items_most ("group" is e ∷ "item" is f ∷ [])))

    instance-most : length (refused_line n (many_items f n)) ≤ longest_explanation
    instance-most =
        simp length-append (omega (arith, digits-most 20 n, cause-most n, items_most (many_items f n), many_most f n))
