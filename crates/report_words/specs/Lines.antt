-- The lines of which the words of a refusal are one, with letters where its numbers stand. Assumes nothing.
use Rattle.std.specs.Prelude.{ℕ, zero, suc, ◌+◌, Bool, ◌||◌, ◌&&◌, cond, List, [], ◌∷◌, ◌++◌, map, eqb}
use Prim.Native.String.{String}
use Rattle.ray_tracing.specs.Causes.{cause}
use Rattle.ray_tracing.specs.Report.{decimal, ascii}
use Rattle.ray_tracing.specs.Explain.{Item, ◌is◌, cause_words, kind_words, place_items, figure_items, action_items, many_items, record_items, between}
use Rattle.report_words.specs.declared.Refusal.{Refusal}

-- A line, filled

-- the number that a letter stands for: # the refusal's, E and F its place, X, Y and Z its figures
unfoldable pub number_for : Refusal → ℕ → ℕ
number_for v b =
    cond (eqb b 35) v.number
    (cond (eqb b 69) v.e
    (cond (eqb b 70) v.f (cond (eqb b 88) v.x (cond (eqb b 89) v.y v.z))))

abbrev pub is_number : ℕ → Bool
is_number b = eqb b 35 || ((eqb b 69 || eqb b 70) || (eqb b 88 || (eqb b 89 || eqb b 90)))

-- what a byte of a line stands for: one of those letters for its number, K for an action's kind, any other byte for itself
unfoldable pub letter : Refusal → ℕ → List ℕ
letter v b =
    cond (eqb b 75) (ascii (kind_words v.f))
    (cond (is_number b) (decimal (number_for v b)) (b ∷ []))

-- a text's first line, with its newline
unfoldable pub filled : Refusal → List ℕ → List ℕ
filled v [] = []
filled v (b ∷ t) = letter v b ++ cond (eqb b 10) [] (filled v t)

-- the text past its first n lines
unfoldable pub past_lines : ℕ → List ℕ → List ℕ
past_lines zero t = t
past_lines (suc n) [] = []
past_lines (suc n) (b ∷ t) = cond (eqb b 10) (past_lines n t) (past_lines (suc n) t)

-- The lines, from the table's words

-- items whose values are letters
abbrev pub lettered : List Item → List ℕ
lettered [] = []
lettered (i ∷ l) = ascii ", " ++ (ascii i.word ++ (32 ∷ i.value ∷ lettered l))

abbrev pub line_in : ℕ → String → List Item → List ℕ
line_in n words l = ascii "refused " ++ (decimal n ++ (ascii ": " ++ (ascii words ++ (lettered l ++ (10 ∷ [])))))

abbrev pub line_of : ℕ → List Item → List ℕ
line_of n l = line_in n (cause_words n) l

-- those of k numbers from n on
abbrev pub lines_from : (ℕ → List ℕ) → ℕ → ℕ → List ℕ
lines_from line n zero = []
lines_from line n (suc k) = line n ++ lines_from line (n + 1) k

abbrev pub sheet_line : ℕ → List ℕ
sheet_line n = line_of n ("byte" is 69 ∷ [])

-- with a first figure, a letter or one that decides the words
abbrev pub build_text : ℕ → ℕ → List ℕ
build_text first n = line_of n (place_items (cause n first 89 90) 69 70 ++ figure_items (cause n first 89 90))

-- of an action of a kind
abbrev pub action_line : ℕ → ℕ → List ℕ
action_line kind n = line_of n ("K" is 69 ∷ action_items kind (cause n 88 89 0))

abbrev pub append_line : ℕ → List ℕ
append_line n = line_of n []

abbrev pub open_text : ℕ → List ℕ
open_text n = line_of n ("group" is 69 ∷ "item" is 70 ∷ [])

-- of one of many, at a position that is its letter F or 0
abbrev pub many_text : ℕ → ℕ → List ℕ
many_text f n = line_of n (map (λ i. i.word is 70) (many_items f n))

-- of a sheet that a converter does not take, by the version that it takes
abbrev pub version_text : String → List ℕ
version_text words = line_in 1 words ("byte" is 69 ∷ [])

-- of records that are read back
abbrev pub record_text : ℕ → List ℕ
record_text n = line_of n (record_items 69 n)

-- none and any number; a sheet's; a build's, and 21 of a Blas, of a Tlas, of no sort; a submission's, with 42 of a Build, and 42 of
-- a use and of no kind; an append's; a group's; an append's of many, and 6 at position 0; 37 of an entry and of a package;
-- a converter's; and those of records that are read back
unfoldable pub lines : List ℕ
lines =
    ascii "nothing is refused\nrefused #: no such cause\n"
    ++ (lines_from sheet_line 1 5
    ++ (lines_from (build_text 88) 4 3
    ++ (lines_from (build_text 88) 10 11
    ++ (lines_from (build_text 1) 21 1
    ++ (lines_from (build_text 88) 22 18
    ++ (build_text 2 21
    ++ (build_text 3 21
    ++ (build_text 4 21
    ++ (lines_from (action_line 1) 4 3
    ++ (action_line 1 21
    ++ (lines_from (action_line 1) 39 6
    ++ (action_line 2 42
    ++ (action_line 3 42
    ++ (append_line 6
    ++ (lines_from append_line 34 2
    ++ (append_line 39
    ++ (lines_from open_text 45 2
    ++ (lines_from (many_text 70) 5 2
    ++ (lines_from (many_text 70) 34 2
    ++ (many_text 0 6
    ++ (build_text 1 37
    ++ (build_text 2 37
    ++ (version_text "version not 1"
    ++ (version_text "version not 2" ++ (sheet_line 47 ++ lines_from record_text 48 3)))))))))))))))))))))))))

-- Which line

-- of 21, by the sort
abbrev pub destroyed_place : ℕ → ℕ
destroyed_place sort = cond (eqb sort 1) 21 (cond (eqb sort 2) 40 (cond (eqb sort 3) 41 42))

-- of 37, by the figure
abbrev pub reached_place : ℕ → ℕ
reached_place figure = cond (eqb figure 1) 66 (cond (eqb figure 2) 67 37)

abbrev pub build_place : ℕ → ℕ → ℕ
build_place n first =
    cond (between 4 6 n) (n + 3)
    (cond (eqb n 21) (destroyed_place first) (cond (eqb n 37) (reached_place first) (cond (between 10 39 n) (n + 0) 1)))

-- of 42, by the kind
abbrev pub unbuilt_place : ℕ → ℕ
unbuilt_place kind = cond (eqb kind 1 || eqb kind 5) 50 (cond (eqb kind 2) 53 54)

abbrev pub action_place : ℕ → ℕ → ℕ
action_place n kind =
    cond (between 4 6 n) (n + 39)
    (cond (eqb n 42) (unbuilt_place kind) (cond (between 39 44 n) (n + 8) (cond (eqb n 21) 46 1)))

abbrev pub append_place : ℕ → ℕ
append_place n = cond (between 34 35 n) (n + 22) (cond (eqb n 6) 55 (cond (eqb n 39) 58 1))

-- the reader's lines, and the append's of 39
abbrev pub write_place : ℕ → ℕ
write_place n = cond (between 1 5 n) (n + 1) (cond (eqb n 39) 58 1)

-- the reader's lines, the append's of 39, and a group's
abbrev pub open_place : ℕ → ℕ
open_place n = cond (between 45 46 n) (n + 14) (cond (between 2 5 n) (n + 1) (cond (eqb n 39) 58 1))

-- by the position; of 39 the append's
abbrev pub many_place : ℕ → ℕ → ℕ
many_place n f =
    cond (eqb n 6 && eqb f 0) 65
    (cond (between 34 35 n) (n + 29) (cond (between 5 6 n) (n + 56) (cond (eqb n 39) 58 1)))

-- lines of their own for another version and for an offset, and a writer's
abbrev pub to_two_place : ℕ → ℕ
to_two_place n = cond (eqb n 1) 68 (write_place n)

abbrev pub to_one_place : ℕ → ℕ
to_one_place n = cond (eqb n 1) 69 (cond (eqb n 47) 70 (write_place n))

-- lines of their own, and the append's of 39
abbrev pub record_place : ℕ → ℕ
record_place n = cond (between 48 50 n) (n + 23) (cond (eqb n 39) 58 1)

-- of a call's number: by the kind or the position, which is its F, and the first figure, which is its X
abbrev pub line_place : ℕ → ℕ → ℕ → ℕ → ℕ
line_place call n kind first =
    cond (eqb n 0) 0
    (cond (eqb call 1) (cond (between 1 5 n) (n + 1) 1)
    (cond (eqb call 2) (build_place n first)
    (cond (eqb call 3) (action_place n kind)
    (cond (eqb call 4) (append_place n)
    (cond (eqb call 5) (write_place n)
    (cond (eqb call 6) (open_place n)
    (cond (eqb call 7) (many_place n kind)
    (cond (eqb call 8) (to_two_place n)
    (cond (eqb call 9) (to_one_place n) (cond (eqb call 10) (record_place n) 1))))))))))
