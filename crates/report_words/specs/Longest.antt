-- The most bytes that the words of any refusal have. Assumes nothing.
use Rattle.std.specs.Prelude.{ℕ, ◌+◌, ◌*◌, length}
use Prim.Native.String.{String}
use Rattle.ray_tracing.specs.Report.{ascii}
use Rattle.ray_tracing.specs.Explain.{cause_words}

-- a comma, a space, the word, a space, a number
abbrev pub longest_item : String → ℕ
longest_item w = 2 + length (ascii w) + 1 + 20

-- number and words, two items of a place, three figures
abbrev pub longest_explanation : ℕ
longest_explanation =
    length (ascii "refused : \n")
    + 20
    + length (ascii (cause_words 24))
    + 2 * longest_item "entry or package"
    + 3 * longest_item "offset"
