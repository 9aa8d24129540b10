-- Internal: how long a sheet and its report can be. The laws about them cite these, no entry point's contract does. Assumes nothing.
use Rattle.std.specs.Prelude.{ℕ, zero, suc, ◌+◌, ◌*◌, List, length}
use Rattle.ray_tracing.specs.declared.Version.{Version}
use Rattle.ray_tracing.specs.declared.Version.TheVariants as version
use Rattle.ray_tracing.specs.Layout.{layout, layout_in, size, size_in}
use Rattle.ray_tracing.specs.Report.{word-build, word_scratch, word-blas, word-tlas, word_submit, word_next}

-- the longest sheet of a version that is accepted
unfoldable pub sections_up_to : Version → ℕ → ℕ
sections_up_to v zero = 0
sections_up_to v (suc k) = sections_up_to v k + 2 + (layout_in v (k + 1)).most * size_in v (k + 1)

abbrev pub longest_of : Version → ℕ
longest_of v = 1 + size 0 + sections_up_to v 9

-- of either: version 2 has the wider geometries
abbrev pub longest : ℕ
longest = longest_of version.Two

-- the most bytes of a line with n numbers
abbrev pub longest_line : List ℕ → ℕ → ℕ
longest_line word n = length word + n * 21 + 1

-- the most bytes that any sheet prints: as many entries and packages as it may have
abbrev pub longest_report : ℕ
longest_report =
    longest_line word-build 6
    + longest_line word_scratch 1
    + (layout 5).most * longest_line word-blas 2
    + (layout 7).most * longest_line word-tlas 4
    + longest_line word_submit 4
    + longest_line word_next 1
