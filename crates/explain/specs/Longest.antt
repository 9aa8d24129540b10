-- The most bytes that any sheet's explained report has. Assumes nothing.
use Rattle.std.specs.Prelude.{ℕ, ◌+◌}
use Rattle.ray_tracing.specs.Sizes.{longest_report}
use Rattle.report_words.specs.Longest.{longest_explanation}

abbrev pub longest_explained : ℕ
longest_explained = longest_report + longest_explanation
