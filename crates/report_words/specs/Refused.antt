-- A refusal as the numbers that the code tells of it. Assumes nothing.
use Rattle.std.specs.Prelude.{ℕ, ◌≡◌, List}
use Rattle.ray_tracing.specs.Causes.{Cause}
use Rattle.ray_tracing.specs.Explain as explain
use Rattle.ray_tracing.specs.Explain.{nothing, of_sheet, of_build, of_action, explanation, words_of}
use Rattle.report_words.specs.declared.Refusal.{Refusal}

abbrev pub refused_by : ℕ → ℕ → ℕ → Cause → Refusal
refused_by call e f c =
    record { call = call; number = c.number; e = e; f = f; x = c.first; y = c.second; z = c.third }

abbrev pub told_of : explain.Refusal → Refusal
told_of nothing = record { call = 0; number = 0; e = 0; f = 0; x = 0; y = 0; z = 0 }
told_of (of_sheet n place) = record { call = 1; number = n; e = place; f = 0; x = 0; y = 0; z = 0 }
told_of (of_build e f c) = refused_by 2 e f c
told_of (of_action i kind c) = refused_by 3 i kind c

-- the words of what the code tells
abbrev pub words_in : Refusal → List ℕ
words_in v = words_of v.call v.number v.e v.f v.x v.y v.z

-- the code tells of this refusal, which its call can give
pub record Refuses (v : Refusal) (told : explain.Refusal) : Type 0 where
  pub numbers : v ≡ told_of told
  pub words : words_in v ≡ explanation told
