-- `report_words::words` meets its contract: the text is put where it fits.
use Prim.Native.Nat.{ℕ, ◌≤◌}
use native.Mathlib.Omega.{arith}
use lib.ListN.{length}
use Rattle.ray_tracing.specs.Explain.{words_of}
use Rattle.report_text.proofs.Laws.{put_within, put_taken, count_is}
use Rattle.report_words.proofs.Longest.{words-most}
use Rattle.report_words.proofs.words.Goals as goal

words-fit : (call n e f x y z : ℕ) → length (words_of call n e f x y z) ≤ 271
words-fit call n e f x y z = omega (arith, words-most call n e f x y z)

pub slice_bounds-text-end : goal.slice_bounds-text-end
slice_bounds-text-end c = put_within c.put_words-n.ensures (words-fit _ _ _ _ _ _ _)

pub slice_bounds-put_text-end : goal.slice_bounds-put_text-end
slice_bounds-put_text-end c = count_is _ _ (put_within c.put_words-n.ensures (words-fit _ _ _ _ _ _ _))

pub returns : goal.returns
returns c = rw (put_taken c.put_words-n.ensures (words-fit _ _ _ _ _ _ _)) at c.put_text.ensures
