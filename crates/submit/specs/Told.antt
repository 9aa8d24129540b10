-- Internal: a submission told by numbers, with the counter beside them. Assumes nothing.
use Rattle.std.specs.Prelude.{ℕ, ◌≡◌}
use Rattle.ray_tracing.specs.Submission.{Numbers, Buffers, Piece, Shown, shown, lent_with, decode, submission}
use Rattle.submit.specs.declared.Numbered.{Numbered}

abbrev pub numbers_in : Numbered → Numbers
numbers_in v = record { number = v.number; action = v.action; first = v.first; second = v.second }

abbrev pub shown_in : Numbered → Buffers → Shown
shown_in v y = record { numbers = numbers_in v; counter = v.counter; left = y }

-- a call of `submit_numbers`: lent the counter n, the buffers x and the piece p, it told v and left y
abbrev pub Tells : ℕ → Buffers → Piece → Numbered → Buffers → Type 0
Tells n x p v y = shown_in v y ≡ shown (submission (lent_with n x) (decode p))
