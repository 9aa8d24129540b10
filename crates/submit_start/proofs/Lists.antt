-- The starting lists, Tlas by Tlas.
use mathlib.Core.Path.{◌≡◌, refl, ap}
use mathlib.Core.Option.{Option, none}
use mathlib.Core.List.{List, []}
use Prim.Native.Nat.{ℕ, zero, suc, ◌+◌, ◌-◌, ◌≤◌, ◌<◌}
use Rattle.ray_tracing.specs.Causes.{Cause}
use Rattle.ray_tracing.specs.Submission.{Lent, ◌or_else◌, judge_list, judge_lists, lent_of}
use Rattle.ray_tracing.proofs.Plan.{left_more, left-none}

-- of n Tlases, those from the t-th on
module _ (l : Lent) (t n : ℕ) where
  pub lists_more : t < n → judge_lists l t (n - t) ≡ (judge_list l t or_else judge_lists l (t + 1) (n - (t + 1)))
  unfolding judge_lists
  lists_more h = rw (left_more t n h)

  pub lists_done : n ≤ t → judge_lists l t (n - t) ≡ none
  unfolding judge_lists
  lists_done h = rw (left-none t n h)

-- they look at the Blases and the lists
pub lists_look : (m : ℕ) (b x c d : List ℕ) (n t : ℕ) → judge_lists (lent_of 0 b [] c d) t n ≡ judge_lists (lent_of m b x c d) t n
unfolding judge_lists
lists_look m b x c d zero t = refl
lists_look m b x c d (suc n) t = ap (λ (o : Option Cause). judge_list (lent_of 0 b [] c d) t or_else o) (lists_look m b x c d n (t + 1))
