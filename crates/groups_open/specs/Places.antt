-- Internal: what opening counts and where it found the slots; and what judging shows it. Assumes nothing.
use Rattle.std.specs.Prelude.{ℕ, ◌+◌, ◌-◌, ◌≤◌, ◌<◌, ◌≡◌, cond, List, [], ◌∷◌, map, length, get_or, take, ltb, Result, Ok, Err}
use Rattle.std.proofs.lemmas.List.Edits.{sets}
use Rattle.ray_tracing.specs.Groups.{Slot, fine, group_count, group_at, judge_groups}
use Rattle.groups_open.specs.declared.Full.{Full}

-- n slots and these: all of them, or the first that would be the 513th
unfoldable pub counted : ℕ → List Slot → Result ℕ Full
counted n [] = Ok n
counted n (x ∷ xs) = cond (ltb n 512) (counted (n + 1) xs) (Err (record { group = x.group; item = x.item }))

-- n places stand in `out`, and these slots' come behind them, up to the 512th
unfoldable pub placed : ℕ → List Slot → List ℕ → List ℕ
placed n xs out = sets out n (map (λ (x : Slot). x.at) (take (512 - n) xs))

-- groups that are judged fine, and where the first of them begin
pub record JudgedFine (s starts : List ℕ) : Type 0 where
  pub fine : judge_groups s ≡ fine
  pub most : length starts ≤ group_count s
  pub place : (g : ℕ) → g < length starts → get_or starts g 0 ≡ group_at s g
