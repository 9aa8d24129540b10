-- `zakvind::groups_buffer` meets its contract: by the law of a length, since an array as long as this is not to be computed. Assumes nothing.
use Rattle.std.proofs.Common.{◌≡◌, ℕ, length, sym}
use Rattle.std.proofs.Math.ListN.{replicate}
use Rattle.std.proofs.lemmas.List.{length-replicate}
use Rattle.zakvind.proofs.groups_buffer.Goals as goal

zeros : (n x : ℕ) → n ≡ length (replicate n x)
zeros n x = sym (length-replicate n x)

pub returns : goal.returns
returns c = zeros 1048576 0
