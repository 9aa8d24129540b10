-- What a start that is not refused tells: an id inside its table fits its type, each list has its room, and each listed id is inside.
use mathlib.Core.Path.{◌≡◌, refl, sym, ap, ◌∙◌}
use mathlib.Core.Option.{Option, none}
use mathlib.Core.List.{List, [], ◌∷◌}
use Prim.Native.Nat.{ℕ, zero, suc, ◌+◌, ◌/◌, ◌≤◌, ◌<◌}
use native.Mathlib.Omega.{arith}
use native.Mathlib.Nat.{not-suc-le-zero}
use lib.Dec.{ltb}
use lib.ListN.{length, get_or}
use borrow.Author.Tests.{ltb-false}
use Rattle.ray_tracing.specs.Layout.{Layout, layout, size, total}
use Rattle.ray_tracing.specs.Reading as reading
use Rattle.ray_tracing.specs.Causes.{Cause}
use Rattle.ray_tracing.specs.Submission.{Lent, Buffers, lent_with, ◌or_else◌, mention_blas, blas_count, tlas_count, dependencies_of, list_in, judge, judge_blases, judge_tlases, judge_room, judge_list, judge_lists, first, most_dependencies}
use Rattle.ray_tracing.proofs.Reading.{or_fine, on_fine}
use Rattle.ray_tracing.proofs.Firsts.{or_none, inside}
use Rattle.ray_tracing.proofs.Sound.{sound}
use Rattle.submit_checks.specs.Known.{blases_in, tlases_in, Inside, HasRoom}

-- ids that were judged stand in the table
pub ids_inside : (l : Lent) (ids : List ℕ) → first (mention_blas l) ids ≡ none → Inside ids (blas_count l)
ids_inside l [] e k h = absurd (not-suc-le-zero h)
ids_inside l (i ∷ is) e zero h =
    let x = or_none (mention_blas l i) (first (mention_blas l) is) e in
    inside (blas_count l) i x.0
ids_inside l (i ∷ is) e (suc k) h =
    ids_inside l is (or_none (mention_blas l i) (first (mention_blas l) is) e).1 k (omega arith)

pub few_records : (k : ℕ) (l : Layout) (w : ℕ) (t s : List ℕ) → reading.judge_lent k l w t s ≡ reading.fine → length s / total l.fields ≤ l.most
unfolding reading.judge_lent
few_records k l w t s e =
    ltb-false l.most (length s / total l.fields) (on_fine (ltb l.most (length s / total l.fields)) 4 0
    (or_fine (reading.judged_when (ltb l.most (length s / total l.fields)) (reading.refused 4 0)) _ e).0)

-- a start is judged the same whatever the counter
lists_at : (n : ℕ) (x : Buffers) (t k : ℕ) → judge_lists (lent_with n x) t k ≡ judge_lists (lent_with 0 x) t k
unfolding judge_lists
lists_at n x t zero = refl
lists_at n x t (suc k) = ap (λ (o : Option Cause). judge_list (lent_with 0 x) t or_else o) (lists_at n x (t + 1) k)

pub judge_at : (n : ℕ) (x : Buffers) → judge (lent_with n x) ≡ judge (lent_with 0 x)
unfolding judge
judge_at n x =
    ap (λ (o : Option Cause). judge_blases (lent_with 0 x) or_else judge_tlases (lent_with 0 x) or_else judge_room (lent_with 0 x) or_else o)
    (lists_at n x 0 (tlas_count (lent_with 0 x)))

pub record Ready (x : Buffers) : Type 0 where
  pub few-blases : blases_in x.blases ≤ 128
  pub few-tlases : tlases_in x.tlases ≤ 32
  pub room : HasRoom x
  pub few : (t : ℕ) → t < tlases_in x.tlases → get_or x.dependency_counts t 0 ≤ most_dependencies
  pub inside : (t : ℕ) → t < tlases_in x.tlases → Inside (list_in x.dependency_counts x.dependencies t) (blases_in x.blases)

pub ready : (n : ℕ) (x : Buffers) → judge (lent_with n x) ≡ none → Ready x
ready n x e =
    let l = lent_with 0 x in
    let s = sound l (omega arith) (sym (judge_at n x) ∙ e) in
    record {
      few-blases = few_records 2 (layout 2) (size 1) [] x.blases s.blases;
      few-tlases = few_records 4 (layout 4) (size 3) [] x.tlases s.tlases;
      room = (s.counts, s.cells);
      few = s.short;
      inside = λ t h. ids_inside l (dependencies_of l t) (s.lists t h);
    }
