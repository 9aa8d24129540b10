-- Laws of running totals, as a loop adds them: the next total stays below 2^64 - 1, or 37 stands here; and all stayed below.
use Rattle.std.proofs.Common.{◌≡◌, ℕ, ◌+◌, ◌-◌, ◌^◌, ◌≤◌, ◌<◌, Bool, Option, Some, None, Result, Err, refl, sym, ap, ◌∙◌, arith}
use Rattle.std.proofs.lemmas.Result.{err_from_is_err_and}
use Rattle.std.specs.Result.{IsErrAnd}
use Rattle.std.specs.Option.{ok_or}
use borrow.Author.Tests.{le-leb, lt-leb}
use Rattle.scratch.specs.Scratch.{add_rounded}
use Rattle.scratch.proofs.Laws.{told-up_to, told-past}
use Rattle.ray_tracing.specs.Causes.{cause}
use Rattle.ray_tracing.specs.Plan.{Verdict, passed, refused, on, first_of, total_from, reached_at}
use Rattle.ray_tracing.proofs.Verdicts.{from_start, found, onward, ended}
use Rattle.ray_tracing.proofs.Stretches.{total-none, total-step}
use Rattle.build_final.specs.Sized.{below_top, sized, reached, sized_unless}

-- what `o.ok_or(x)?` returns of none
pub none-told :
    {T E : Type 0} {o : Option T} {x y : E} (r : Result T E) → IsErrAnd r (λ z. z ≡ y) → o ≡ None → Err y ≡ ok_or o x → r ≡ Err x
none-told r h e v =
    let p = err_from_is_err_and r h in
    let w = rw e at v in
    cc

module _ (f : ℕ → ℕ) (a figure n i total : ℕ) (t : total ≡ total_from f a 0 0 i) where
  module _ {sum : ℕ} (e : Some sum ≡ below_top (add_rounded total (f i) a)) where
    told : (sum ≡ add_rounded total (f i) a) × (add_rounded total (f i) a ≤ 2 ^ 64 - 2)
    told = told-up_to (2 ^ 64 - 2) (add_rounded total (f i) a) sum e

    pub total-next : sum ≡ total_from f a 0 0 (i + 1)
    total-next = told.0 ∙ total-step f a i t

    passes : reached_at f a figure i ≡ passed
    passes =
        let below = lt-leb (2 ^ 64 - 1) (total_from f a 0 0 (i + 1)) (omega (arith, told.1, total-step f a i t)) in
        ap (λ (b : Bool). on b (refused i 0 (cause 37 figure 0 0))) below

  stands : None ≡ below_top (add_rounded total (f i) a) → reached_at f a figure i ≡ refused i 0 (cause 37 figure 0 0)
  stands e =
      let over = told-past (2 ^ 64 - 2) (add_rounded total (f i) a) e in
      let not_below = le-leb (2 ^ 64 - 1) (total_from f a 0 0 (i + 1)) (omega (arith, over, total-step f a i t)) in
      ap (λ (b : Bool). on b (refused i 0 (cause 37 figure 0 0))) not_below

  module _ (left : first_of (reached_at f a figure) i (n - i) ≡ first_of (reached_at f a figure) 0 n) where
    pub total-turn :
        {sum : ℕ}
        → i < n
        → Some sum ≡ below_top (add_rounded total (f i) a)
        → first_of (reached_at f a figure) (i + 1) (n - (i + 1)) ≡ first_of (reached_at f a figure) 0 n
    total-turn h e = onward (reached_at f a figure) i n _ left h (passes e)

    pub total-reached :
        i < n
        → None ≡ below_top (add_rounded total (f i) a)
        → reached i 0 (cause 37 figure 0 0) ≡ sized_unless (first_of (reached_at f a figure) 0 n) (total_from f a 0 0 n)
    total-reached h e =
        let v = found (reached_at f a figure) i n _ left h i 0 (cause 37 figure 0 0) refl (stands e) in
        ap (λ (v : Verdict). sized_unless v (total_from f a 0 0 n)) (sym (stands e) ∙ v)

    pub total-done : i ≤ n → n ≤ i → sized total ≡ sized_unless (first_of (reached_at f a figure) 0 n) (total_from f a 0 0 n)
    total-done l h =
        let all : i ≡ n = omega arith in
        ap sized (t ∙ ap (total_from f a 0 0) all) ∙ ap (λ (v : Verdict). sized_unless v (total_from f a 0 0 n)) (ended (reached_at f a figure) i n _ left h)

-- what closes the first and the last goal of the loops over totals
pub ruleset totals = (total-none, from_start, total-next, total-turn, total-reached, total-done)
