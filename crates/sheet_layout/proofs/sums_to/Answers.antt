-- `sheet_layout::sums_to` meets its contract: the whole sum is what was taken off n and the sum of what is left.
use Prim.Native.Nat.{ℕ, suc, ◌+◌, ◌-◌, ◌*◌, ◌/◌, ◌<◌}
use native.Mathlib.Nat.{suc-mul}
use native.Mathlib.Omega.{arith}
use mathlib.Core.List.{List}
use mathlib.Core.Path.{◌≡◌, sym}
use lib.ListN.{length}
use lib.Dec.{eqb}
use Rattle.std.proofs.lemmas.Bool.Decides.{nat_tests}
use borrow.Author.Tests.{ne_eqb}
use Rattle.wire.specs.Wire.{le_at}
use Rattle.ray_tracing.specs.Reading.{sum_of_counts}
use Rattle.sheet_layout.proofs.sums_to.Goals as goal

-- one record more
module _ (t : List ℕ) (w q i n : ℕ) (h : i < n) where
  left : n - i ≡ suc (n - (i + 1))
  left = omega arith

  sum_more : sum_of_counts t w q (n - i) ≡ le_at 2 t q + sum_of_counts t w (q + w) (n - (i + 1))
  unfolding sum_of_counts
  sum_more = rw left

  bytes_more : (n - i) * w ≡ w + (n - (i + 1)) * w
  bytes_more = rw (left, suc-mul) (omega arith)

none_left : (d r n : ℕ) → d + r ≡ n + 0 → eqb r 0 ≡ eqb d n
none_left d r n h = grind (arith, nat_tests)

pub u16_at-requires : goal.u16_at-requires
u16_at-requires c =
    let l = c.loop in
    omega (arith, bytes_more c.args.t.now c.args.width l.q l.counter _ c.loop-test.true)

pub returns-then-rest-count : goal.returns-then-rest-count
returns-then-rest-count c =
    let a = c.args in
    let l = c.loop in
    let d = sum_of_counts a.t.now a.width a.offset (length a.t.now / a.width) in
    sym
    (ne_eqb d a.n
    (λ (e : d ≡ a.n).
    omega (arith, sum_more a.t.now a.width l.q l.counter _ c.loop-test.true, c.u16_at.ensures)))

pub overflow_add-q : goal.overflow_add-q
overflow_add-q c =
    let l = c.loop in
    omega (arith, bytes_more c.args.t.now c.args.width l.q l.counter _ c.loop-test.true)

pub loop-preserved : goal.loop-preserved
loop-preserved c =
    let a = c.args in
    let l = c.loop in
    let h = c.loop-test.true in
    record {
      within = omega (arith, bytes_more a.t.now a.width l.q l.counter _ h);
      sum = omega (arith, sum_more a.t.now a.width l.q l.counter _ h, c.u16_at.ensures);
    }

pub returns : goal.returns
unfolding sum_of_counts
returns c =
    let a = c.args in
    let none : length a.t.now / a.width - c.loop.counter ≡ 0 = omega arith in
    none_left (sum_of_counts a.t.now a.width a.offset (length a.t.now / a.width)) _ _ (rw none at c.loop.invariant.sum)
