-- A loop that writes a list piece by piece: what is left, written from here on, is the whole.
use mathlib.Core.Path.{◌≡◌, refl, sym, ap, ◌∙◌}
use mathlib.Core.List.{List, [], ◌++◌}
use Prim.Native.Nat.{ℕ, ◌+◌, ◌≤◌}
use native.Mathlib.Nat.{zero-add}
use native.Mathlib.Omega.{arith}
use lib.ListN.{length, length-append}
use lib.Seq.{sets, length-sets}
use Rattle.wire.proofs.Laws.{sets-append}

-- `rest` is still to be written into `out` from `at` on, where `whole` was to be written into `first` from `from` on
pub record Left (out : List ℕ) (at : ℕ) (rest : List ℕ) (first : List ℕ) (from : ℕ) (whole : List ℕ) : Type 0 where
  pub kept : length out ≡ length first
  pub ends : at + length rest ≡ from + length whole
  pub same : sets out at rest ≡ sets first from whole

-- the piece that comes next, and what is left after it
pub record Next (rest piece rest' : List ℕ) : Type 0 where
  pub cut : rest ≡ piece ++ rest'

pub starts : (out : List ℕ) (at : ℕ) {rest : List ℕ} (whole : List ℕ) → rest ≡ whole → Left out at rest out at whole
starts out at whole e = record { kept = refl; ends = ap (λ (l : List ℕ). at + length l) e; same = ap (sets out at) e }

module _ {out : List ℕ} {at : ℕ} {rest first : List ℕ} {from : ℕ} {whole : List ℕ} (l : Left out at rest first from whole) where
  module _ {piece rest' : List ℕ} (e : Next rest piece rest') where
    lengths : length rest ≡ length piece + length rest'
    lengths = ap length e.cut ∙ length-append piece rest'

    pub room : from + length whole ≤ length first → at + length piece ≤ length out
    room h = omega (arith, lengths, l.ends, l.kept)

    pub turn : {out' : List ℕ} {at' : ℕ} → at' ≡ at + length piece → out' ≡ sets out at piece → Left out' at' rest' first from whole
    turn {out'} {at'} a o =
        record {
          kept = ap length o ∙ length-sets out at piece ∙ l.kept;
          ends = omega (arith, lengths, l.ends);
          same =
              ap (λ (t : List ℕ). sets t at' rest') o
              ∙ ap (λ (k : ℕ). sets (sets out at piece) k rest') a
              ∙ sets-append piece rest' out at
              ∙ ap (sets out at) (sym e.cut)
              ∙ l.same;
        }

  -- nothing is left
  module _ (e : rest ≡ []) where
    pub ended : at ≡ from + length whole
    ended = omega (arith, ap length e, l.ends)

    pub done : out ≡ sets first from whole
    done = sym (ap (sets out at) e) ∙ l.same

-- two lists, one after the other
pub both_written :
    {mid last : List ℕ} (out xs ys : List ℕ) (n : ℕ) → length xs ≡ n → mid ≡ sets out 0 xs → last ≡ sets mid n ys → last ≡ sets out 0 (xs ++ ys)
both_written {mid} {last} out xs ys n e f g =
    g ∙ ap (λ (t : List ℕ). sets t n ys) f ∙ ap (λ (k : ℕ). sets (sets out 0 xs) k ys) (sym e ∙ sym (zero-add (length xs))) ∙ sets-append xs ys out 0

-- a loop that counts what is written: n so far
pub counted :
    {rest piece rest' : List ℕ} {m total : ℕ} (n : ℕ)
    → Next rest piece rest'
    → n + length rest ≡ total
    → m ≡ n + length piece
    → m + length rest' ≡ total
counted {piece = piece} {rest'} n e h f = omega (arith, ap length e.cut, length-append piece rest')
