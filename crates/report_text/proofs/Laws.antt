-- Laws of writing: one text after another, what is left of a text to write, and the lengths of numbers and lines.
use Prim.Native.Nat.{ℕ, zero, suc, ◌+◌, ◌-◌, ◌*◌, ◌/◌, ◌%◌, ◌^◌, ◌≤◌, ◌<◌}
use native.Mathlib.Nat.{zero-add, add_assoc, pow-succ', not-suc-le-zero}
use native.Mathlib.Numerals.{add-one, sub-one}
use native.Mathlib.Omega.{arith}
use mathlib.Core.Bool.{Bool, true, false, cond}
use mathlib.Core.Path.{◌≡◌, refl, sym, ap, ◌∙◌}
use mathlib.Core.List.{List, [], ◌∷◌, ◌++◌, append_assoc, append-nil}
use lib.Dec.{ltb}
use lib.ListN.{length, take, drop, get_or, set, length-append, length-drop, length-set, drop_of_length-le}
use lib.Seq.{sets, length-sets, length-take-le, take_all, drop-cons, drop-set-lt, get_or-set_same, sets-eq, take_at}
use borrow.Author.Tests.{lt-ltb, le-ltb}
use Rattle.wire.proofs.Laws.{sets-append}
use Rattle.ray_tracing.specs.Report.{digits, decimal, spaced, line, reporting, text_rule, text_bytes, Puts}
use Rattle.ray_tracing.specs.Sizes.{longest_line}
use Rattle.report_text.specs.Put.{Put}

-- ---- one text after another

pub put_nothing : (s : List ℕ) (at : ℕ) → Put s at [] at s
put_nothing s at = record { ends = omega arith; bytes = refl }

pub put_one : (s : List ℕ) (at v : ℕ) → Put s at (v ∷ []) (at + 1) (set s at v)
put_one s at v = record { ends = refl; bytes = refl }

pub put_same_length : {s t x : List ℕ} {at end : ℕ} → Put s at x end t → length t ≡ length s
put_same_length {s} {t} {x} {at} p = ap length p.bytes ∙ length-sets s at x

pub put_then : {s t u x y : List ℕ} {at mid end : ℕ} → Put s at x mid t → Put t mid y end u → Put s at (x ++ y) end u
put_then {s} {t} {u} {x} {y} {at} {mid} p q =
    record {
      ends = q.ends ∙ rw (p.ends, length-append) (add_assoc at (length x) (length y));
      bytes = q.bytes ∙ rw (p.ends, p.bytes) (sets-append x y s at);
    }

-- a text from the start on, taken back
module _ {s t x : List ℕ} {end : ℕ} (p : Put s 0 x end t) (h : length x ≤ length s) where
  pub put_within : end ≤ length t
  put_within = omega (arith, p.ends, put_same_length p)

  pub put_taken : take end t ≡ x
  put_taken =
      rw (p.bytes, p.ends, zero-add (length x), sets-eq x s 0 (omega arith))
      (take_at x (drop (0 + length x) s) (length x) refl)

pub count_is : (n : ℕ) (l : List ℕ) → n ≤ length l → n ≡ length (take n l)
count_is n l h = sym (length-take-le n l h)

-- ---- a text into lent bytes

pub text_short : (text out : List ℕ) → length out < length text → Puts text out (reporting 39 0) out
unfolding text_rule text_bytes
text_short text out h =
    record { answer = rw (lt-ltb (length out) (length text) h); left = rw (lt-ltb (length out) (length text) h) }

pub text_fits :
    {text out left : List ℕ} {n : ℕ}
    → length text ≤ length out
    → Put out 0 text n left
    → Puts text out (reporting 0 n) left
unfolding text_rule text_bytes
text_fits {text} {out} h p =
    record {
      answer = rw (le-ltb (length out) (length text) h, p.ends, zero-add);
      left = rw (le-ltb (length out) (length text) h) p.bytes;
    }

-- ---- what is left to write: `rest` from `end` on, of a text from `at` on

pub record Left (s : List ℕ) (at : ℕ) (text : List ℕ) (end : ℕ) (t rest : List ℕ) : Type 0 where
  pub ends : end + length rest ≡ at + length text
  pub bytes : sets t end rest ≡ sets s at text
  pub same : length t ≡ length s

pub left-all : (s : List ℕ) (at : ℕ) (text : List ℕ) → Left s at text at s text
left-all s at text = record { ends = refl; bytes = refl; same = refl }

pub left_less :
    {s t u text x rest : List ℕ} {at end next : ℕ}
    → Left s at text end t (x ++ rest)
    → Put t end x next u
    → Left s at text next u rest
left_less {s} {t} {u} {text} {x} {rest} {at} {end} l p =
    record {
      ends = rw p.ends (add_assoc end (length x) (length rest) ∙ ap (λ (n : ℕ). end + n) (sym (length-append x rest)) ∙ l.ends);
      bytes = rw (p.ends, p.bytes) (sets-append x rest t end ∙ l.bytes);
      same = put_same_length p ∙ l.same;
    }

pub left-none : {s t text : List ℕ} {at end : ℕ} → Left s at text end t [] → Put s at text end t
left-none l = record { ends = omega (arith, l.ends); bytes = l.bytes }

-- a list from its k-th element on
pub rest_more : (l : List ℕ) (k : ℕ) → k < length l → drop k l ≡ get_or l k 0 ∷ drop (k + 1) l
rest_more l k h = rw add-one (drop-cons l k 0 h)

pub rest_none : (l : List ℕ) (k : ℕ) → length l ≤ k → drop k l ≡ []
rest_none l k h = drop_of_length-le l h

-- ---- lengths

pub digits-most : (k n : ℕ) → length (digits k n) ≤ k
unfolding digits
digits-most zero n = omega arith
digits-most (suc k) n = go (ltb n 10) (digits-most k (n / 10))
  where
    go :
        (b : Bool)
        → length (digits k (n / 10)) ≤ k
        → length (cond b ((48 + n) ∷ []) (digits k (n / 10) ++ ((48 + n % 10) ∷ []))) ≤ suc k
    go true h = omega arith
    go false h = simp length-append (omega arith)

pub decimal_some : (n : ℕ) → 1 ≤ length (decimal n)
unfolding digits
decimal_some n = go (ltb n 10)
  where
    go : (b : Bool) → 1 ≤ length (cond b ((48 + n) ∷ []) (digits 19 (n / 10) ++ ((48 + n % 10) ∷ [])))
    go true = omega arith
    go false = simp length-append (omega arith)

pub spaced-most : (ns : List ℕ) → length (spaced ns) ≤ length ns * 21
unfolding spaced
spaced-most [] = omega arith
spaced-most (n ∷ ns) = simp length-append (omega (arith, digits-most 20 n, spaced-most ns))

pub line-most : (word ns : List ℕ) → length (line word ns) ≤ longest_line word (length ns)
unfolding line
line-most word ns = simp length-append (omega (arith, spaced-most ns))

-- ---- digits, from an array's end on: `first` of them are left, for the number `rest`

pub record Digits (n : ℕ) (array : List ℕ) (first rest : ℕ) : Type 0 where
  pub room : length array ≡ 20
  pub within : first ≤ 20
  pub some : 1 ≤ first
  pub enough : rest < 10 ^ first
  pub same : digits first rest ++ drop first array ≡ decimal n

pub digits-begin : (n : ℕ) (array : List ℕ) → length array ≡ 20 → n < 2 ^ 64 → Digits n array 20 n
digits-begin n array e h =
    record {
      room = e;
      within = omega arith;
      some = omega arith;
      enough = omega arith;
      same = rw (drop_of_length-le array {i = 20} (omega arith)) (append-nil (decimal n));
    }

-- the last digit of what is left, stored
stored : (a x : List ℕ) (k v : ℕ) → k < length a → x ++ drop k (set a k v) ≡ (x ++ (v ∷ [])) ++ drop (suc k) a
stored a x k v h =
    rw (drop-cons (set a k v) k 0 (rw length-set h), get_or-set_same a k v 0 h, drop-set-lt (suc k) a k v (omega arith))
    (sym (append_assoc x (v ∷ []) (drop (suc k) a)))

pub digits-next :
    (n : ℕ) (a : List ℕ) (first rest v : ℕ)
    → Digits n a first rest
    → 10 ≤ rest
    → v ≡ 48 + rest % 10
    → Digits n (set a (first - 1) v) (first - 1) (rest / 10)
unfolding digits
digits-next n a zero rest v d h e = absurd (not-suc-le-zero d.some)
digits-next n a (suc zero) rest v d h e = absurd (omega (arith, d.enough))
digits-next n a (suc (suc k)) rest v d h e =
    let p = pow-succ' 10 (suc k) in
    let q = d.enough in
    let f = rw (le-ltb rest 10 h) at d.same in
    rw sub-one
    (record {
      room = length-set a (suc k) v ∙ d.room;
      within = omega (arith, d.within);
      some = omega arith;
      enough = omega arith;
      same = stored a (digits (suc k) (rest / 10)) (suc k) v (omega (arith, d.room, d.within)) ∙ rw e f;
    })

pub digits_end :
    (n : ℕ) (a : List ℕ) (first rest v : ℕ)
    → Digits n a first rest
    → rest < 10
    → v ≡ 48 + rest
    → take (20 - (first - 1)) (drop (first - 1) (set a (first - 1) v)) ≡ decimal n
unfolding digits
digits_end n a zero rest v d h e = absurd (not-suc-le-zero d.some)
digits_end n a (suc k) rest v d h e =
    let l = length-set a k v in
    rw sub-one
    (take_all (20 - k) (drop k (set a k v)) (rw length-drop (omega (arith, d.room)))
    ∙ stored a [] k v (omega (arith, d.room, d.within))
    ∙ rw e (rw (lt-ltb rest 10 h) at d.same))

-- ---- numbers, one after the other

pub numbers_more :
    (ns : List ℕ) (k : ℕ) → k < length ns → spaced (drop k ns) ≡ (32 ∷ decimal (get_or ns k 0)) ++ spaced (drop (k + 1) ns)
unfolding spaced
numbers_more ns k h = rw (rest_more ns k h)

pub numbers-none : (ns : List ℕ) (k : ℕ) → length ns ≤ k → spaced (drop k ns) ≡ []
unfolding spaced
numbers-none ns k h = rw (rest_none ns k h)
