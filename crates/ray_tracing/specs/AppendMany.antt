-- Many instances of one Tlas in one call: "Let one call take many instances of one Tlas and append all their bytes." Assumes nothing.
use Rattle.std.specs.Prelude.{ℕ, zero, suc, ◌+◌, ◌*◌, ◌/◌, ◌%◌, ◌≡◌, List, [], ◌++◌, length, ltb, Result, Ok, Err}
use Rattle.std.proofs.lemmas.List.Edits.{sets}
use Rattle.ray_tracing.specs.declared.TlasId.{TlasId}
use Rattle.ray_tracing.specs.declared.TlasInstance.{TlasInstance}
use Rattle.ray_tracing.specs.declared.BuildRefusal.{BuildRefusal}
use Rattle.ray_tracing.specs.Guard.{neb}
use Rattle.ray_tracing.specs.Layout.{total}
use Rattle.ray_tracing.specs.Causes.{Cause, bare, build_cause}
use Rattle.ray_tracing.specs.Mentions.{tlas_mention, tlas_of}
use Rattle.ray_tracing.specs.Instances.{
  instance_fields,
  instance_from,
  instance_bytes,
  address_for,
  named_instance_rule,
  Appending,
  in_use,
  refused,
  append_rule,
  append_bytes,
}
use Rattle.ray_tracing.specs.Plan as plan
use Rattle.ray_tracing.specs.Plan.{Verdict, passed, on, ◌or◌, at_e, first_of}

-- What is lent

-- "many instances", end to end, each as a call for one takes it: a slot's fields after its present byte
abbrev pub lent_size : ℕ
lent_size = total instance_fields

-- how many whole ones there are, and the k-th
abbrev pub lent_count : List ℕ → ℕ
lent_count items = length items / lent_size

abbrev pub lent_instance : List ℕ → ℕ → TlasInstance
lent_instance items k = instance_from items (k * lent_size)

-- "all their bytes": the first n's, one after the other
unfoldable pub many_bytes : List ℕ → List ℕ → ℕ → List ℕ
many_bytes blases items zero = []
many_bytes blases items (suc n) =
    many_bytes blases items n ++ instance_bytes (lent_instance items n) (address_for blases (lent_instance items n))

-- What is refused

-- "per instance 6, 34, 35", "E being 0 and its position"
abbrev pub judge_instance : List ℕ → List ℕ → TlasId → List ℕ → ℕ → Verdict
judge_instance tlases blases tlas items k =
    at_e 0 k (named_instance_rule (tlas_of tlases tlas.0) blases (lent_instance items k))

-- "6 for the Tlas, with 0, 0; then per instance 6, 34, 35", of "the first bad one"; a part of one at the end is a value outside its field,
-- as of a lent table; "39 last", where there is no room for all
unfoldable pub judge_many : List ℕ → List ℕ → TlasId → List ℕ → ℕ → ℕ → Verdict
judge_many tlases blases tlas items room used =
    at_e 0 0 (tlas_mention tlases tlas.0)
    or first_of (judge_instance tlases blases tlas items) 0 (lent_count items)
    or on (neb (length items % lent_size) 0) (plan.refused 0 (lent_count items) (bare 5))
    or on (ltb room (used + 64 * lent_count items)) (plan.refused 0 0 (bare 39))

-- A call

-- the bytes in use after it; or E and the cause
pub data AppendingMany : Type 0 where
  all_in_use : ℕ → AppendingMany
  none_appended : ℕ → ℕ → Cause → AppendingMany

abbrev pub appended_many_of : Result ℕ BuildRefusal → AppendingMany
appended_many_of (Ok n) = all_in_use n
appended_many_of (Err r) = none_appended r.e0 r.e1 (build_cause r.error)

abbrev pub many_outcome : Verdict → ℕ → AppendingMany
many_outcome passed n = all_in_use n
many_outcome (plan.refused e f c) n = none_appended e f c

unfoldable pub append_many_rule : List ℕ → List ℕ → TlasId → List ℕ → ℕ → ℕ → AppendingMany
append_many_rule tlases blases tlas items room used =
    many_outcome (judge_many tlases blases tlas items room used) (used + 64 * lent_count items)

-- "and writes nothing": the lent bytes after it
abbrev pub many_after : AppendingMany → List ℕ → List ℕ → List ℕ
many_after (all_in_use n) new old = new
many_after (none_appended e f c) new old = old

unfoldable pub append_many_bytes : List ℕ → List ℕ → TlasId → List ℕ → List ℕ → ℕ → List ℕ
append_many_bytes tlases blases tlas items b used =
    many_after
    (append_many_rule tlases blases tlas items (length b) used)
    (sets b used (many_bytes blases items (lent_count items)))
    b

-- a call of it, lent the bytes b with so many in use: it answered a, by what it says of that, and left p
pub record AppendsManyAs
    {A : Type 0}
    (says : AppendingMany → A)
    (tlases blases : List ℕ)
    (tlas : TlasId)
    (items b : List ℕ)
    (used : ℕ)
    (a : A)
    (p : List ℕ)
    : Type 0 where
  pub answer : a ≡ says (append_many_rule tlases blases tlas items (length b) used)
  pub left : p ≡ append_many_bytes tlases blases tlas items b used

-- it answered a itself
abbrev pub AppendsMany : List ℕ → List ℕ → TlasId → List ℕ → List ℕ → ℕ → AppendingMany → List ℕ → Type 0
AppendsMany tlases blases tlas items b used a p = AppendsManyAs (λ r. r) tlases blases tlas items b used a p

-- One call after another

-- what calls for one came to: the last one's answer, and the bytes
pub record Called : Type 0 where
  pub answer : Appending
  pub bytes : List ℕ

-- a call for one more, lent the bytes that are left and told how many are in use; after a refusal there is none
abbrev pub call_next : List ℕ → List ℕ → TlasId → TlasInstance → Appending → List ℕ → Called
call_next tlases blases tlas i (in_use used) b =
    record { answer = append_rule tlases blases tlas i (length b) used; bytes = append_bytes tlases blases tlas i b used }
call_next tlases blases tlas i (refused c) b = record { answer = refused c; bytes = b }

-- "one call after another": of the first n
unfoldable pub one_by_one : List ℕ → List ℕ → TlasId → List ℕ → List ℕ → ℕ → ℕ → Called
one_by_one tlases blases tlas items b used zero = record { answer = in_use used; bytes = b }
one_by_one tlases blases tlas items b used (suc n) =
    call_next tlases blases tlas (lent_instance items n)
    (one_by_one tlases blases tlas items b used n).answer
    (one_by_one tlases blases tlas items b used n).bytes
