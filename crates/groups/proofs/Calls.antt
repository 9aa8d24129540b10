-- What a call of `open_groups` answers and leaves, by what judging and opening find.
use Rattle.std.specs.Prelude.{Result, Ok, Err}
use Prim.Native.Nat.{ℕ, ◌-◌, ◌*◌, ◌≤◌, ◌<◌}
use native.Mathlib.Omega.{arith}
use mathlib.Core.Path.{◌≡◌, refl, sym, ap, ◌∙◌, subst}
use mathlib.Core.List.{List, map}
use lib.ListN.{length, take}
use lib.Seq.{sets, get_or-take, length-take-le}
use borrow.Author.Tests.{lt-ltb, le-ltb}
use Rattle.ray_tracing.specs.declared.GroupsError.{GroupsError}
use Rattle.ray_tracing.specs.declared.GroupsError.TheVariants as groups-error
use Rattle.ray_tracing.specs.declared.OpenGroupsError.TheVariants as open-groups
use Rattle.ray_tracing.specs.Causes.{sheet_number}
use Rattle.ray_tracing.specs.Groups.{Slot, group_count, group_of, open_group, slots_of, slot_records, fine, judge_groups, judge_opening, Opening, opened, unopened, open_rule, opening_leaves, opening_of, OpensGroups}
use Rattle.ray_tracing.proofs.Groups.{judged_first}
use Rattle.groups_judge.specs.Found.{finding_of, Began}
use Rattle.groups_judge.proofs.Laws.{fine_groups}
use Rattle.groups_open.specs.Places as places
use Rattle.groups_open.specs.Places.{counted, placed}
use Rattle.groups_open.specs.declared.Full.{Full}
use Rattle.groups_open.proofs.Laws.{counted-all, counted_over, counted-fine, placed-all}
use Rattle.groups.specs.Items.{items_at, Within}
use Rattle.groups.proofs.Slots.{slots_stand, records_are, records_length, within}

module _ (s out p : List ℕ) where
  by_rule : (a : Opening) → open_rule s (length out) ≡ a → p ≡ opening_leaves a (slot_records s) out → OpensGroups s out a p
  by_rule a e l = record { answer = sym e; left = l ∙ ap (λ r. opening_leaves r (slot_records s) out) (sym e) }

-- groups that judging refuses
pub refused_so :
    (s out : List ℕ) (r : GroupsError) → finding_of (Err r) ≡ judge_groups s → OpensGroups s out (opening_of (Err (open-groups.Invalid r))) out
refused_so s out (groups-error.Malformed r) e =
    by_rule s out out (unopened (sheet_number r.error) r.place 0 0) (judged_first s (length out) (sheet_number r.error) r.place 0 0 (sym e)) refl
refused_so s out (groups-error.InvalidGroup g i) e =
    by_rule s out out (unopened 45 0 g i) (judged_first s (length out) 45 0 g i (sym e)) refl

module _ (s out : List ℕ) (f : judge_groups s ≡ fine) where
  size : length (slot_records s) ≡ length (slots_of s) * 56
  unfolding slot_records
  size = records_length s (slots_of s) (slots_stand s f)

  -- a slot too many
  pub over_so : (x : Full) → counted 0 (slots_of s) ≡ Err x → OpensGroups s out (unopened 46 0 x.group x.item) out
  unfolding open_rule judge_opening
  over_so x e = by_rule s out out (unopened 46 0 x.group x.item) (rw (f, counted_over (slots_of s) x e)) refl

  module _ (n : ℕ) (e : counted 0 (slots_of s) ≡ Ok n) where
    count : n ≡ length (slots_of s)
    count = omega (arith, (counted-all 0 n (slots_of s) (omega arith) e).0)

    -- too little room
    pub short-so : length out < n * 56 → OpensGroups s out (unopened 39 0 0 0) out
    unfolding open_rule judge_opening
    short-so l =
        by_rule s out out (unopened 39 0 0 0)
        (rw (f, counted-fine (slots_of s) n e, lt-ltb (length out) (length (slot_records s)) (omega (arith, size, count)))) refl

    -- the items at the places that were found
    module _ (found : List ℕ) (there : found ≡ map (λ (x : Slot). x.at) (slots_of s)) where
      pub found_within : Within s found
      found_within = subst (Within s) (sym there) (within s (slots_of s) (slots_stand s f))

      pub wrote_so : n * 56 ≤ length out → (p : List ℕ) → p ≡ sets out 0 (items_at s found) → OpensGroups s out (opened (n * 56)) p
      unfolding open_rule judge_opening slot_records
      wrote_so l p w =
          let whole : length (slot_records s) ≡ n * 56 = omega (arith, size, count) in
          by_rule s out p (opened (n * 56))
          (rw (f, counted-fine (slots_of s) n e, le-ltb (length out) (length (slot_records s)) (omega (arith, whole))) (ap opened whole))
          (w ∙ ap (sets out 0) (ap (items_at s) there ∙ sym (records_are s (slots_of s) (slots_stand s f))))

-- the group that is opened is the last
module _ (s : List ℕ) (count : ℕ) (e : count ≡ group_count s) where
  pub counted_so : (r : Result ℕ Full) → r ≡ counted 0 (open_group (group_of s) (count - 1)) → counted 0 (slots_of s) ≡ r
  unfolding slots_of
  counted_so r q = ap (λ (n : ℕ). counted 0 (open_group (group_of s) (n - 1))) (sym e) ∙ sym q

  pub places_so :
      (n : ℕ) (found out : List ℕ)
      → counted 0 (slots_of s) ≡ Ok n
      → 512 ≤ length out
      → found ≡ placed 0 (open_group (group_of s) (count - 1)) out
      → take n found ≡ map (λ (x : Slot). x.at) (slots_of s)
  unfolding slots_of
  places_so n found out c l q =
      let all = counted-all 0 n (slots_of s) (omega arith) c in
      let z : n ≡ length (slots_of s) = omega (arith, all.0) in
      ap (take n) (q ∙ ap (λ (m : ℕ). placed 0 (open_group (group_of s) (m - 1)) out) e)
      ∙ ap (λ (m : ℕ). take m (placed 0 (slots_of s) out)) z
      ∙ placed-all (slots_of s) out (omega (arith, z, all.1)) l

-- the first places of the table are those of the groups
pub table_so : (s starts : List ℕ) → judge_groups s ≡ fine → 64 ≤ length starts → Began s starts → places.JudgedFine s (take (group_count s) starts)
table_so s starts f l began =
    let w = fine_groups s f in
    let n = length-take-le (group_count s) starts (omega (arith, w.most)) in
    record {
      fine = f;
      most = omega (arith, n);
      place = λ g h. get_or-take (group_count s) starts g 0 (omega (arith, n)) ∙ began f g (omega (arith, n));
    }
