-- The code's steps in judging, each by what it has tested; and its loops, which keep what is left judged as the whole. Assumes nothing.
use Prim.Native.Nat.{ℕ, suc, ◌+◌, ◌-◌, ◌≤◌, ◌<◌}
use native.Mathlib.Numerals.{add-one}
use native.Mathlib.Omega.{arith}
use mathlib.Core.Bool.{false}
use mathlib.Core.Path.{◌≡◌, refl, sym, ap, ◌∙◌}
use mathlib.Core.List.{List, [], ◌∷◌, map}
use lib.Dec.{ltb}
use lib.ListN.{length, get_or, set, replicate}
use lib.Seq.{get_or-set_same, get_or-set_other}
use borrow.Author.Count.{below_more}
use borrow.Author.Tests.{eq-eqb, ne_eqb, lt-ltb, le-ltb}
use Rattle.wire.specs.Wire.{le_at}
use Rattle.ray_tracing.specs.Layout.{Seen, Field, layout, total, wide, always, present, any}
use Rattle.std.specs.Prelude.{Result, Ok, Err}
use Rattle.ray_tracing.specs.declared.SheetRefusal.{SheetRefusal}
use Rattle.ray_tracing.specs.Code.{judged_of as record_judged}
use Rattle.ray_tracing.specs.Reading as reading
use Rattle.ray_tracing.specs.declared.GroupsError.{GroupsError}
use Rattle.ray_tracing.specs.declared.GroupsError.TheVariants as groups-error
use Rattle.groups_judge.specs.Found.{finding_of, ended_at, Began}
use Rattle.ray_tracing.specs.Groups.{Finding, fine, refused, found_when, ◌and_then◌, at_byte, at_item, by_byte, item_size, past_items, group_count, group_at, judge_name, judge_item, judge_items, judge_group, judge_from, judge_groups}
use Rattle.groups_judge.proofs.Laws.{refused_not_fine, size-slot, size-named, slot_judged, item-inside, fine-group, group-inside, behind}

-- a slot's fields behind its present byte: each may have any value, so only whether they are there counts, and not what is known
abbrev anys : List ℕ → List Field
anys ws = map (λ w. wide w (present always) any) ws

any-fine : (ws : List ℕ) (c : Seen) (s : List ℕ) (p : ℕ) → p + total (anys ws) ≤ length s → reading.judge_fields c s p (anys ws) ≡ reading.fine
unfolding reading.judge_fields
any-fine [] c s p h = refl
any-fine (w ∷ ws) c s p h = rw (le-ltb (length s) (p + w) (omega arith)) (any-fine ws c s (p + w) (omega arith))

pub then_nothing : (j : reading.Judged) → reading.◌and_next◌ j reading.fine ≡ j
then_nothing reading.fine = refl
then_nothing (reading.refused n p) = refl

abbrev slot_widths : List ℕ
slot_widths = 2 ∷ 4 ∷ 1 ∷ replicate 12 4

module _ (s : List ℕ) (at : ℕ) where
  pub slot-there : at + 56 ≤ length s → slot_judged s at ≡ reading.fine
  slot-there h = any-fine slot_widths (reading.begin 0 [] false) s (at + 1) (omega arith)

  -- an item whose byte is 1 is judged as a record of section 8: what the code's judge says of it
  module _ (h : at + 1 ≤ length s) (e : le_at 1 s at ≡ 1) where
    pub slot-as-record : (c : Seen) → reading.judge_records c (layout 8).fields s at 1 ≡ slot_judged s at
    unfolding reading.judge_fields reading.judge_records
    slot-as-record c = rw (le-ltb (length s) (at + 1) h, e) (then_nothing (slot_judged s at))

    pub slot-judged :
        (c : Seen) {r q : Result Unit SheetRefusal}
        → record_judged r ≡ reading.judge_records c (layout 8).fields s at 1
        → r ≡ q
        → by_byte (record_judged q) ≡ by_byte (slot_judged s at)
    slot-judged c f told = ap by_byte (sym (ap record_judged told) ∙ f ∙ slot-as-record c)

-- what the code found, and where it ends if that is fine
abbrev pub Finds : Result ℕ GroupsError → Finding → ℕ → Type 0
Finds r j e = (finding_of r ≡ j) × (ended_at r e ≡ e)

-- an item
module _ (s : List ℕ) (g i at : ℕ) where
  pub item_cut : length s ≤ at → judge_item s g i at ≡ at_byte 2 at
  unfolding judge_item
  item_cut h = rw (lt-ltb (length s) (at + 1) (omega arith))

  module _ (h : at < length s) where
    pub item-slot : (r : Result ℕ GroupsError) → le_at 1 s at ≡ 1 → Finds r (by_byte (slot_judged s at)) (at + 56) → Finds r (judge_item s g i at) (at + item_size s at)
    unfolding judge_item
    item-slot r e f = rw (size-slot s at e, le-ltb (length s) (at + 1) (omega arith), eq-eqb (le_at 1 s at) 1 e) f

    pub item-named : (r : Result ℕ GroupsError) → le_at 1 s at ≡ 2 → Finds r (judge_name s g i (at + 1)) (at + 1 + 2) → Finds r (judge_item s g i at) (at + item_size s at)
    unfolding judge_item
    item-named r e f =
        let z : at + 1 + 2 ≡ at + 3 = omega arith in
        rw (size-named s at (λ d. omega (arith, e, d)), le-ltb (length s) (at + 1) (omega arith), e, ← z) f

    pub item-other : ¬ (le_at 1 s at ≡ 1) → ¬ (le_at 1 s at ≡ 2) → judge_item s g i at ≡ at_byte 5 at
    unfolding judge_item
    item-other d f = rw (le-ltb (length s) (at + 1) (omega arith), ne_eqb (le_at 1 s at) 1 d, ne_eqb (le_at 1 s at) 2 f)

-- what is refused is so whatever follows
stops : (x : GroupsError) (j next : Finding) → finding_of (Err x) ≡ j → finding_of (Err x) ≡ (j and_then next)
stops (groups-error.Malformed r) j next f = rw (← f)
stops (groups-error.InvalidGroup g i) j next f = rw (← f)

-- what is fine ends where it is to
goes : (r : Result ℕ GroupsError) {j : Finding} (e : ℕ) {p : ℕ} → Finds r j e → r ≡ Ok p → (j ≡ fine) × (p ≡ e)
goes r e f told = (sym f.0 ∙ ap finding_of told, ap (λ q. ended_at q e) (sym told) ∙ f.1)

one_left : (count i : ℕ) → i < count → count - i ≡ suc (count - (i + 1))
one_left count i h = omega arith

-- a group that is cut, and one of no items
module _ (s : List ℕ) (g start : ℕ) where
  pub group_cut : length s < start + 2 → judge_group s g start ≡ at_byte 2 start
  unfolding judge_group
  group_cut h = rw (lt-ltb (length s) (start + 2) h)

  pub group-none : start + 2 ≤ length s → le_at 2 s start ≡ 0 → judge_group s g start ≡ at_item 45 g 0
  unfolding judge_group
  group-none h e = rw (le-ltb (length s) (start + 2) h, e)

-- a group, item by item: what is left to judge is judged as the whole, and ends where it does
module _ (s : List ℕ) (g start count : ℕ) where
  pub record Left (i at : ℕ) : Type 0 where
    pub judged : judge_group s g start ≡ judge_items s g (count - i) i at
    pub ends : past_items s (le_at 2 s start) (start + 2) ≡ past_items s (count - i) at

  pub left-all : start + 2 ≤ length s → count ≡ le_at 2 s start → ¬ (count ≡ 0) → Left 0 (start + 2)
  unfolding judge_group
  left-all h e some =
      let z : count - 0 ≡ le_at 2 s start = omega (arith, e) in
      record {
        judged = rw (le-ltb (length s) (start + 2) h, ne_eqb (le_at 2 s start) 0 (λ d. some (e ∙ d)), z);
        ends = rw z;
      }

  module _ (i at : ℕ) (left : Left i at) where
    pub left-none : count ≤ i → Finds (Ok at) (judge_group s g start) (past_items s (le_at 2 s start) (start + 2))
    unfolding judge_items past_items
    left-none h =
        let z : count - i ≡ 0 = omega arith in
        (sym (rw z at left.judged), sym (rw z at left.ends))

    module _ (h : i < count) (r : Result ℕ GroupsError) (f : Finds r (judge_item s g i at) (at + item_size s at)) where
      pub left-stop : {x : GroupsError} → r ≡ Err x → finding_of (Err x) ≡ judge_group s g start
      unfolding judge_items
      left-stop {x} told = rw (left.judged, one_left count i h) (stops x _ _ (sym (ap finding_of told) ∙ f.0))

      pub left_more : {e : ℕ} → r ≡ Ok e → (e ≤ length s) × Left (i + 1) e
      unfolding judge_items past_items
      left_more told =
          let w = goes r (at + item_size s at) f told in (
            rw w.1 (item-inside s g i at w.0),
            record {
              judged = rw (left.judged, one_left count i h, w.0, w.1);
              ends = rw (left.ends, one_left count i h, w.1);
            },
          )

-- groups that are cut, too many, and none
module _ (s : List ℕ) where
  pub groups_cut : length s < 2 → judge_groups s ≡ at_byte 2 0
  unfolding judge_groups
  groups_cut h = rw (lt-ltb (length s) 2 h)

  module _ (h : 2 ≤ length s) where
    pub groups-many : 64 < group_count s → judge_groups s ≡ at_byte 4 0
    unfolding judge_groups
    groups-many l = rw (le-ltb (length s) 2 h, lt-ltb 64 (group_count s) l)

    pub groups_none : group_count s ≡ 0 → judge_groups s ≡ at_item 45 0 0
    unfolding judge_groups
    groups_none e = rw (le-ltb (length s) 2 h, e)

  -- an answer, and the table that is left with it: where something is refused nothing is said of that
  abbrev pub Answers : Result ℕ GroupsError → List ℕ → Type 0
  Answers r starts = (finding_of r ≡ judge_groups s) × Began s starts

  pub refuses : {n p g i : ℕ} (starts : List ℕ) → judge_groups s ≡ refused n p g i → (refused n p g i ≡ judge_groups s) × Began s starts
  refuses starts e = (sym e, λ f. absurd (refused_not_fine (sym e ∙ f)))

  refuses_by : (x : GroupsError) (starts : List ℕ) → finding_of (Err x) ≡ judge_groups s → Answers (Err x) starts
  refuses_by (groups-error.Malformed r) starts e = refuses starts (sym e)
  refuses_by (groups-error.InvalidGroup g i) starts e = refuses starts (sym e)

  -- group by group: what is left to judge is judged as the whole, the next group begins at `at`, and those passed are in the table
  pub record Ahead (starts : List ℕ) (g at : ℕ) : Type 0 where
    pub judged : judge_groups s ≡ (judge_from s g (group_count s - g) and_then behind s)
    pub place : at ≡ group_at s g
    pub table : (k : ℕ) → k < g → get_or starts k 0 ≡ group_at s k

  pub ahead_all : (starts : List ℕ) → 2 ≤ length s → group_count s ≤ 64 → ¬ (group_count s ≡ 0) → Ahead starts 0 2
  unfolding judge_groups group_at
  ahead_all starts h most some =
      let z : group_count s - 0 ≡ group_count s = omega arith in
      record {
        judged = rw (le-ltb (length s) 2 h, le-ltb 64 (group_count s) most, ne_eqb (group_count s) 0 some, z);
        place = refl;
        table = λ k l. absurd (omega arith);
      }

  module _ (starts : List ℕ) (g at : ℕ) (a : Ahead starts g at) where
    -- no group is left
    module _ (e : g ≡ group_count s) where
      only-behind : judge_groups s ≡ found_when (ltb at (length s)) (at_byte 3 at)
      unfolding judge_from
      only-behind =
          let z : group_count s - g ≡ 0 = omega (arith, e) in
          let p : group_at s (group_count s) ≡ at = ap (group_at s) (sym e) ∙ sym a.place in
          rw (a.judged, z, p)

      pub ahead-trailing : at < length s → judge_groups s ≡ at_byte 3 at
      ahead-trailing h = rw (only-behind, lt-ltb at (length s) h)

      pub ahead_none : length s ≤ at → Answers (Ok at) starts
      ahead_none h = (sym (rw (only-behind, le-ltb at (length s) h)), λ f k l. a.table k (omega (arith, e, l)))

    -- one group more
    module _ (h : g < group_count s) (r : Result ℕ GroupsError) (f : Finds r (judge_group s g at) (past_items s (le_at 2 s at) (at + 2))) where
      pub ahead-stop : (after : List ℕ) {x : GroupsError} → r ≡ Err x → Answers (Err x) after
      unfolding judge_from
      ahead-stop after {x} told =
          let first = stops x _ (judge_from s (g + 1) (group_count s - (g + 1))) (sym (ap finding_of told) ∙ f.0) in
          let all = stops x _ (behind s) first in
          refuses_by x after (rw (a.judged, one_left (group_count s) g h, ← a.place) all)

      pub ahead_more : {e : ℕ} → g < length starts → r ≡ Ok e → (e ≤ length s) × Ahead (set starts g at) (g + 1) e
      unfolding judge_from group_at
      ahead_more l told =
          let w = goes r (past_items s (le_at 2 s at) (at + 2)) f told in (
            rw w.1 (group-inside s g at (fine-group s g at w.0)),
            record {
              judged = rw (a.judged, one_left (group_count s) g h, ← a.place, w.0);
              place = w.1 ∙ rw (add-one g, ← a.place);
              table =
                  below_more (λ (k : ℕ). get_or (set starts g at) k 0 ≡ group_at s k) g
                  (λ k m. get_or-set_other starts g k at 0 (omega arith) ∙ a.table k m)
                  (get_or-set_same starts g at 0 l ∙ a.place);
            },
          )
