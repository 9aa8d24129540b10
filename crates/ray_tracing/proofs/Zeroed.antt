-- A record with its unused fields zero: it is judged as it was, it means what it did, and it is the bytes of its meaning.
use Prim.Native.Nat.{ℕ, zero, suc, ◌+◌, ◌*◌, ◌≤◌, ◌<◌}
use native.Mathlib.Nat.{add-zero, zero-add}
use native.Mathlib.Omega.{arith}
use mathlib.Core.Bool.{Bool, true, false, not, ◌||◌, cond}
use mathlib.Core.Path.{◌≡◌, refl, sym, ap, ◌∙◌}
use mathlib.Core.List.{List, [], ◌∷◌, ◌++◌}
use mathlib.Core.Option.{Option, none, some}
use lib.Dec.{eqb, ltb}
use lib.ListN.{length, get_or, take, drop, replicate, length-append, length-drop, length-replicate}
use lib.Seq.{length-take-le, drop_at, get_or-drop}
use borrow.Author.Tests.{le-ltb, not-false}
use Rattle.wire.specs.Wire.{le_at, le_bytes}
use Rattle.wire.proofs.Laws.{le_take, le_append_left, le_bytes-at}
use Rattle.ray_tracing.specs.declared.Version.{Version}
use Rattle.ray_tracing.specs.Layout.{Seen, Field, fits, geometries, layout, layout_in, total, triangles, with_buffer, present, any, wide, present_byte, buffer_or_none, u64, tag_known}
use Rattle.ray_tracing.specs.Reading.{fine, refused, judged_when, judge_field, judge_fields}
use Rattle.ray_tracing.specs.Meaning.{record_meaning}
use Rattle.ray_tracing.specs.Canonical.{canonical_record}
use Rattle.ray_tracing.proofs.Each.{each}
use Rattle.ray_tracing.proofs.Instances.{Below}
use Rattle.ray_tracing.proofs.Reading.{or_fine, on_fine, fields_whole}
use Rattle.ray_tracing.proofs.Windows.{Window, moved, fields_window}
use Rattle.ray_tracing.proofs.Sheets.{moved_fine}

-- ---- what is known

-- c is known where the fields fs begin, and d in the zeroed record: as many are used, and they may have the same values. "a record's
-- zeroed fields change nothing that a later field's `used` goes by"
abbrev pub Alike : List Field → Seen → Seen → Type 0
Alike [] c d = Unit {0}
Alike (f ∷ fs) c d =
    (f.used d ≡ f.used c)
    × (((v : ℕ) → f.allowed d v ≡ f.allowed c v)
    × ((v : ℕ) → Alike fs (f.after c v) (f.after d (cond (f.used c) v 0))))

-- fields that tell nothing of those after them
abbrev Plain : List Field → Type 0
Plain [] = Unit {0}
Plain (f ∷ fs) = ((c : Seen) (v : ℕ) → f.after c v ≡ c) × Plain fs

plain : (fs : List Field) → Plain fs → (c : Seen) → Alike fs c c
plain [] p c = tt
plain (f ∷ fs) p c =
    (refl, ((λ v. refl), λ v. rw (p.0 c v, p.0 c (cond (f.used c) v 0)) (plain fs p.1 c)))

-- of triangles
abbrev drawn : List ℕ → ℕ → Bool → ℕ → Seen
drawn b w n t = record { before = b; each = w; boxes = false; none = n; tag = t }

-- a field that is judged alike in both, and those after it
next : {A B C : Type 0} → A → B → C → A × (B × C)
next used allowed rest = (used, (allowed, rest))

-- a present byte that goes with a buffer, and the number behind it; what follows goes by no tag
with_number :
    (b : List ℕ) (w width : ℕ) (fs : List Field) (n : Bool) (t u : ℕ)
    → ((x y : ℕ) → Alike fs (drawn b w n x) (drawn b w n y))
    → Alike (present_byte (with_buffer triangles) ∷ wide width (present (with_buffer triangles)) any ∷ fs) (drawn b w n t) (drawn b w n u)
with_number b w width fs false t u h = next refl (λ v. refl) λ v. next refl (λ x. refl) λ x. h v v
with_number b w width fs true t u h = next refl (λ v. refl) λ v. next refl (λ x. refl) λ x. h v 0

abbrev transform_fields : List Field
transform_fields = buffer_or_none ∷ present_byte (with_buffer triangles) ∷ u64 (present (with_buffer triangles)) any ∷ []

transform_alike :
    (b : List ℕ) (w : ℕ) (n : Bool) (t u : ℕ) → Alike transform_fields (drawn b w n t) (drawn b w n u)
transform_alike b w n t u = next refl (λ v. refl) λ v. with_number b w 8 [] (eqb v 65535) t u (λ x y. tt)

-- a geometry's fields after its data buffer
geometry_alike :
    (v : Version) (boxes : Bool) (b : List ℕ) (w : ℕ) (n : Bool) (t : ℕ)
    → let c : Seen = record { before = b; each = w; boxes = boxes; none = n; tag = t } in
    Alike (drop 5 (geometries v).fields) c c
geometry_alike v true b w n t =
    next refl (λ v. refl) λ v. next refl (λ v. refl) λ v. next refl (λ v. refl) λ v. next refl (λ v. refl) λ v.
    next refl (λ v. refl) λ v. next refl (λ v. refl) λ v. next refl (λ v. refl) λ v. next refl (λ v. refl) λ v.
    next refl (λ v. refl) λ v. next refl (λ v. refl) λ v. tt
geometry_alike v false b w n t =
    next refl (λ v. refl) λ v. next refl (λ v. refl) λ v. next refl (λ v. refl) λ i. next refl (λ v. refl) λ p.
    next refl (λ v. refl) λ v. with_number b w 4 transform_fields (eqb i 65535) p p (λ x y. transform_alike b w (eqb i 65535) x y)

-- a declared geometry's fields after its Blas
declared_alike :
    (boxes : Bool) (b : List ℕ) (w : ℕ) (n : Bool) (t : ℕ)
    → let c : Seen = record { before = b; each = w; boxes = boxes; none = n; tag = t } in
    Alike (drop 1 (layout 3).fields) c c
declared_alike true b w n t =
    next refl (λ v. refl) λ v. next refl (λ v. refl) λ v. next refl (λ v. refl) λ v. next refl (λ v. refl) λ v.
    next refl (λ v. refl) λ v. next refl (λ v. refl) λ v. next refl (λ v. refl) λ v. next refl (λ v. refl) λ v. tt
declared_alike false b w n t =
    next refl (λ v. refl) λ v. next refl (λ v. refl) λ v. next refl (λ v. refl) λ v. next refl (λ v. refl) λ v.
    next refl (λ v. refl) λ v. next refl (λ v. refl) λ v. next refl (λ v. refl) λ v. next refl (λ v. refl) λ v. tt

still : (c : Seen) → ℕ → c ≡ c
still c v = refl

pub layouts_alike : (v : Version) (k : ℕ) → k < 10 → (c : Seen) → Alike (layout_in v k).fields c c
layouts_alike v =
    each (λ (k : ℕ). (c : Seen) → Alike (layout_in v k).fields c c) 10 (
      plain (layout 0).fields (still, (still, tt)),
      (
        plain (layout 1).fields (still, (still, tt)),
        (plain (layout 2).fields (still, (still, (still, (still, (still, (still, (still, tt))))))), (declared-fields, (plain (layout 4).fields (still, (still, (still, (still, (still, tt))))), (plain (layout 5).fields (still, (still, (still, tt))), (geometry-fields, (plain (layout 7).fields (still, (still, tt)), (slot-fields, (action-fields, tt)))))))),
      ),
    )
  where
    declared-fields : (c : Seen) → Alike (layout 3).fields c c
    declared-fields c =
        next refl (λ v. refl) λ v. declared_alike (eqb (get_or c.before (v * c.each) 0) 1) c.before c.each c.none c.tag

    geometry-fields : (c : Seen) → Alike (geometries v).fields c c
    geometry-fields c =
        next refl (λ x. refl) λ x. next refl (λ x. refl) λ x. next refl (λ x. refl) λ x. next refl (λ x. refl) λ x.
        next refl (λ x. refl) λ x. geometry_alike v c.boxes c.before c.each c.none c.tag

    slot-fields : (c : Seen) → Alike (layout 8).fields c c
    slot-fields c = next refl (λ v. refl) λ v. plain (drop 1 (layout 8).fields) (still, (still, (still, (still, (still, (still, (still, (still, (still, (still, (still, (still, (still, (still, (still, tt))))))))))))))) (tag_known c v)

    action-fields : (c : Seen) → Alike (layout 9).fields c c
    action-fields c = next refl (λ v. refl) λ v. plain (drop 1 (layout 9).fields) (still, tt) (tag_known c v)

-- ---- a field

-- its bytes in the zeroed record
abbrev zeroed : Field → Seen → List ℕ → List ℕ
zeroed f c r = cond (f.used c) (take f.width r) (replicate f.width 0)

no_byte : (n i : ℕ) → ◌≡◌ {A = ℕ} (get_or (replicate n 0) i 0) 0
no_byte zero i = refl
no_byte (suc n) zero = refl
no_byte (suc n) (suc i) = no_byte n i

pub le_zero : (w : ℕ) (s : List ℕ) (at : ℕ) → ((i : ℕ) → get_or s i 0 ≡ 0) → le_at w s at ≡ 0
unfolding le_at
le_zero zero s at h = refl
le_zero (suc w) s at h = rw (h at, le_zero w s (at + 1) h)

module _ (f : Field) (c : Seen) (r : List ℕ) (h : f.width ≤ length r) where
  pub zeroed_length : length (zeroed f c r) ≡ f.width
  zeroed_length = go (f.used c)
    where
      go : (u : Bool) → length (cond u (take f.width r) (replicate f.width 0)) ≡ f.width
      go true = length-take-le f.width r h
      go false = length-replicate f.width 0

  zeroed_read : (t : List ℕ) → le_at f.width (zeroed f c r ++ t) 0 ≡ cond (f.used c) (le_at f.width r 0) 0
  zeroed_read t =
      le_append_left f.width (zeroed f c r) t 0 (omega (arith, zeroed_length)) ∙ go (f.used c)
    where
      go :
          (u : Bool)
          → le_at f.width (cond u (take f.width r) (replicate f.width 0)) 0 ≡ cond u (le_at f.width r 0) 0
      go true = le_take f.width f.width r 0 (omega arith)
      go false = le_zero f.width (replicate f.width 0) 0 (no_byte f.width)

  zeroed_rest : (t : List ℕ) → drop f.width (zeroed f c r ++ t) ≡ t
  zeroed_rest t = drop_at (zeroed f c r) t f.width zeroed_length

-- ---- a record

pub canonical-length :
    (fs : List Field) (c : Seen) (r : List ℕ) → total fs ≤ length r → length (canonical_record fs c r) ≡ total fs
unfolding canonical_record
canonical-length [] c r h = refl
canonical-length (f ∷ fs) c r h =
    rw (length-append, zeroed_length f c r (omega arith), canonical-length fs (f.after c (le_at f.width r 0)) (drop f.width r) (rw length-drop (omega arith)))

-- it means what it did
pub means_kept :
    (fs : List Field) (c d : Seen) (r : List ℕ)
    → total fs ≤ length r
    → Alike fs c d
    → record_meaning fs d (canonical_record fs c r) ≡ record_meaning fs c r
unfolding canonical_record record_meaning
means_kept [] c d r h a = refl
means_kept (f ∷ fs) c d r h a =
    let v = le_at f.width r 0 in
    let t = canonical_record fs (f.after c v) (drop f.width r) in
    rw (a.0, zeroed_read f c r (omega arith) t, zeroed_rest f c r (omega arith) t)
    (rw (means_kept fs (f.after c v) (f.after d (cond (f.used c) v 0)) (drop f.width r) (rw length-drop (omega arith)) (a.1.1 v))
    (ap (λ (o : Option ℕ). o ∷ record_meaning fs (f.after c v) (drop f.width r)) (shown (f.used c) v)))
  where
    shown : (u : Bool) (v : ℕ) → cond u (some (cond u v 0)) none ≡ cond u (some v) none
    shown true v = refl
    shown false v = refl

-- the rest of a record, as a record of its own
rest_window : (w : ℕ) (r : List ℕ) → w ≤ length r → Window w (drop w r) r
rest_window w r h = record { inside = rw length-drop (omega arith); same = λ i k. sym (get_or-drop w r i 0) }

pub rest_judged :
    (fs : List Field) (c : Seen) (w : ℕ) (r : List ℕ)
    → w + total fs ≤ length r
    → judge_fields c r w fs ≡ moved w (judge_fields c (drop w r) 0 fs)
rest_judged fs c w r h =
    rw add-zero at (fields_window (rest_window w r (omega arith)) fs c 0 (rw length-drop (omega arith)))

-- a field that is judged fine, and the rest
module _ (f : Field) (fs : List Field) (c : Seen) (r : List ℕ) (e : judge_fields c r 0 (f ∷ fs) ≡ fine) where
  whole : total (f ∷ fs) ≤ length r
  whole = omega (arith, fields_whole (f ∷ fs) c r 0 (omega arith) e)

  parts : (judge_field c r 0 f ≡ fine) × (judge_fields (f.after c (le_at f.width r 0)) r (0 + f.width) fs ≡ fine)
  unfolding judge_fields
  parts = or_fine (judge_field c r 0 f) _ e

  value-fits : fits f c (le_at f.width r 0) ≡ true
  value-fits =
      let x = or_fine (judged_when (ltb (length r) (0 + f.width)) (refused 2 0)) _ parts.0 in
      not-false _ (on_fine _ 5 0 x.1)

  rest_fine : judge_fields (f.after c (le_at f.width r 0)) (drop f.width r) 0 fs ≡ fine
  rest_fine =
      moved_fine f.width _
      (sym (rest_judged fs (f.after c (le_at f.width r 0)) f.width r (omega (arith, whole))) ∙ rw zero-add at parts.1)

-- a field and the rest that are judged fine
fields-fine :
    (f : Field) (fs : List Field) (d : Seen) (r : List ℕ)
    → total (f ∷ fs) ≤ length r
    → fits f d (le_at f.width r 0) ≡ true
    → judge_fields (f.after d (le_at f.width r 0)) (drop f.width r) 0 fs ≡ fine
    → judge_fields d r 0 (f ∷ fs) ≡ fine
unfolding judge_fields
fields-fine f fs d r h e g =
    rw (
      zero-add f.width,
      le-ltb (length r) f.width (omega arith),
      e,
      rest_judged fs (f.after d (le_at f.width r 0)) f.width r h,
      g,
    )

-- it is judged as it was
pub fine-kept :
    (fs : List Field) (c d : Seen) (r : List ℕ)
    → Alike fs c d
    → judge_fields c r 0 fs ≡ fine
    → judge_fields d (canonical_record fs c r) 0 fs ≡ fine
unfolding canonical_record
fine-kept [] c d r a e = unfold judge_fields in refl
fine-kept (f ∷ fs) c d r a e =
    let v = le_at f.width r 0 in
    let h = whole f fs c r e in
    let t = canonical_record fs (f.after c v) (drop f.width r) in
    let k = canonical-length fs (f.after c v) (drop f.width r) (rw length-drop (omega arith)) in
    fields-fine f fs d (zeroed f c r ++ t) (rw length-append (omega (arith, zeroed_length f c r (omega arith))))
    (rw (zeroed_read f c r (omega arith) t, a.0, a.1.0) (allowed (f.used c) (f.allowed c) v (value-fits f fs c r e)))
    (rw (zeroed_read f c r (omega arith) t, zeroed_rest f c r (omega arith) t)
    (fine-kept fs (f.after c v) (f.after d (cond (f.used c) v 0)) (drop f.width r) (a.1.1 v) (rest_fine f fs c r e)))
  where
    allowed : (u : Bool) (g : ℕ → Bool) (v : ℕ) → (g v || not u) ≡ true → (g (cond u v 0) || not u) ≡ true
    allowed true g v e = e
    allowed false g v e = or-true (g 0)
      where
        or-true : (b : Bool) → (b || true) ≡ true
        or-true true = refl
        or-true false = refl

-- the bytes of a meaning: those of each value, zeros for none
abbrev pub field_of : Field → Option ℕ → List ℕ
field_of f (some v) = le_bytes f.width v
field_of f none = replicate f.width 0

abbrev pub record_of : List Field → List (Option ℕ) → List ℕ
record_of [] m = []
record_of (f ∷ fs) [] = []
record_of (f ∷ fs) (o ∷ m) = field_of f o ++ record_of fs m

-- are those of the zeroed record
pub of_meaning :
    (fs : List Field) (c : Seen) (r : List ℕ)
    → total fs ≤ length r
    → Below r
    → record_of fs (record_meaning fs c r) ≡ canonical_record fs c r
unfolding canonical_record record_meaning
of_meaning [] c r h b = refl
of_meaning (f ∷ fs) c r h b =
    rw (of_meaning fs (f.after c (le_at f.width r 0)) (drop f.width r) (rw length-drop (omega arith)) (λ k. rw get_or-drop (b (f.width + k))))
    (ap (λ (t : List ℕ). t ++ canonical_record fs (f.after c (le_at f.width r 0)) (drop f.width r)) (go (f.used c)))
  where
    go : (u : Bool) → field_of f (cond u (some (le_at f.width r 0)) none) ≡ cond u (take f.width r) (replicate f.width 0)
    go true = le_bytes-at f.width r 0 b (omega arith)
    go false = refl
