-- A geometry that no check refuses asks for the ranges that it gives by itself, and they fit.
use mathlib.Core.Path.{◌≡◌, refl, sym, ap, subst, ◌∙◌}
use mathlib.Core.Bool.{Bool, true, false, cond}
use mathlib.Core.Option.{Option, none, some}
use mathlib.Core.List.{List, [], ◌++◌, append-nil}
use Prim.Native.Nat.{ℕ, ◌+◌, ◌*◌, ◌^◌, ◌≤◌, ◌<◌}
use native.Mathlib.Omega.{arith}
use lib.Dec.{eqb}
use lib.ListN.{get_or}
use borrow.Author.Tests.{eqb-true, eqb-false, ne_eqb, ltb-false}
use Rattle.wire.proofs.Laws.{le_below}
use Rattle.ray_tracing.specs.declared.Blas.{Blas}
use Rattle.ray_tracing.specs.declared.Buffer.{Buffer}
use Rattle.ray_tracing.specs.declared.BlasGeometry.{BlasGeometry}
use Rattle.ray_tracing.specs.declared.BlasGeometrySizeDescriptor.{BlasGeometrySizeDescriptor}
use Rattle.ray_tracing.specs.Causes.{Cause}
use Rattle.ray_tracing.specs.Guard.{refuse}
use Rattle.ray_tracing.specs.Mentions.{buffer_of}
use Rattle.ray_tracing.specs.Checks.{Checked, asks, refused, ◌then◌, range, Ranges, ranges, limit32}
use Rattle.ray_tracing.specs.Triangles.{descriptor_rule, index_sizes_rule, vertices_rule, index_width, unless_none, is_lent, index_part, transform_part, triangles_rule}
use Rattle.ray_tracing.specs.Boxes.{boxes_rule}
use Rattle.ray_tracing.specs.Plan.{Tables, entry_of, geometry_of, blas_of_entry, declared_of, checked_at, checked_e, asked, passed}
use Rattle.build_ranges.specs.Ranges.{index_range, transform_range, geometry_ranges, RangesFit}

refused_not : (c : Cause) (l : Ranges) → refused c ≡ asks l → ⊥
refused_not c l e = let z : ◌≡◌ {A = ℕ} 0 1 = cc in omega arith

-- past a test that did not refuse
past : (t : Bool) (c : Cause) (r : Checked) (l : Ranges) → refuse t (refused c) r ≡ asks l → (t ≡ false) × (r ≡ asks l)
unfolding refuse
past false c r l e = (refl, e)
past true c r l e = absurd (refused_not c l e)

same_asks : (a b : Ranges) → asks a ≡ asks b → b ≡ a
same_asks a b e = cc

-- two checks, one after the other
abbrev joined : Ranges → Ranges → Ranges
joined a b = ranges (a.of_data ++ b.of_data) (a.of_indices ++ b.of_indices) (a.of_transform ++ b.of_transform)

record Both (a b : Checked) (l : Ranges) : Type 0 where
  first : Ranges
  rest : Ranges
  of_first : a ≡ asks first
  of_rest : b ≡ asks rest
  whole : l ≡ joined first rest

both : (a b : Checked) (l : Ranges) → (a then b) ≡ asks l → Both a b l
both (asks p) (asks q) l e = record { first = p; rest = q; of_first = refl; of_rest = refl; whole = same_asks (joined p q) l e }
both (asks p) (refused c) l e = absurd (refused_not c l e)
both (refused c) b l e = absurd (refused_not c l e)

-- ---- the parts of a triangle geometry

descriptor_none : (d : BlasGeometrySizeDescriptor) (g : BlasGeometry) (l : Ranges) → descriptor_rule d g ≡ asks l → l ≡ ranges [] [] []
descriptor_none d g l e =
    let a = (past _ _ _ l e).1 in
    let b = (past _ _ _ l a).1 in
    let c = (past _ _ _ l b).1 in
    let f = (past _ _ _ l c).1 in
    same_asks (ranges [] [] []) l (past _ _ _ l f).1

index_sizes_none : (d : BlasGeometrySizeDescriptor) (g : BlasGeometry) (b : Bool) (l : Ranges) → index_sizes_rule d g b ≡ asks l → l ≡ ranges [] [] []
index_sizes_none d g b l e =
    let a = (past _ _ _ l e).1 in
    let b = (past _ _ _ l a).1 in
    let c = (past _ _ _ l b).1 in
    same_asks (ranges [] [] []) l (past _ _ _ l c).1

vertices-asked :
    (g : BlasGeometry) (b : Buffer) (l : Ranges)
    → vertices_rule g b ≡ asks l
    → ((g.first + g.count) * g.stride ≤ b.size)
    × (l ≡ ranges (range g.buffer.0 (g.first * g.stride) (g.count * g.stride)) [] [])
vertices-asked g b l e =
    let a = (past _ _ _ l e).1 in
    let c = (past _ _ _ l a).1 in
    let d = past _ _ _ l c in
    (ltb-false b.size _ d.0, same_asks _ l d.1)

index_asked :
    (g : BlasGeometry) (buffer : ℕ → Buffer) (l : Ranges)
    → index_part g (unless_none buffer g.index_buffer.0) ≡ asks l
    → l ≡ ranges [] (index_range 0 g) []
index_asked g buffer l e = go (eqb g.index_buffer.0 65535) e
  where
    ranged : List ℕ
    ranged = range g.index_buffer.0 (g.first_index * index_width g.index_format) (g.index_count * index_width g.index_format)

    go : (t : Bool) → index_part g (cond t none (some (buffer g.index_buffer.0))) ≡ asks l → l ≡ ranges [] (cond t [] ranged) []
    go true f = same_asks (ranges [] [] []) l f
    go false f =
        let a = (past _ _ _ l f).1 in
        let b = (past _ _ _ l a).1 in
        let c = (past _ _ _ l b).1 in
        let d = (past _ _ _ l c).1 in
        let h = (past _ _ _ l d).1 in
        let i = (past _ _ _ l h).1 in
        let j = (past _ _ _ l i).1 in
        let k = (past _ _ _ l j).1 in
        same_asks (ranges [] ranged []) l (past _ _ _ l k).1

transform-asked :
    (flags : ℕ) (g : BlasGeometry) (buffer : ℕ → Buffer) (l : Ranges)
    → transform_part flags g (unless_none buffer g.transform_buffer.0) ≡ asks l
    → ((g.transform_buffer.0 ≡ 65535 → ⊥) → g.transform_buffer_offset ≤ limit32) × (l ≡ ranges [] [] (transform_range 0 g))
transform-asked flags g buffer l e = go (eqb g.transform_buffer.0 65535) refl e
  where
    ranged : List ℕ
    ranged = range g.transform_buffer.0 g.transform_buffer_offset 48

    go :
        (t : Bool)
        → eqb g.transform_buffer.0 65535 ≡ t
        → transform_part flags g (cond t none (some (buffer g.transform_buffer.0))) ≡ asks l
        → ((g.transform_buffer.0 ≡ 65535 → ⊥) → g.transform_buffer_offset ≤ limit32) × (l ≡ ranges [] [] (cond t [] ranged))
    go true z f = (λ h. absurd (h (eqb-true _ 65535 z)), same_asks (ranges [] [] []) l (past _ _ _ l f).1)
    go false z f =
        let a = (past _ _ _ l f).1 in
        let b = (past _ _ _ l a).1 in
        let c = (past _ _ _ l b).1 in
        let d = (past _ _ _ l c).1 in
        let h = past _ _ _ l d in
        let i = (past _ _ _ l h.1).1 in
        (λ k. ltb-false limit32 _ h.0, same_asks (ranges [] [] ranged) l (past _ _ _ l i).1)

-- ---- a geometry, of either kind

-- data, index, transform
abbrev flat : Ranges → List ℕ
flat r = r.of_data ++ (r.of_indices ++ r.of_transform)

-- what is asked for, and what the tests showed
pub record Asked (kind : ℕ) (g : BlasGeometry) (size : ℕ) (l : Ranges) : Type 0 where
  asked_for : flat l ≡ geometry_ranges kind g
  vertices : kind ≡ 0 → (g.first + g.count) * g.stride ≤ size
  boxes : (kind ≡ 0 → ⊥) → g.first + g.count * g.stride ≤ size
  transform : kind ≡ 0 → (g.transform_buffer.0 ≡ 65535 → ⊥) → g.transform_buffer_offset ≤ limit32

triangles-asked :
    (blas : Blas) (declared : Option BlasGeometrySizeDescriptor) (g : BlasGeometry) (b : Buffer) (buffer : ℕ → Buffer) (l : Ranges)
    → triangles_rule blas declared g b (unless_none buffer g.index_buffer.0) (unless_none buffer g.transform_buffer.0) ≡ asks l
    → Asked 0 g b.size l
triangles-asked blas none g b buffer l e = absurd (refused_not _ l (past _ _ _ l e).1)
triangles-asked blas (some d) g b buffer l e =
    let p = both (descriptor_rule d g) _ l (past _ _ _ l e).1 in
    let q = both (index_sizes_rule d g (is_lent (unless_none buffer g.index_buffer.0))) _ p.rest p.of_rest in
    let r = both (vertices_rule g b) _ q.rest q.of_rest in
    let s = both (index_part g (unless_none buffer g.index_buffer.0)) _ r.rest r.of_rest in
    let v = vertices-asked g b r.first r.of_first in
    let t = transform-asked blas.flags g buffer s.rest s.of_rest in
    let i = index_asked g buffer s.first s.of_first in
    record {
      asked_for =
          ap flat
          (p.whole
          ∙ ap (λ (a : Ranges). joined a p.rest) (descriptor_none d g p.first p.of_first)
          ∙ q.whole
          ∙ ap (λ (a : Ranges). joined a q.rest) (index_sizes_none d g (is_lent (unless_none buffer g.index_buffer.0)) q.first q.of_first)
          ∙ r.whole
          ∙ (λ j. joined (v.1 j) ((s.whole ∙ (λ k. joined (i k) (t.1 k))) j)))
          ∙ ap (λ (a : List ℕ). range g.buffer.0 (g.first * g.stride) (g.count * g.stride) ++ (a ++ transform_range 0 g)) (append-nil (index_range 0 g));
      vertices = λ z. v.0;
      boxes = λ z. absurd (z refl);
      transform = λ z. t.0;
    }

boxes-asked :
    (kind : ℕ) (blas : Blas) (declared : Option BlasGeometrySizeDescriptor) (g : BlasGeometry) (b : Buffer) (l : Ranges)
    → (kind ≡ 0 → ⊥)
    → boxes_rule blas declared g b ≡ asks l
    → Asked kind g b.size l
boxes-asked kind blas none g b l z e = absurd (refused_not _ l (past _ _ _ l e).1)
boxes-asked kind blas (some d) g b l z e =
    let a = (past _ _ _ l e).1 in
    let c = (past _ _ _ l a).1 in
    let f = (past _ _ _ l c).1 in
    let h = (past _ _ _ l f).1 in
    let i = (past _ _ _ l h).1 in
    let j = (past _ _ _ l i).1 in
    let k = (past _ _ _ l j).1 in
    let m = (past _ _ _ l k).1 in
    let n = past _ _ _ l m in
    record {
      asked_for = ap flat (same_asks _ l n.1) ∙ sym (rw (ne_eqb kind 0 z));
      vertices = λ y. absurd (z y);
      boxes = λ y. ltb-false b.size _ n.0;
      transform = λ y. absurd (z y);
    }

-- the j-th geometry of entry i, which is geometry g, where it is not refused
module _ (x : Tables) (i j g : ℕ) (e : checked_e i j (checked_at x i j g) ≡ passed) where
  abbrev kind : ℕ
  kind = (entry_of x i).kind

  abbrev buffer-size : ℕ
  buffer-size = (buffer_of x.buffers (geometry_of x g).buffer.0).size

  geometry-asked : (l : Ranges) → checked_at x i j g ≡ asks l → Asked kind (geometry_of x g) buffer-size l
  geometry-asked l f = go (eqb kind 0) refl f
    where
      triangles : Checked
      triangles =
          triangles_rule
          (blas_of_entry x i)
          (declared_of x (entry_of x i).blas.0 j)
          (geometry_of x g)
          (buffer_of x.buffers (geometry_of x g).buffer.0)
          (unless_none (buffer_of x.buffers) (geometry_of x g).index_buffer.0)
          (unless_none (buffer_of x.buffers) (geometry_of x g).transform_buffer.0)

      boxes : Checked
      boxes =
          boxes_rule (blas_of_entry x i) (declared_of x (entry_of x i).blas.0 j) (geometry_of x g) (buffer_of x.buffers (geometry_of x g).buffer.0)

      go : (t : Bool) → eqb kind 0 ≡ t → cond t triangles boxes ≡ asks l → Asked kind (geometry_of x g) buffer-size l
      go true z h =
          subst (λ (k : ℕ). Asked k (geometry_of x g) buffer-size l) (sym (eqb-true kind 0 z))
          (triangles-asked (blas_of_entry x i) (declared_of x (entry_of x i).blas.0 j) (geometry_of x g) (buffer_of x.buffers (geometry_of x g).buffer.0) (buffer_of x.buffers) l h)
      go false z h = boxes-asked kind (blas_of_entry x i) (declared_of x (entry_of x i).blas.0 j) (geometry_of x g) (buffer_of x.buffers (geometry_of x g).buffer.0) l (eqb-false kind 0 z) h

  -- its ranges
  pub asked_is : asked (checked_at x i j g) ≡ geometry_ranges kind (geometry_of x g)
  asked_is = go (checked_at x i j g) refl e
    where
      go : (c : Checked) → checked_at x i j g ≡ c → checked_e i j c ≡ passed → asked c ≡ geometry_ranges kind (geometry_of x g)
      go (asks l) f h = (geometry-asked l f).asked_for
      go (refused c) f h = let z : ◌≡◌ {A = ℕ} 0 1 = cc in absurd (omega arith)

  -- and that they fit
  pub asked-fits : ((k : ℕ) → get_or x.buffers k 0 < 256) → RangesFit kind (geometry_of x g)
  asked-fits bytes = go (checked_at x i j g) refl e
    where
      limit : buffer-size < 2 ^ 64
      limit = le_below 8 x.buffers _ bytes

      go : (c : Checked) → checked_at x i j g ≡ c → checked_e i j c ≡ passed → RangesFit kind (geometry_of x g)
      go (asks l) f h =
          let a = geometry-asked l f in
          record {
            vertices = λ z. omega (arith, a.vertices z, limit);
            boxes = λ z. omega (arith, a.boxes z, limit);
            transform = λ z y. omega (arith, a.transform z y);
          }
      go (refused c) f h = let z : ◌≡◌ {A = ℕ} 0 1 = cc in absurd (omega arith)
