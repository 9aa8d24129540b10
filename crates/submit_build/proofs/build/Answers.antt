-- Its lists are lent whole, and name what stands in the tables.
use native.Mathlib.Nat.{add-sub_cancel_left}
use Rattle.std.proofs.Common.{arith}
use Rattle.ray_tracing.specs.Submission.{lent_of}
use Rattle.submit_build.proofs.Steps.{whole_build, build-acts}
use Rattle.submit_build.proofs.build.Goals as goal

pub overflow_add-mid : goal.overflow_add-mid
overflow_add-mid c =
    let a = c.args in
    let s = a.lists.now in
    omega (arith, whole_build (lent_of a.number a.blases.now a.tlases.now a.dependency_counts.now a.dependencies.now) s.cells.now s.start s.blas_count s.tlas_count c.requires.unrefused)

pub offset_bounds-cells-start : goal.offset_bounds-cells-start
offset_bounds-cells-start c =
    let a = c.args in
    let s = a.lists.now in
    omega (arith, whole_build (lent_of a.number a.blases.now a.tlases.now a.dependency_counts.now a.dependencies.now) s.cells.now s.start s.blas_count s.tlas_count c.requires.unrefused)

pub slice_bounds-mark_blases-end : goal.slice_bounds-mark_blases-end
slice_bounds-mark_blases-end c =
    let a = c.args in
    let s = a.lists.now in
    (whole_build (lent_of a.number a.blases.now a.tlases.now a.dependency_counts.now a.dependencies.now) s.cells.now s.start s.blas_count s.tlas_count c.requires.unrefused).inside

pub mark_blases-requires : goal.mark_blases-requires
mark_blases-requires c =
    let a = c.args in
    let s = a.lists.now in
    rw add-sub_cancel_left (whole_build (lent_of a.number a.blases.now a.tlases.now a.dependency_counts.now a.dependencies.now) s.cells.now s.start s.blas_count s.tlas_count c.requires.unrefused).ids

pub build_tlases-requires : goal.build_tlases-requires
build_tlases-requires c =
    let a = c.args in
    let s = a.lists.now in
    let k = whole_build (lent_of a.number a.blases.now a.tlases.now a.dependency_counts.now a.dependencies.now) s.cells.now s.start s.blas_count s.tlas_count c.requires.unrefused in
    record { lent = k.lent; all_listed = rw c.mark_blases.auto.blases k.listed; list_room = c.requires.list_room }

pub returns : goal.returns
returns c =
    let a = c.args in
    let s = a.lists.now in
    build-acts (lent_of a.number a.blases.now a.tlases.now a.dependency_counts.now a.dependencies.now) _ _ c.requires.unrefused (whole_build (lent_of a.number a.blases.now a.tlases.now a.dependency_counts.now a.dependencies.now) s.cells.now s.start s.blas_count s.tlas_count c.requires.unrefused).is (rw add-sub_cancel_left at c.mark_blases.ensures) c.build_tlases.ensures
