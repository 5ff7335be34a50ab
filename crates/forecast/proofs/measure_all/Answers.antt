-- `measure_all`: each turn puts one box behind those that stand, and the part of the buffer that is lent is the block.
use Prim.Native.Nat.{◌*◌, ◌≤◌, ◌<◌}
use mathlib.Core.Path.{◌≡◌}
use native.Mathlib.Omega.{arith}
use lib.ListN.{length, length-take, length-drop}
use Rattle.accept.proofs.Laws.Sizes.{sized}
use Rattle.forecast.proofs.Laws.Cells.{layer_most, sum_most}
use Rattle.forecast.proofs.Places.{turn_first, turn_long, turn_more, turn_last}
use Rattle.forecast.proofs.measure_all.Goals as goal
use Rattle.forecast.proofs.measure_all.Goals.{After-measure-made, In-loop-n}

pub loop-n-init : goal.loop-n-init
loop-n-init c = let s = c.args.show in turn_first s.size.w s.size.h s.table.now s.rundown.now

-- the block's four places lie in the list
room : (c : In-loop-n) → (c.loop-n.n < 256) × (length c.loop-n.boxes ≡ 1024)
room c =
    let s = sized _ _ _ _ _ _ c.requires in
    (omega (arith, s.few, c.loop-n-test.true), turn_long _ _ _ _ c.loop-n.invariant)

pub slice_bounds-boxes-end : goal.slice_bounds-boxes-end
slice_bounds-boxes-end c = omega (arith, room (goal.at.slice_bounds-boxes-end c).In-loop-n)

pub measure-made-requires : goal.measure-made-requires
measure-made-requires c =
    let s = sized _ _ _ _ _ _ c.requires in
    (s.canvas_right, simp (length-take, length-drop) (omega (arith, room (goal.at.measure-made-requires c).In-loop-n)), omega (arith, s.is, c.loop-n-test.true))

small : (c : After-measure-made) → c.measure-made.result ≤ 4096 * 4096
small c = let s = c.args.show in rw c.measure-made.ensures.cells (layer_most s.size.w s.size.h (sized _ _ _ _ _ _ c.requires).canvas_right _)

pub overflow_mul-made : goal.overflow_mul-made
overflow_mul-made c = omega (arith, small (goal.at.overflow_mul-made c).After-measure-made)

pub overflow_add-cells : goal.overflow_add-cells
overflow_add-cells c =
    let l = c.loop-n in
    let s = sized _ _ _ _ _ _ c.requires in
    omega (arith, small (goal.at.overflow_add-cells c).After-measure-made, s.few, c.loop-n-test.true, l.invariant.sum, sum_most c.args.show.size.w c.args.show.size.h s.canvas_right c.args.show.rundown.now l.n)

pub loop-n-preserved : goal.loop-n-preserved
loop-n-preserved c =
    let a = c.args.show in
    let l = c.loop-n in
    let s = sized _ _ _ _ _ _ c.requires in
    turn_more a.size.w a.size.h a.table.now a.rundown.now s.canvas_right l.invariant (omega (arith, s.few, c.loop-n-test.true))
    c.measure-made.ensures.place c.measure-made.ensures.cells c.max-scratch.ensures

pub returns : goal.returns
returns c =
    let a = c.args.show in
    let l = c.loop-n in
    let e : l.n ≡ c.args.count = omega arith in
    rw (← e) (turn_last a.size.w a.size.h a.table.now a.rundown.now l.invariant (omega (arith, (sized _ _ _ _ _ _ c.requires).is)))
