-- `level_row`: the loop's invariant is `Rowed` at the pixel's rule, with the columns that are kept.
use Prim.Native.Nat.{◌+◌, ◌<◌}
use native.Mathlib.Omega.{arith}
use Rattle.canvas.proofs.Laws.Rows.{rowed_start, rowed_more, rowed_end}
use Rattle.panel.specs.Private.{level}
use Rattle.glass.proofs.Sizes.{edge_row_in}
use Rattle.glass.proofs.general.level.level_row.Goals as goal
use Rattle.glass.proofs.general.level.level_row.Goals.{In-loop-i}

pub columns_at-kept-requires : goal.columns_at-kept-requires
columns_at-kept-requires c =
    let a = c.args in
    (omega (arith, c.shared_of-v.ensures.fy, edge_row_in a.view.p a.view.table.now (level a.view.p a.y) a.y c.args.view.sized.tall), c.args.view.sized.wide)

-- the column is one of the canvas
few : (c : In-loop-i) → c.args.x + c.loop-i.i < 4096
few c = omega (arith, c.requires, c.loop-i-test.true, c.loop-i.invariant.0.long)

pub level_pix-t-requires : goal.level_pix-t-requires
level_pix-t-requires c =
    let l = c.loop-i in record { in_picture = l.invariant.2; shared_by_row = (c.shared_of-v.ensures, l.invariant.1) }

pub loop-i-preserved : goal.loop-i-preserved
loop-i-preserved c = let e = c.level_pix-t.ensures in (rowed_more c.loop-i.invariant.0 (omega (arith, c.loop-i.invariant.0.long)) e.0, e.2, e.1)

pub returns : goal.returns
returns c = rowed_end c.loop-i.invariant.0 (omega (arith, c.loop-i.invariant.0.long))

pub loop-i-init : goal.loop-i-init
loop-i-init c = (rowed_start, c.columns_at-kept.ensures, c.args.view.sized.wide)

pub offset_bounds-dst-i : goal.offset_bounds-dst-i
offset_bounds-dst-i c = omega (arith, few c)

pub bounds-dst-i : goal.bounds-dst-i
bounds-dst-i c = omega (arith, c.loop-i.invariant.0.long)

pub overflow_add-x : goal.overflow_add-x
overflow_add-x c = omega (arith, few (goal.at.overflow_add-x c).In-loop-i)

pub offset_bounds-dst-i-in-loop-i : goal.offset_bounds-dst-i-in-loop-i
offset_bounds-dst-i-in-loop-i c = omega (arith, few (goal.at.offset_bounds-dst-i-in-loop-i c).In-loop-i)

pub bounds-dst-i-in-loop-i : goal.bounds-dst-i-in-loop-i
bounds-dst-i-in-loop-i c = omega (arith, c.loop-i.invariant.0.long)

pub shape_of-dst : goal.shape_of-dst
shape_of-dst c = c.loop-i.invariant.0.long
