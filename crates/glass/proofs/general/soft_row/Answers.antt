-- `soft_row`: the loop's invariant is `Rowed` at the pixel's rule, with the columns that are kept.
use Prim.Native.Nat.{◌+◌, ◌-◌, ◌*◌, ◌/◌, ◌<◌}
use native.Mathlib.Omega.{arith}
use Rattle.canvas.proofs.Laws.Rows.{rowed_start, rowed_more, rowed_end}
use Rattle.glass.proofs.Sizes.{place_in}
use Rattle.glass.proofs.SoftRow.{soft_is}
use Rattle.glass.proofs.general.soft_row.Goals as goal
use Rattle.glass.proofs.general.soft_row.Goals.{After-col_place-fx, After-row_place-fy}

pub overflow_add-x : goal.overflow_add-x
overflow_add-x c = omega (arith, c.requires, c.loop-i-test.true, c.loop-i.invariant.0.long)

-- the row's place, and the column's, lie in the picture
tall : (c : After-row_place-fy) → c.row_place-fy.result < c.args.view.p.lh * 256
tall c = let a = c.args in omega (arith, c.row_place-fy.ensures, place_in a.view.p.k a.view.p.lh ((a.y - a.view.p.wy) * 256) c.args.view.sized.tall)

wide : (c : After-col_place-fx) → c.col_place-fx.result / 256 < c.args.view.p.lw
wide c = let a = c.args in omega (arith, c.col_place-fx.ensures, place_in a.view.p.k a.view.p.lw ((a.x + c.loop-i.i - a.view.p.wx) * 256) c.args.view.sized.wide)

pub beside-kept-requires : goal.beside-kept-requires
beside-kept-requires c =
    let l = c.loop-i in record { in_picture = (tall (goal.at.beside-kept-requires c).After-row_place-fy, wide c, l.invariant.2); kept = l.invariant.1 }

pub offset_bounds-dst-i : goal.offset_bounds-dst-i
offset_bounds-dst-i c = omega (arith, c.requires, c.loop-i-test.true, c.loop-i.invariant.0.long)

pub bounds-dst-i : goal.bounds-dst-i
bounds-dst-i c = omega (arith, c.requires, c.loop-i-test.true, c.loop-i.invariant.0.long)

pub loop-i-preserved : goal.loop-i-preserved
loop-i-preserved c =
    let l = c.loop-i in
    let a = c.args in (
      rowed_more l.invariant.0 (omega (arith, l.invariant.0.long))
          (soft_is a.view.p a.view.lo.now (a.x + l.i) a.y c.col_place-fx.ensures c.row_place-fy.ensures c.beside-kept.ensures c.between-q.ensures c.lit.ensures),
      c.beside-kept.ensures,
      wide (goal.at.loop-i-preserved c).After-col_place-fx,
    )

pub returns : goal.returns
returns c = rowed_end c.loop-i.invariant.0 (omega (arith, c.loop-i.invariant.0.long))

pub columns_at-kept-requires : goal.columns_at-kept-requires
columns_at-kept-requires c = (tall c, c.args.view.sized.wide)

pub loop-i-init : goal.loop-i-init
loop-i-init c = (rowed_start, c.columns_at-kept.ensures, c.args.view.sized.wide)

pub between-q-requires : goal.between-q-requires
between-q-requires c = let k = c.beside-kept.ensures in (k.left.small, k.right.small, omega arith)

pub shape_of-dst : goal.shape_of-dst
shape_of-dst c = c.loop-i.invariant.0.long
