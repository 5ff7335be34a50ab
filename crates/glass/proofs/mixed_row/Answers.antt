-- `mixed_row`: the loop's invariant is `Rowed` at the pixel's rule, with the columns that are kept.
use Prim.Native.Nat.{◌+◌, ◌-◌, ◌*◌, ◌/◌, ◌<◌}
use native.Mathlib.Omega.{arith}
use Rattle.canvas.proofs.Laws.Rows.{rowed_start, rowed_more, rowed_end}
use Rattle.glass.specs.Private.{pair_at}
use Rattle.glass.proofs.Sizes.{place_next}
use Rattle.glass.proofs.FlatRow.{from_columns}
use Rattle.glass.proofs.mixed_row.Goals as goal
use Rattle.glass.proofs.mixed_row.Goals.{After-col_place-fx, After-row_place-fy}

-- there is a next row, and a next column
tall : (c : After-row_place-fy) → c.row_place-fy.result / 256 + 1 < c.args.view.p.lh
tall c = let a = c.args in rw c.row_place-fy.ensures (place_next a.view.p.k a.view.p.lh ((a.y - a.view.p.wy) * 256) c.requires.1)

wide : (c : After-col_place-fx) → c.col_place-fx.result / 256 + 1 < c.args.view.p.lw
wide c =
    let a = c.args in
    rw c.col_place-fx.ensures (place_next a.view.p.k a.view.p.lw ((a.x + c.loop-i.i - a.view.p.wx) * 256) c.requires.0)

pub loop-i-init : goal.loop-i-init
unfolding pair_at
loop-i-init c = (rowed_start, simp (c.column-left.ensures, c.column-right.ensures), omega arith)

pub columns-kept-requires : goal.columns-kept-requires
columns-kept-requires c =
    let l = c.loop-i in record { in_picture = (tall (goal.at.columns-kept-requires c).After-row_place-fy, wide c, l.invariant.2); kept = l.invariant.1 }

pub loop-i-preserved : goal.loop-i-preserved
loop-i-preserved c =
    let l = c.loop-i in
    let a = c.args in (
      rowed_more l.invariant.0 (omega (arith, l.invariant.0.long))
          (from_columns a.view.p a.view.lo.now (a.x + l.i) a.y c.col_place-fx.ensures c.row_place-fy.ensures c.columns-kept.ensures c.mix_pix-q.ensures c.lit.ensures),
      c.columns-kept.ensures,
      omega (arith, wide (goal.at.loop-i-preserved c).After-col_place-fx),
    )

pub returns : goal.returns
returns c = rowed_end c.loop-i.invariant.0 (omega (arith, c.loop-i.invariant.0.long))

pub column-left-requires : goal.column-left-requires
column-left-requires c = (tall c, omega arith)

pub column-right-requires : goal.column-right-requires
column-right-requires c = (tall (goal.at.column-right-requires c).After-row_place-fy, omega arith)

pub shape_of-dst : goal.shape_of-dst
shape_of-dst c = c.loop-i.invariant.0.long
