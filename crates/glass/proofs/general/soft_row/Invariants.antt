-- `soft_row`: the loop's invariant is `Rowed` at the pixel's rule, with the columns that are kept.
use Prim.Native.Nat.{◌+◌, ◌<◌}
use Rattle.canvas.proofs.Laws.Rows.{Rowed}
use Rattle.glass.specs.Places.{col_place, row_place}
use Rattle.glass.specs.General.{soft}
use Rattle.glass.specs.Private.{AreColumns}
use Rattle.glass.proofs.general.soft_row.Given as goal

abbrev pub invariant-loop-i : goal.invariant-loop-i
invariant-loop-i l = Rowed (λ j q. soft l.view.p l.view.lo.now (col_place l.view.p (l.x + j)) (row_place l.view.p l.y)) l.initial.dst l.dst l.i × AreColumns l.view.lo.now l.view.p.lw l.view.p.lh l.fy l.held l.kept × (l.held < l.view.p.lw)
