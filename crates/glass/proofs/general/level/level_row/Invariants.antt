-- `level_row`: the loop's invariant is `Rowed` at the pixel's rule, with the columns that are kept.
use Prim.Native.Nat.{◌+◌, ◌<◌}
use Rattle.canvas.proofs.Laws.Rows.{Rowed}
use Rattle.glass.specs.General.{edge_pix}
use Rattle.glass.specs.Private.{AreColumns}
use Rattle.glass.proofs.general.level.level_row.Given as goal

abbrev pub invariant-loop-i : goal.invariant-loop-i
invariant-loop-i l = Rowed (λ j q. edge_pix l.view.p l.view.table.now l.view.lo.now (l.x + j) l.y q) l.initial.dst l.dst l.i × AreColumns l.view.lo.now l.view.p.lw l.view.p.lh l.v.fy l.held l.kept × (l.held < l.view.p.lw)
