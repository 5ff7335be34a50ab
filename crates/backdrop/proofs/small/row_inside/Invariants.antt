-- `row_inside`: the cells so far.
use Prim.Native.Nat.{◌*◌}
use Rattle.canvas.proofs.Laws.Rows.{Rowed}
use Rattle.backdrop.proofs.Bytes.{in_row, cell_at}
use Rattle.backdrop.proofs.small.row_inside.Given as goal

abbrev pub invariant-loop-i : goal.invariant-loop-i
invariant-loop-i g l = Rowed (in_row (cell_at l.px l.s g.row.K l.m)) l.initial.out l.out (3 * l.i)
