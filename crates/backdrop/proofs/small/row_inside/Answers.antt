-- `row_inside`: one more cell, all of whose columns are the row's own.
use Prim.Native.Nat.{ℕ, ◌+◌, ◌*◌, ◌<◌}
use mathlib.Core.Path.{sym, subst}
use mathlib.Core.List.{List}
use native.Mathlib.Omega.{arith}
use lib.ListN.{length}
use Rattle.canvas.proofs.Laws.Rows.{Rowed, rowed_start}
use Rattle.backdrop.proofs.Bytes.{in_row, cell_at, rowed_cell, ends_in, cell_inside}
use Rattle.backdrop.proofs.small.row_inside.Goals as goal

pub loop-i-init : goal.loop-i-init
loop-i-init g c = rowed_start

pub loop-i-preserved : goal.loop-i-preserved
loop-i-preserved g c =
    let a = c.args in
    let l = c.loop-i in
    let k = g.row.K in
    let room : 3 * l.i + 2 < length l.out = omega (arith, c.loop-i-test.true, l.invariant.long, c.requires.3) in
    subst (λ (r : List ℕ). Rowed (in_row (cell_at a.px.now a.s k a.m)) a.out.now r (3 * (l.i + 1))) (sym c.put.ensures)
    (rowed_cell (cell_at a.px.now a.s k a.m) l.i l.invariant room (cell_inside k a.px.now a.s a.m (k * l.i) _ (ends_in k l.i a.n a.m c.loop-i-test.true c.requires.4) c.inside.ensures))
