-- `picture_bytes`: the window lies on the canvas, so nothing overflows.
use Prim.Native.Nat.{◌*◌, ◌≤◌}
use native.Mathlib.Omega.{arith}
use Rattle.backdrop.specs.Window.{picture_bytes}
use Rattle.backdrop.proofs.Laws.Window.{OnIt, Scale, scale_is, window_on_it, cells_room}
use Rattle.backdrop.proofs.picture_bytes.Goals as goal
use Rattle.backdrop.proofs.picture_bytes.Goals.{After-cells-2, After-scale-k, After-window-a}

here : (c : After-window-a) → let a = c.args in OnIt a.size.w a.size.h c.window-a.result
here c = let a = c.args in rw c.window-a.ensures (window_on_it a.size.w a.size.h a.rect a.style a.table.now)

by : (c : After-scale-k) → Scale c.scale-k.result
by c = rw c.scale-k.ensures (scale_is _)

pub overflow_sub-a : goal.overflow_sub-a
overflow_sub-a c = (here (goal.at.overflow_sub-a c).After-window-a).across

pub overflow_sub-a-2 : goal.overflow_sub-a-2
overflow_sub-a-2 c = (here (goal.at.overflow_sub-a-2 c).After-window-a).down

room : (c : After-cells-2) → c.cells.result * c.cells-2.result ≤ 4096 * 4096
room c =
    let o = here c.before.before.before.before.before in
    let k = by c.before.before.before.before in
    let p = c.requires in
    rw (c.cells.ensures, c.cells-2.ensures) (cells_room o p.0 p.1 k)

pub overflow_mul-result : goal.overflow_mul-result
overflow_mul-result c = record { fits = omega (arith, room c) }

pub overflow_mul-result-2 : goal.overflow_mul-result-2
overflow_mul-result-2 c = record { fits = omega (arith, room c) }

pub returns : goal.returns
unfolding picture_bytes
returns c =
    rw (c.cells.ensures, c.cells-2.ensures, c.scale-k.ensures, c.window-a.ensures)
