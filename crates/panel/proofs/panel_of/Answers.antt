-- `panel_of`: the definition's fields, each from its callee.
use native.Mathlib.Omega.{arith}
use Rattle.backdrop.proofs.Laws.Window.{OnIt, window_on_it}
use Rattle.panel.specs.Panel as Panels
use Rattle.panel.proofs.panel_of.Goals as goal
use Rattle.panel.proofs.panel_of.Goals.{After-window-a}

-- the window lies on the canvas
on : (c : After-window-a) → OnIt c.args.size.w c.args.size.h c.window-a.result
on c = let a = c.args in rw c.window-a.ensures (window_on_it a.size.w a.size.h a.rect a.style a.table.now)

pub returns : goal.returns
unfolding Panels.panel_of
returns c = rw (c.end-iy1.ensures, c.bottom.ensures, c.end-ix1.ensures, c.right.ensures, c.first-iy0.ensures, c.first-ix0.ensures, c.inner_of-inner.ensures, c.to_u8-down.ensures, c.to_u8-up.ensures, c.max-bezel.ensures, c.corner_radius-r.ensures, c.cells-lh.ensures, c.cells-lw.ensures, c.scale-k.ensures, c.window-a.ensures)

pub overflow_sub-a : goal.overflow_sub-a
overflow_sub-a c = omega (arith, on (goal.at.overflow_sub-a c).After-window-a)

pub overflow_sub-a-2 : goal.overflow_sub-a-2
overflow_sub-a-2 c = omega (arith, on (goal.at.overflow_sub-a-2 c).After-window-a)
