-- `panel_cells`: the window lies on the canvas, so no number is too large; whether the box has a pixel its sides tell.
use Prim.Native.Nat.{◌*◌, ◌≤◌}
use mathlib.Core.Path.{◌≡◌, sym, ap, ◌∙◌}
use native.Mathlib.Omega.{arith}
use Rattle.geom.specs.Geom.{is_empty}
use Rattle.canvas.specs.declared.Area.{Area}
use Rattle.canvas.specs.Canvas.{area_box}
use Rattle.canvas.proofs.Laws.Area.{canvas_is}
use Rattle.backdrop.specs.Window.{window_area, glass_box}
use Rattle.backdrop.proofs.Laws.Window.{scale_is, OnIt, window_on_it, cells_room}
use Rattle.block.specs.Fields as Fields
use Rattle.layer.specs.Layer.{style_of}
use Rattle.forecast.proofs.Laws.Cells.{panel_by, panel_none, panel_some}
use Rattle.forecast.proofs.panel_cells.Goals as goal
use Rattle.forecast.proofs.panel_cells.Goals.{After-is_empty, After-window_of-win, After-cells-rows}

-- the box's sides tell whether it has a pixel
tells : (c : After-is_empty) → let s = c.args.size in c.is_empty.result ≡ is_empty (glass_box s.w s.h (Fields.clip c.args.b.now) (Fields.rect c.args.b.now))
tells c = let s = c.args.size in c.is_empty.ensures ∙ ap (λ (x : Area). is_empty (area_box x)) c.requires.1 ∙ panel_by s.w s.h c.args.b.now

-- the window lies on the canvas
on : (c : After-window_of-win) → let s = c.args.size in OnIt s.w s.h c.window_of-win.result
unfolding window_area
on c = let a = c.args in rw c.window_of-win.ensures (window_on_it a.size.w a.size.h (Fields.rect a.b.now) (style_of a.b.now) (Fields.entries a.b.now))

few : (c : After-cells-rows) → c.cells-columns.result * c.cells-rows.result ≤ 4096 * 4096
few c =
    let i = canvas_is _ _ _ c.requires.0 in
    rw (c.cells-columns.ensures, c.cells-rows.ensures) (cells_room (on (goal.at.overflow_mul-result c).After-window_of-win) i.narrow i.low (rw c.scale-k.ensures (scale_is _)))

pub returns-then-is_empty : goal.returns-then-is_empty
returns-then-is_empty c = panel_none _ _ _ (sym (tells (goal.at.returns-then-is_empty c).After-is_empty) ∙ c.if-is_empty.true)

pub overflow_mul-result : goal.overflow_mul-result
overflow_mul-result c = omega (arith, few c)

pub returns : goal.returns
returns c =
    rw (c.cells-columns.ensures, c.cells-rows.ensures, c.window_of-win.ensures, c.scale-k.ensures, c.blur.ensures)
    (sym (panel_some _ _ _ (sym (tells (goal.at.returns c).After-is_empty) ∙ c.if-is_empty.false)))

pub overflow_sub-wide : goal.overflow_sub-wide
overflow_sub-wide c = omega (arith, (on (goal.at.overflow_sub-wide c).After-window_of-win).across)

pub overflow_sub-high : goal.overflow_sub-high
overflow_sub-high c = omega (arith, (on (goal.at.overflow_sub-high c).After-window_of-win).down)
