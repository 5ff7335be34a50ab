-- `frame_box`: the frame's sides, cut to the canvas.
use mathlib.Core.Path.{◌≡◌, ◌∙◌}
use Prim.Native.Nat.{max}
use Rattle.geom.proofs.Laws.{box}
use Rattle.backdrop.specs.Window.{area_of}
use Rattle.frame.specs.Frame.{frame_box}
use Rattle.layer.specs.Layer.{surface_of}
use Rattle.boxes.proofs.Parts.{no_area, narrow, low, some, frame_sides}
use Rattle.boxes.proofs.frame_box.Goals as goal
use Rattle.boxes.proofs.frame_box.Goals.{After-min-y1, then-x1-x0-via-then-x1-x0, then-x1-x0-via-else-x1-x0+then-y1-y0}

here : (c : After-min-y1) → let a = c.args in
    let x = c.left-x0.result in let y = c.top-y0.result in
    area_of (box x y (max c.min-x1.result x) (max c.min-y1.result y)) ≡ area_of (frame_box a.size.w a.size.h (surface_of a.b.now))
here c =
    let x = c.left-x0 in
    let y = c.top-y0 in
    frame_sides _ _ _ x.result y.result c.width.result c.height.result c.min-x1.result c.min-y1.result
    x.ensures y.ensures c.width.ensures c.height.ensures c.min-x1.ensures c.min-y1.ensures

pub returns-then-x1-x0 : goal.returns-then-x1-x0
returns-then-x1-x0 c =
    no_area c.default.result c.default.ensures
    ∙ elim c.then-x1-x0.branch [
      | then-x1-x0-via-then-x1-x0 w ↦ narrow _ _ _ _ w.if-x1-x0.true
      | then-x1-x0-via-else-x1-x0+then-y1-y0 w ↦ low _ _ _ _ w.if-x1-x0.false w.if-y1-y0.true
    ]
    ∙ here (goal.at.returns-then-x1-x0 c).After-min-y1

pub returns : goal.returns
returns c = some _ _ _ _ c.if-x1-x0.false c.if-y1-y0.false ∙ here (goal.at.returns c).After-min-y1
