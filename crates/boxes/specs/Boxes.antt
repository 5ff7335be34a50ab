-- A layer's box by four natural numbers: the columns x0 up to x1 of the rows y0 up to y1, all 0 where it has no pixel. b is the layer's block.
use Rattle.std.specs.Prelude.{ℕ, ◌*◌, cond, List}
use Rattle.geom.specs.Geom.{canvas}
use Rattle.canvas.specs.declared.Area.{Area}
use Rattle.canvas.specs.Canvas.{is_canvas}
use Rattle.backdrop.specs.Window.{area_of}
use Rattle.block.specs.Fields as Fields
use Rattle.layer.specs.Layer.{kind_of, box_by}

-- 01's box; none where no canvas is w by h
unfoldable pub box_area : ℕ → ℕ → List ℕ → List ℕ → Area
box_area w h table b = area_of (cond (is_canvas w h (w * h)) (box_by (kind_of (Fields.kind b)) w h table b) (canvas 0 0))
