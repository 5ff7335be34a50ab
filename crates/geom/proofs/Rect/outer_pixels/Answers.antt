-- `Rect::outer_pixels` meets its contract: each side is a cast of a rounded float.
use Rattle.geom.specs.Geom.{outer_pixels}
use Rattle.geom.proofs.Sides.{cast_side}
use Rattle.geom.proofs.Rect.outer_pixels.Goals as goal

pub returns : goal.returns
unfolding outer_pixels
returns c =
    rw (cast_side c.to_i32-x0.ensures c.floor.ensures, cast_side c.to_i32-y0.ensures c.floor-2.ensures, cast_side c.to_i32-x1.ensures c.ceil.ensures, cast_side c.to_i32-y1.ensures c.ceil-2.ensures)
