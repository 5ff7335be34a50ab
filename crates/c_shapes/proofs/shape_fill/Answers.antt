-- What the painter does, given the rectangles and the paint that the numbers make.
use mir.Facts.{to_z-of_z}
use Rattle.c_shapes.proofs.shape_fill.Goals as goal

pub returns : goal.returns
returns c =
    let f = c.ranges in
    rw (to_z-of_z f.x0, to_z-of_z f.y0, to_z-of_z f.x1, to_z-of_z f.y1, c.paint_of.ensures) at c.fill_rrect.ensures
