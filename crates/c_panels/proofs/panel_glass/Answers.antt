-- What the panel does, given the rectangle that the clip's numbers make.
use mir.Facts.{to_z-of_z}
use Rattle.c_panels.proofs.panel_glass.Goals as goal

pub returns-clause-canvas : goal.returns-clause-canvas
returns-clause-canvas c =
    let f = c.ranges in
    rw (to_z-of_z f.x0, to_z-of_z f.y0, to_z-of_z f.x1, to_z-of_z f.y1) at c.glass.ensures.canvas

pub returns-clause-first : goal.returns-clause-first
returns-clause-first c =
    let f = c.ranges in
    rw (to_z-of_z f.x0, to_z-of_z f.y0, to_z-of_z f.x1, to_z-of_z f.y1) at c.glass.ensures.first

pub returns-clause-second : goal.returns-clause-second
returns-clause-second c =
    let f = c.ranges in
    rw (to_z-of_z f.x0, to_z-of_z f.y0, to_z-of_z f.x1, to_z-of_z f.y1) at c.glass.ensures.second
