-- The height of the rectangle that the four numbers make.
use mathlib.Core.Path.{◌∙◌, ap}
use mir.Syntax.{w64}
use mir.Facts.{to_z-of_z}
use Rattle.geom.specs.Geom.{height}
use Rattle.c_leaves.proofs.Read.{same_irect}
use Rattle.c_leaves.proofs.leaf_irect_h.Goals as goal

pub returns : goal.returns
returns c =
    let f = c.ranges in
    to_z-of_z {w = w64} (record { sfits = c.h.type_inv }) ∙ c.h.ensures ∙ ap height (same_irect f.x0 f.y0 f.x1 f.y1)
