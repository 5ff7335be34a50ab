-- The same test of the rectangle that the four numbers make.
use mathlib.Core.Path.{◌∙◌, ap}
use Rattle.geom.specs.Geom.{is_empty}
use Rattle.c_leaves.proofs.Read.{same_irect}
use Rattle.c_leaves.proofs.leaf_irect_is_empty.Goals as goal

pub returns : goal.returns
returns c = let f = c.ranges in c.is_empty.ensures ∙ ap is_empty (same_irect f.x0 f.y0 f.x1 f.y1)
