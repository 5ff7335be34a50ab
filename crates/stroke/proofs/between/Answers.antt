-- `between`: both columns, read back from an i32.
use mathlib.Core.Path.{refl}
use Rattle.geom.proofs.Sides.{cast_side}
use Rattle.stroke.specs.Stroke as Stroke
use Rattle.stroke.proofs.between.Goals as goal

pub returns : goal.returns
unfolding Stroke.side_end Stroke.side_start
returns c = rw (cast_side c.side_end.ensures refl, cast_side c.side_start.ensures refl) at c.middle_cols.ensures
