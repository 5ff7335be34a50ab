-- The field of the rectangle that the two share.
use mathlib.Core.Path.{◌∙◌, ap, ap₂}
use mir.Syntax.{w32}
use mir.Facts.{to_z-of_z}
use Rattle.geom.specs.Geom.{intersect}
use Rattle.c_leaves.specs.Out.{irect_field}
use Rattle.c_leaves.proofs.Read.{same_irect}
use Rattle.c_leaves.proofs.leaf_irect_intersect.Goals as goal

pub returns : goal.returns
returns c =
    let f = c.ranges in
    let r = same_irect f.x0 f.y0 f.x1 f.y1 in
    let o = same_irect f.ox0 f.oy0 f.ox1 f.oy1 in
    to_z-of_z {w = w32} (record { sfits = c.irect_field.type_inv }) ∙ c.irect_field.ensures
    ∙ ap (irect_field c.args.which) (c.intersect.ensures ∙ ap₂ intersect r o)
