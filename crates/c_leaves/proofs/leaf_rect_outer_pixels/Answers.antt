-- The field of the rectangle's outer pixels.
use mathlib.Core.Path.{◌∙◌, ap}
use mir.Syntax.{w32}
use mir.Facts.{to_z-of_z}
use Rattle.c_leaves.specs.Out.{irect_field}
use Rattle.c_leaves.proofs.leaf_rect_outer_pixels.Goals as goal

pub returns : goal.returns
returns c =
    to_z-of_z {w = w32} (record { sfits = c.irect_field.type_inv }) ∙ c.irect_field.ensures
    ∙ ap (irect_field c.args.which) c.outer_pixels.ensures
