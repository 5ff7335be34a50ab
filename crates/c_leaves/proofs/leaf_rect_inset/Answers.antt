-- The field of the rectangle that is left.
use mathlib.Core.Path.{◌∙◌, ap}
use Rattle.c_leaves.specs.Out.{rect_field}
use Rattle.c_leaves.proofs.leaf_rect_inset.Goals as goal

pub returns : goal.returns
returns c = c.rect_field.ensures ∙ ap (rect_field c.args.which) c.inset.ensures
