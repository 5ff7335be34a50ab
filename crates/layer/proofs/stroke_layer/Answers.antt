-- `stroke_layer`: the painter takes the fields of the block.
use Rattle.layer.specs.Layer.{stroked}
use Rattle.layer.proofs.stroke_layer.Goals as goal

pub returns : goal.returns
unfolding stroked
returns c = rw (c.clip.ensures, c.rect.ensures, c.radius.ensures, c.stroke_width.ensures, c.colour.ensures) at c.stroke_rrect.ensures
