-- `fill_layer`: the painter takes the fields of the block.
use Rattle.layer.specs.Layer.{filled}
use Rattle.layer.proofs.fill_layer.Goals as goal

pub returns : goal.returns
unfolding filled
returns c = rw (c.clip.ensures, c.rect.ensures, c.radius.ensures, c.paint.ensures) at c.fill_rrect.ensures
