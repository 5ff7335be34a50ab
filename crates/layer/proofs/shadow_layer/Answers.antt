-- `shadow_layer`: the painter takes the fields of the block.
use Rattle.layer.specs.Layer.{shadowed}
use Rattle.layer.proofs.shadow_layer.Goals as goal

pub returns : goal.returns
unfolding shadowed
returns c = rw (c.clip.ensures, c.rect.ensures, c.shadow_of.ensures) at c.shadow_rrect.ensures
