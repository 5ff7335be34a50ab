-- `genie_layer`: the painter takes the fields of the block.
use Rattle.layer.specs.Layer.{drawn}
use Rattle.layer.proofs.genie_layer.Goals as goal

pub returns : goal.returns
unfolding drawn
returns c = rw (c.flight_of.ensures, c.clip.ensures, c.of_block.ensures.0, c.of_block.ensures.1) at c.blit_genie.ensures
