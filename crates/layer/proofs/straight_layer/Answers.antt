-- `straight_layer`: the painter takes the fields of the block.
use Rattle.layer.specs.Layer.{copied_onto}
use Rattle.layer.proofs.straight_layer.Goals as goal

pub returns : goal.returns
unfolding copied_onto
returns c = rw (c.blit_of.ensures, c.clip.ensures, c.of_block.ensures.0, c.of_block.ensures.1) at c.blit_rounded_dim.ensures
