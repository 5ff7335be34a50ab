-- `scaled_layer`: the painter takes the fields of the block.
use Rattle.layer.specs.Layer.{stretched}
use Rattle.layer.proofs.scaled_layer.Goals as goal

pub returns : goal.returns
unfolding stretched
returns c = rw (c.stretch_of.ensures, c.clip.ensures, c.of_block.ensures.0, c.of_block.ensures.1) at c.blit_scaled.ensures
