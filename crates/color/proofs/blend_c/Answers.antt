-- `color::blend_c` meets its contract: the alpha under the coverage, then the blend.
use Rattle.color.specs.Color.{blend_c}
use Rattle.color.proofs.blend_c.Goals as goal

pub returns : goal.returns
unfolding blend_c
returns c = cc
