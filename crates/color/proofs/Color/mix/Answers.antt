-- `Color::mix` meets its contract: the four channels, one by one.
use Rattle.color.specs.Color.{mix}
use Rattle.color.proofs.Color.mix.Goals as goal

pub returns : goal.returns
unfolding mix
returns c = cc
