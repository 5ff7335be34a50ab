-- `centre`: the definition's operations.
use mathlib.Core.Path.{refl}
use Rattle.edge.specs.Edge as Edge
use Rattle.edge.proofs.centre.Goals as goal

pub returns : goal.returns
unfolding Edge.centre
returns c = refl
