-- `corner_radius`: the definition's operations, each from its callee.
use Rattle.edge.specs.Edge as Edge
use Rattle.edge.proofs.corner_radius.Goals as goal

pub returns : goal.returns
unfolding Edge.corner_radius Edge.copy_radius
returns c = cc
