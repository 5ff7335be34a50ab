-- `axis`: the definition's operations, each from its callee.
use Rattle.edge.specs.Edge as Edge
use Rattle.edge.proofs.axis.Goals as goal

pub returns : goal.returns
unfolding Edge.axis
returns c = cc
