-- `cov8`: the definition's operations, each from its callee.
use Rattle.edge.specs.Edge as Edge
use Rattle.edge.proofs.cov8.Goals as goal

pub returns : goal.returns
unfolding Edge.cov8
returns c = cc
