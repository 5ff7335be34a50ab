-- `copy_radius`: the definition's operations, each from its callee.
use Rattle.edge.specs.Edge.{copy_radius}
use Rattle.edge.proofs.copy_radius.Goals as goal

pub returns : goal.returns
unfolding copy_radius
returns c = cc
