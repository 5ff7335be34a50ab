-- `edge_sd`: the definition's operations, each from its callee.
use Rattle.edge.specs.Edge as Edge
use Rattle.edge.proofs.edge_sd.Goals as goal

pub returns : goal.returns
unfolding Edge.edge_sd Edge.rrect_sd
returns c = cc
