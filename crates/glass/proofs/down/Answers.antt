-- `down`: both cells, mixed.
use Rattle.glass.proofs.down.Goals as goal

pub returns : goal.returns
returns c = cc
