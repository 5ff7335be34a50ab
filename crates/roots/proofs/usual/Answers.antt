-- `usual` meets its contract: each answer is what its tests say.
use Rattle.roots.proofs.Shape.{usual_if}
use Rattle.roots.proofs.usual.Goals as goal

pub returns : goal.returns
returns c = usual_if c.args.x
