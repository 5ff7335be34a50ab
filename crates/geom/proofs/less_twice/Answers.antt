-- `geom::less_twice` meets its contract: the operations are the definition's, one by one.
use Rattle.geom.specs.Geom.{shrunk}
use Rattle.geom.proofs.less_twice.Goals as goal

pub returns : goal.returns
unfolding shrunk
returns c = c.max.ensures
