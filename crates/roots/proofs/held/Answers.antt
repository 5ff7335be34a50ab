-- `held` meets its contract: the greater of two is no NaN where one is none, and of two that differ it is settled.
use Rattle.roots.proofs.Shape.{max_held}
use Rattle.roots.proofs.held.Goals as goal

pub returns : goal.returns
returns c = max_held c.args.x c.max.result c.max.ensures.value
