-- `step`: channel by channel.
use Rattle.boxblur.proofs.Sums.{cons3}
use Rattle.boxblur.proofs.step.Goals as goal

pub returns : goal.returns
returns c = cons3 c.moved.ensures c.moved-2.ensures c.moved-3.ensures
