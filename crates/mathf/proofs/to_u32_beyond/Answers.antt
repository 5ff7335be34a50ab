-- `to_u32_beyond` meets its contract.
use Rattle.mathf.proofs.Laws.Tests.{yes, no}
use Rattle.mathf.proofs.Laws.Cut.{over32, under32}
use lib.Ieee.{of_bits}
use Rattle.mathf.proofs.to_u32_beyond.Goals as goal

pub returns-else-x-2 : goal.returns-else-x-2
unfolding of_bits
returns-else-x-2 c = over32 c.args.x (yes c.if-x.true) (no c.if-x-2.false)

pub returns-else-x : goal.returns-else-x
unfolding of_bits
returns-else-x c = under32 c.args.x (no c.if-x.false)
