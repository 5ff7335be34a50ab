-- `to_i32_beyond` meets its contract: each range of x by a law of `Cut`, and std's clause between the ends.
use Rattle.mathf.proofs.Laws.Tests.{yes, no}
use Rattle.mathf.proofs.Laws.Cut.{over31, under31, neither31}
use lib.Ieee.{of_bits, neg}
use Rattle.mathf.proofs.to_i32_beyond.Goals as goal

pub returns-else-x-2 : goal.returns-else-x-2
unfolding of_bits neg
returns-else-x-2 c = over31 c.args.x (yes c.if-x.true) (no c.if-x-2.false)

pub returns-then-x-3 : goal.returns-then-x-3
unfolding of_bits neg
returns-then-x-3 c = under31 c.args.x (yes c.if-x-3.true)

pub returns-else-x-3 : goal.returns-else-x-3
unfolding of_bits neg
returns-else-x-3 c = neither31 c.args.x (no c.if-x.false) (no c.if-x-3.false)
