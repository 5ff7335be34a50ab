-- `whole_below` meets its contract: the sum less 1.5 * 2 ^ 23 is a whole number less than one away from x.
use lib.Ieee.{of_bits}
use Rattle.mathf.proofs.Laws.Tests.{yes, no}
use Rattle.mathf.proofs.Laws.Near.{close_to, stays, moves}
use Rattle.mathf.proofs.whole_below.Goals as goal

pub returns-then-f-x : goal.returns-then-f-x
unfolding of_bits
returns-then-f-x c = moves c.args.x (close_to c.args.x c.requires.above_low_end c.requires.below_high_end) (yes c.if-f-x.true)

pub returns-else-f-x : goal.returns-else-f-x
unfolding of_bits
returns-else-f-x c = stays c.args.x (close_to c.args.x c.requires.above_low_end c.requires.below_high_end) (no c.if-f-x.false)
