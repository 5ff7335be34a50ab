-- `floor` meets its contract: the whole number just below x is its floor, unless x is -0, whose sign the sum would lose.
use lib.Ieee.{of_bits, neg}
use Rattle.mathf.proofs.Laws.Tests.{yes, no}
use Rattle.mathf.proofs.Rounding.{fast, zero_whole}
use Rattle.std.proofs.Common.{rules}
use Rattle.mathf.proofs.floor.Goals as goal

pub whole_below-requires : goal.whole_below-requires
unfolding of_bits neg
whole_below-requires c =
    record { above_low_end = yes c.if-x.true; below_high_end = yes c.if-x-2.true }

pub returns-then-x-3 : goal.returns-then-x-3
unfolding of_bits
returns-then-x-3 c = fast c.args.x c.whole_below.result c.whole_below.ensures (yes c.if-x-3.true)

pub returns-else-x-3 : goal.returns-else-x-3
unfolding of_bits
returns-else-x-3 c = zero_whole c.args.x (search rules) (no c.if-x-3.false)
