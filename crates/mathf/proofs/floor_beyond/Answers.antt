-- `floor_beyond`: what is whole stays; std's clause for the rest.
use Rattle.std.proofs.Common.{rules}
use lib.Ieee.{of_bits, neg}
use Rattle.mathf.proofs.Laws.Tests.{yes, no}
use Rattle.mathf.proofs.Rounding.{big, big_neg, rest}
use Rattle.mathf.proofs.floor_beyond.Goals as goal

pub returns-else-x-2 : goal.returns-else-x-2
unfolding of_bits
returns-else-x-2 c = big c.args.x (search rules) (yes c.if-x.true) (no c.if-x-2.false)

pub returns-else-x-4 : goal.returns-else-x-4
unfolding of_bits neg
returns-else-x-4 c = big_neg c.args.x (search rules) (yes c.if-x-3.true) (no c.if-x-4.false)

pub returns-else-x-3 : goal.returns-else-x-3
unfolding of_bits
returns-else-x-3 c = rest c.args.x (search rules) (no c.if-x.false) (no c.if-x-3.false)
