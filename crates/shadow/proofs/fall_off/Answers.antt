-- `fall_off`: the entry's number is small enough for a float to hold it.
use Prim.Native.Nat.{◌^◌}
use lib.Dec.{le→leb}
use lib.Ieee as Ieee
use borrow.Author.Rules.{rules}
use Rattle.shadow.specs.Shadow.{fall_off}
use Rattle.shadow.proofs.fall_off.Goals as goal

pub int_to_float-t : goal.int_to_float-t
unfolding Ieee.in_float
int_to_float-t c = le→leb c.args.i (2 ^ 24) (search rules)

pub returns : goal.returns
unfolding fall_off
returns c = c.to_u32.ensures
