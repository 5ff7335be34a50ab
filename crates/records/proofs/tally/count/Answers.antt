-- The line is one of these, or there is none.
use Rattle.std.proofs.Common.{arith}
use Rattle.records.proofs.Lines.{counted_in, counted_past}
use Rattle.records.proofs.tally.count.Goals as goal

pub returns-then-k-lines : goal.returns-then-k-lines
returns-then-k-lines c = rw c.add.ensures (counted_in _ _ _ _ (omega arith))

pub returns-else-k-lines : goal.returns-else-k-lines
returns-else-k-lines c = counted_past _ _ _ (omega arith)
