-- `table_suits`: the entries passed so far.
use Rattle.block.specs.Bytes.{every}
use Rattle.block.specs.Fields.{entry}
use lib.Ieee.{le}
use mathlib.Core.Path.{◌≡◌}
use Rattle.judge.proofs.ranges.table_suits.Given as goal

abbrev pub invariant-loop-i : goal.invariant-loop-i
invariant-loop-i l = l.all ≡ every l.i (λ j. le (entry l.b j) l.most)
