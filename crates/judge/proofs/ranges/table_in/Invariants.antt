-- `table_in`: the entries passed so far.
use Rattle.block.specs.Bytes.{every}
use Rattle.block.specs.Fields.{entry}
use Rattle.block.specs.Ranges.{within, f1024}
use Rattle.mathf.specs.Real.{zero}
use mathlib.Core.Path.{◌≡◌}
use Rattle.judge.proofs.ranges.table_in.Given as goal

abbrev pub invariant-loop-i : goal.invariant-loop-i
invariant-loop-i l = l.all ≡ every l.i (λ j. within zero f1024 (entry l.b j))
