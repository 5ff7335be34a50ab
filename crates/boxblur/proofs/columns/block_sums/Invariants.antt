use mathlib.Core.Path.{◌≡◌}
use lib.ListN.{length}
use Rattle.boxblur.specs.Private.{Block}
use Rattle.boxblur.proofs.columns.block_sums.Given as goal

abbrev pub invariant-loop-i : goal.invariant-loop-i
invariant-loop-i l = (length l.s ≡ length l.initial.s) × Block l.pass.src.now l.pass.blur l.x l.i 0 l.s
