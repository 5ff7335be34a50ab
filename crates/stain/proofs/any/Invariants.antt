-- `any`: the greatest byte of those passed.
use mathlib.Core.Path.{◌≡◌}
use lib.Dec.{ltb}
use Rattle.taint.specs.Stain.{nonempty}
use Rattle.stain.specs.Private.{shown}
use Rattle.stain.proofs.any.Given as goal

abbrev pub invariant-loop-v : goal.invariant-loop-v
invariant-loop-v l = ltb 0 l.most ≡ nonempty l.v-index (shown l.row)
