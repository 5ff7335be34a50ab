-- `sum`: the pixels so far.
use mathlib.Core.Path.{◌≡◌}
use Rattle.backdrop.specs.Private.{rgb, along}
use Rattle.backdrop.proofs.small.sum.Given as goal

abbrev pub invariant-loop-i : goal.invariant-loop-i
invariant-loop-i g l = l.t ≡ rgb (along l.i l.px l.at l.m l.x)
