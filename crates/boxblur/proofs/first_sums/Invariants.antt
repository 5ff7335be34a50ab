use mathlib.Core.Path.{◌≡◌}
use Rattle.boxblur.proofs.Sums.{parts}
use Rattle.boxblur.proofs.first_sums.Given as goal

abbrev pub invariant-loop-j : goal.invariant-loop-j
invariant-loop-j l = l.s ≡ parts l.src l.start l.stride l.m l.r l.j
