-- `not_past` meets its contract, whatever estimate it starts from.
use Rattle.std.proofs.Common.{◌^◌, ◌<◌}
use Rattle.mathf.proofs.not_past.Given as goal

abbrev pub invariant-loop-q : goal.invariant-loop-q
invariant-loop-q l = l.q < 2 ^ 32

abbrev pub decreases-loop-q : goal.decreases-loop-q
decreases-loop-q l = l.q
