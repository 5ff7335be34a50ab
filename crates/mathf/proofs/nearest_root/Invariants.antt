-- `nearest_root` meets its contract: the two tests say that the estimate is it. Else q is never past the root, and is moved up until it is the nearest.
use Rattle.std.proofs.Common.{◌+◌, ◌-◌, ◌*◌, ◌^◌, ◌<◌, ◌≤◌}
use Rattle.mathf.proofs.nearest_root.Given as goal

abbrev pub invariant-loop-q : goal.invariant-loop-q
invariant-loop-q l = (l.q * l.q < l.n + l.q) × (l.q ≤ 2 ^ 24)

abbrev pub decreases-loop-q : goal.decreases-loop-q
decreases-loop-q l = 2 ^ 25 - l.q
