-- `read_most`: what was read lies within the bytes, and each turn reads some more.
use Rattle.std.proofs.Common.{◌-◌, ◌≤◌, length}
use Rattle.playout.proofs.read_most.Given as goal

abbrev pub invariant-loop-n : goal.invariant-loop-n
invariant-loop-n g l = l.n ≤ length l.bytes

abbrev pub decreases-loop-n : goal.decreases-loop-n
decreases-loop-n g l = length l.bytes - l.n
