-- The sum of the bytes passed.
use Rattle.std.proofs.Common.{◌≡◌, ◌*◌, ◌≤◌}
use Rattle.block.specs.Bytes.{weighed}
use Rattle.records.proofs.sum.Given as goal

abbrev pub invariant-loop-i : goal.invariant-loop-i
invariant-loop-i l = (l.sum ≡ weighed l.b l.i) × (l.sum ≤ 522240 * l.i)
