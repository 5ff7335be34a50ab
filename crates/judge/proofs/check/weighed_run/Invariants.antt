-- `weighed_run`: the bytes passed add what the sum has grown by.
use Prim.Native.Nat.{◌+◌, ◌*◌, ◌≤◌}
use Rattle.block.specs.Bytes.{weighed}
use mathlib.Core.Path.{◌≡◌}
use Rattle.judge.proofs.check.weighed_run.Given as goal

abbrev pub invariant-loop-i : goal.invariant-loop-i
invariant-loop-i l = (weighed l.b l.from + l.sum ≡ weighed l.b l.i) × (l.sum ≤ 129540 * l.i)
