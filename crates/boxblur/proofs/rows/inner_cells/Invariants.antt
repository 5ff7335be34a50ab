-- `inner_cells`: four cells more with each turn.
use Prim.Native.Nat.{◌-◌, ◌%◌}
use mathlib.Core.Path.{◌≡◌}
use Rattle.boxblur.proofs.Pass.{Along}
use Rattle.boxblur.proofs.rows.inner_cells.Given as goal

abbrev pub invariant-loop-x : goal.invariant-loop-x
invariant-loop-x l = ((l.to - l.x) % 4 ≡ 0) × Along l.pass.src.now l.pass.blur l.y l.from l.to l.x l.initial.dst l.dst l.t
