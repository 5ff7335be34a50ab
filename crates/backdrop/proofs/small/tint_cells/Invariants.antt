-- `tint_cells`: the cells so far.
use Prim.Native.Nat.{◌-◌, ◌≤◌}
use Rattle.backdrop.specs.Picture.{satq}
use Rattle.backdrop.proofs.Tint.{Tinting}
use Rattle.backdrop.proofs.small.tint_cells.Given as goal

abbrev pub invariant-loop-i : goal.invariant-loop-i
invariant-loop-i l = (l.i ≤ l.n) × Tinting (satq l.saturation) l.tint l.initial.a l.a l.i

abbrev pub decreases-loop-i : goal.decreases-loop-i
decreases-loop-i l = l.n - l.i
