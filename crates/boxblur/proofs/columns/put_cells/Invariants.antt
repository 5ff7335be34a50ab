-- `put_cells`: the means so far.
use Prim.Native.Nat.{◌+◌, ◌-◌}
use mathlib.Core.Path.{◌≡◌}
use Rattle.boxblur.specs.Private.{means, span}
use Rattle.boxblur.proofs.columns.put_cells.Given as goal

abbrev pub invariant-loop-j : goal.invariant-loop-j
invariant-loop-j l = l.dst ≡ span (means l.s l.x) l.w l.y (l.x + l.i) (l.j - l.i) l.initial.dst
