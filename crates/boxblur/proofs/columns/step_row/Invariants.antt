-- `step_row`: four columns more with each turn, and then the rest.
use Prim.Native.Nat.{◌≤◌, ◌*◌, ◌/◌, ◌%◌}
use mathlib.Core.Path.{◌≡◌}
use lib.ListN.{length}
use Rattle.boxblur.specs.Private.{Split}
use Rattle.boxblur.proofs.columns.step_row.Given as goal

abbrev pub invariant-loop-i : goal.invariant-loop-i
invariant-loop-i l =
    (l.m ≡ length l.initial.s / 4 * 4) × ((l.i ≤ l.m) × ((l.i % 4 ≡ 0) × ((length l.s ≡ length l.initial.s) × Split l.pass.src.now l.pass.blur l.x (length l.initial.s) l.y l.i l.s)))
