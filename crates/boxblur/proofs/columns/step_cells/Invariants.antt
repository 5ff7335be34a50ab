-- `step_cells`: the columns so far.
use mathlib.Core.Path.{◌≡◌}
use lib.ListN.{length}
use Rattle.boxblur.specs.Private.{Split}
use Rattle.boxblur.proofs.columns.step_cells.Given as goal

abbrev pub invariant-loop-j : goal.invariant-loop-j
invariant-loop-j l = (length l.s ≡ length l.initial.s) × Split l.pass.src.now l.pass.blur l.x (length l.initial.s) l.y l.j l.s
