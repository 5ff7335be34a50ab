-- `edge_cells`: a turn at each cell, with the window's cells held to the row.
use Rattle.boxblur.proofs.Pass.{Along}
use Rattle.boxblur.proofs.rows.edge_cells.Given as goal

abbrev pub invariant-loop-x : goal.invariant-loop-x
invariant-loop-x l = Along l.pass.src.now l.pass.blur l.y l.from l.to l.x l.initial.dst l.dst l.t
