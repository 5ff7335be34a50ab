-- `find_colours`: a column that was not reached yet is the line's first number there, so it lies in the row.
use lib.ListN.{get_or}
use Rattle.canvas.proofs.Laws.Rows.{Rowed}
use Rattle.genie.proofs.find_colours.Given as goal

abbrev pub invariant-loop-q : goal.invariant-loop-q
invariant-loop-q l = Rowed (λ j q. get_or l.fn.row q 0) l.fn.line l.line l.q-index
