-- `measure_all`: each turn puts one box behind those that stand, and the part of the buffer that is lent is the block.
use Rattle.forecast.proofs.Places.{Turn}
use Rattle.forecast.proofs.measure_all.Given as goal

abbrev pub invariant-loop-n : goal.invariant-loop-n
invariant-loop-n l = Turn l.show.size.w l.show.size.h l.show.table.now l.show.rundown.now l.boxes l.scratch l.cells l.n
