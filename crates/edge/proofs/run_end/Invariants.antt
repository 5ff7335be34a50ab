-- `run_end`: the loop's invariant is that the pixels passed are away.
use Rattle.edge.specs.Corner.{Run}
use Rattle.edge.proofs.run_end.Given as goal

abbrev pub invariant-loop-e : goal.invariant-loop-e
invariant-loop-e l = Run l.rect l.r l.qy l.k l.x l.i l.n l.e
