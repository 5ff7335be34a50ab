-- `meets`: the window's rows passed show nothing.
use Rattle.stain.proofs.Sets.{Clear}
use Rattle.stain.proofs.meets.Given as goal

abbrev pub invariant-loop-y : goal.invariant-loop-y
invariant-loop-y l = Clear l.size.w l.size.h l.a.x0 l.a.y0 l.a.x1 l.a.y1 l.map l.y
