-- `stain_all`: the walk in ascending priority whose step is what a layer does to the stain.
use lib.ListN.{length}
use Rattle.stain.proofs.Walk.{Turn}
use Rattle.stain.proofs.stain_all.Given as goal

abbrev pub invariant-loop-n : goal.invariant-loop-n
invariant-loop-n l = Turn l.show.size.w l.show.size.h (length l.initial.map) l.show.table.now l.show.rundown.now l.count l.s l.n-index l.map
