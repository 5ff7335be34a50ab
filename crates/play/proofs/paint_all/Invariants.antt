-- `paint_all`: the walk in ascending priority whose step paints a layer.
use lib.ListN.{length}
use Rattle.play.proofs.Walk.{Turn}
use Rattle.play.proofs.paint_all.Given as goal

abbrev pub invariant-loop-n : goal.invariant-loop-n
invariant-loop-n l = Turn l.show.size.w l.show.size.h l.show.table.now l.pool l.show.rundown.now l.count l.initial.px (length l.initial.a) (length l.initial.b) l.n-index l.px l.a l.b
