-- `put`: the loop's invariant is `Boxing` at the rule that gives v, and each turn lends one row of the box.
use Rattle.canvas.proofs.Laws.Box.{Boxing}
use Rattle.stain.proofs.put.Given as goal

abbrev pub invariant-loop-y : goal.invariant-loop-y
invariant-loop-y l = Boxing l.size.w l.size.h l.a.x0 l.a.y0 l.a.x1 l.a.y1 (λ x y old. l.v) l.initial.map l.map l.y
