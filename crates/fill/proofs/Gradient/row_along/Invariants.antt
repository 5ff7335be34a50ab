-- `row_along`: the loop's invariant is `Rowed` at the pixel's rule; a turn adds a span.
use Rattle.std.proofs.Common.{◌+◌, min, length}
use Rattle.canvas.proofs.Laws.Rows.{Rowed}
use Rattle.fill.specs.Fill.{inner_pix}
use Rattle.fill.proofs.Gradient.row_along.Given as goal

abbrev pub invariant-loop-i : goal.invariant-loop-i
invariant-loop-i l = Rowed (λ k p. inner_pix l.self.paint (l.x + k) l.y p) l.initial.dst l.dst (min l.i (length l.initial.dst))
