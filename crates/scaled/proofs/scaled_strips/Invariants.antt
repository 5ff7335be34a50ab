-- `scaled_strips`: the loop's invariant is `Striping` at the pixel's rule; each turn paints one strip of the box.
use Prim.Native.Nat.{min}
use Rattle.canvas.proofs.Laws.Box.{Striping}
use Rattle.scaled.specs.Scaled.{stretched_pix}
use Rattle.scaled.proofs.scaled_strips.Given as goal

abbrev pub invariant-loop-x0 : goal.invariant-loop-x0
invariant-loop-x0 l =
    Striping l.size.w l.area.x0 l.area.y0 l.area.x1 l.area.y1 (stretched_pix l.image.px.now l.image.sides l.k) l.initial.px l.px (min l.x0 l.area.x1)
