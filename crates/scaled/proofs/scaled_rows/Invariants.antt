-- `scaled_rows`: the loop's invariant is `Boxing` at the pixel's rule, with the rows that the two lines hold; each turn lends one row of the box.
use Rattle.canvas.proofs.Laws.Box.{Boxing}
use Rattle.scaled.specs.Scaled.{stretched_pix}
use Rattle.scaled.specs.Private.{Coloured}
use Rattle.scaled.proofs.scaled_rows.Given as goal

abbrev pub invariant-loop-y : goal.invariant-loop-y
invariant-loop-y l =
    Boxing l.size.w l.size.h l.area.x0 l.area.y0 l.area.x1 l.area.y1 (stretched_pix l.image.px.now l.image.sides l.k) l.initial.px l.px l.y
    × Coloured l.image.px.now l.image.sides l.even.row l.taps l.even.colours × Coloured l.image.px.now l.image.sides l.odd.row l.taps l.odd.colours
