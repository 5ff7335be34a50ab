-- `find_places`: along a line, and of a radial gradient.
use Rattle.std.proofs.Common.{rules}
use Rattle.fill.proofs.Laws.{line_places, ring_places}
use Rattle.fill.proofs.find_places.Goals as goal

pub returns-in-Linear : goal.returns-in-Linear
returns-in-Linear c =
    let a = c.args in
    let k = c.in-Linear in
    line_places k.p0 k.p1 k.c0 k.c1 a.x a.y k.is (c.fill_line.ensures _ (λ i v h p. search rules))

pub returns-in-Radial : goal.returns-in-Radial
returns-in-Radial c =
    let a = c.args in
    let k = c.in-Radial in
    ring_places k.c k.r k.c0 k.c1 a.x a.y k.is c.find_rings.ensures
