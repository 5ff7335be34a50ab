-- `IRect::intersect` meets its contract: the columns and the rows that both share.
use Rattle.geom.specs.Geom.{intersect, max_z, min_z}
use Rattle.geom.proofs.Sides.{sides, shared}
use Rattle.geom.proofs.IRect.intersect.Goals as goal

pub returns : goal.returns
unfolding intersect max_z min_z
returns c =
    let x = c.args in
    let r = sides x.self c.struct_told-1.given in
    let o = sides x.o c.struct_told-2-1.given in
    let across = shared r.x0 r.x1 o.x0 o.x1 c.max-x0.ensures.value c.min.ensures.value c.max-x1.ensures.value in
    let down = shared r.y0 r.y1 o.y0 o.y1 c.max-y0.ensures.value c.min-2.ensures.value c.max-y1.ensures.value in
    rw (across.near, across.far, down.near, down.far)
