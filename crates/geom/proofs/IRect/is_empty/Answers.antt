-- `IRect::is_empty` meets its contract.
use mir.Facts.{to_z-of_z}
use Rattle.geom.specs.Geom.{is_empty}
use Rattle.geom.proofs.Sides.{sides}
use Rattle.geom.proofs.IRect.is_empty.Goals as goal

pub returns-then-self : goal.returns-then-self
unfolding is_empty
returns-then-self c =
    let s = sides c.args.self c.struct_told-1.given in
    let t = rw (to_z-of_z s.x1, to_z-of_z s.x0) at c.if-self.true in
    rw (to_z-of_z s.x1, to_z-of_z s.x0) (simp t)

pub returns-else-self : goal.returns-else-self
unfolding is_empty
returns-else-self c =
    let s = sides c.args.self c.struct_told-1.given in
    let t = rw (to_z-of_z s.x1, to_z-of_z s.x0) at c.if-self.false in
    simp (to_z-of_z s.y1, to_z-of_z s.y0, t)
