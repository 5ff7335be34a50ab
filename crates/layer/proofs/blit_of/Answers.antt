-- `blit_of`: field by field.
use Rattle.layer.specs.Layer.{blit_of}
use mathlib.Core.Path.{refl}
use mir.Facts.{to_z-of_z}
use Rattle.layer.proofs.blit_of.Goals as goal

pub returns : goal.returns
unfolding blit_of
returns c =
    let x = c.x in
    let y = c.y in
    rw (to_z-of_z (record { sfits = x.type_inv }), to_z-of_z (record { sfits = y.type_inv }), x.ensures, y.ensures, c.radius.ensures, c.alpha.ensures, c.dim.ensures) refl
