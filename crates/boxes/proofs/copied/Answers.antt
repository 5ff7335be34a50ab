-- `copied`: the source's sides by the table.
use mir.Facts.{to_z-of_z}
use Rattle.boxes.proofs.copied.Goals as goal

pub returns : goal.returns
returns c =
    let x = c.x in
    let y = c.y in
    rw (to_z-of_z (record { sfits = x.type_inv }), to_z-of_z (record { sfits = y.type_inv }), c.sides_of-sides.ensures, c.source.ensures, x.ensures, y.ensures) at c.copy_box.ensures
