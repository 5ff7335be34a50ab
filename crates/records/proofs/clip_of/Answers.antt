-- The four sides are words 3 to 6.
use Rattle.std.proofs.Common.{refl, to_z-of_z}
use mir.Syntax.{w32}
use Rattle.records.specs.Record.{clip}
use Rattle.records.proofs.clip_of.Goals as goal

pub returns : goal.returns
unfolding clip
returns c =
    let y1 = c.whole-4 in
    let x1 = c.whole-3 in
    let y0 = c.whole-2 in
    let x0 = c.whole in
    rw (
      to_z-of_z {w = w32} (record { sfits = x0.type_inv }),
      to_z-of_z {w = w32} (record { sfits = y0.type_inv }),
      to_z-of_z {w = w32} (record { sfits = x1.type_inv }),
      to_z-of_z {w = w32} (record { sfits = y1.type_inv }),
      x0.ensures,
      y0.ensures,
      x1.ensures,
      y1.ensures,
    )
    refl
