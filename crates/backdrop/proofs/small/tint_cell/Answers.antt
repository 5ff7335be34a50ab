-- `tint_cell`: its three bytes, read before any is stored.
use mathlib.Core.Path.{◌≡◌, ◌∙◌}
use mir.Facts.{to_z-of_z}
use Rattle.backdrop.specs.Picture.{lum_at}
use Rattle.backdrop.proofs.Tint.{tinted_cell_lem}
use Rattle.backdrop.proofs.small.tint_cell.Goals as goal
use Rattle.backdrop.proofs.small.tint_cell.Goals.{After-lum-l}

bright : (c : After-lum-l) → let a = c.args in c.lum-l.result ≡ lum_at a.a.now a.o
unfolding lum_at
bright c = c.lum-l.ensures

pub returns : goal.returns
returns c =
    let a = c.args in
    c.put.ensures
    ∙ tinted_cell_lem a.sat a.tint a.a.now a.o (bright (goal.at.returns c).After-lum-l)
    (rw (to_z-of_z c.ranges.sat) at c.tint_ch.ensures) (rw (to_z-of_z c.ranges.sat) at c.tint_ch-2.ensures) (rw (to_z-of_z c.ranges.sat) at c.tint_ch-3.ensures)
