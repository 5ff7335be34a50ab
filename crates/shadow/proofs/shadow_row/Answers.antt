-- `shadow_row`: the three spans join from left to right.
use Rattle.shadow.proofs.Rows.{three}
use Rattle.shadow.proofs.shadow_row.Goals as goal

pub returns : goal.returns
returns c =
    let s = c.args in
    let k = s.caster.now in
    three k.table k.rect k.shadow s.y s.x0 c.middle-middle.result s.dst.now c.middle-middle.ensures.held c.middle_alpha.result c.middle_alpha.ensures c.outer_row.ensures c.row_blend.ensures c.outer_row-2.ensures
