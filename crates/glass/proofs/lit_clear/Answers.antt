-- `lit_clear`: without brightness the pixels stay.
use Rattle.canvas.proofs.Laws.Rows.{map_row_id}
use Rattle.panel.specs.Panel.{lit}
use Rattle.glass.proofs.Sizes.{lit_plain}
use Rattle.glass.proofs.lit_clear.Goals as goal

pub returns-else-p-ne0-2 : goal.returns-else-p-ne0-2
returns-else-p-ne0-2 c =
    let a = c.args in
    map_row_id (λ i q. lit a.p q) a.dst.now (λ i h. lit_plain a.p _ c.if-p-ne0.false c.if-p-ne0-2.false (c.requires.is i h))
