-- `row_inner`: by the alpha.
use mathlib.Core.Path.{◌∙◌}
use Rattle.straight.proofs.Rows.{stored, faded}
use Rattle.straight.proofs.row_inner.Goals as goal

pub returns-then-blit-ge255 : goal.returns-then-blit-ge255
returns-then-blit-ge255 c =
    let a = c.args in
    c.row_store.ensures ∙ stored a.blit a.row.now a.dst.now c.if-blit-ge255.true

pub returns-else-blit-ge255 : goal.returns-else-blit-ge255
returns-else-blit-ge255 c =
    let a = c.args in
    c.row_fade.ensures ∙ faded a.blit a.row.now a.dst.now c.parts.ensures c.if-blit-ge255.false
