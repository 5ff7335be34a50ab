-- `frame_row`: by the test of the row.
use mathlib.Core.Path.{sym, ◌∙◌}
use Rattle.frame.proofs.Parts.{border_row, window_row}
use Rattle.frame.proofs.frame_row.Goals as goal

pub returns-then-is_border_row : goal.returns-then-is_border_row
returns-then-is_border_row c =
    let a = c.args in
    c.row_fill.ensures ∙ border_row a.look a.dst.now a.b (sym c.is_border_row.ensures ∙ c.if-is_border_row.true)

pub returns-else-is_border_row : goal.returns-else-is_border_row
returns-else-is_border_row c =
    let a = c.args in
    c.inner_row.ensures
    ∙ window_row a.look a.dst.now a.b (sym c.is_border_row.ensures ∙ c.if-is_border_row.false)
    c.min-left.ensures (rw c.saturating_sub.ensures at c.max-right.ensures)
