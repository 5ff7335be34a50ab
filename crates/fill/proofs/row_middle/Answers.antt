-- `row_middle`: by the test of the row.
use mathlib.Core.Path.{sym, ◌∙◌}
use Rattle.fill.proofs.row_middle.Goals as goal

pub returns-then-is_edge_row : goal.returns-then-is_edge_row
returns-then-is_edge_row c =
    rw (sym c.is_edge_row.ensures ∙ c.if-is_edge_row.true) c.row_long.ensures

pub returns-else-is_edge_row : goal.returns-else-is_edge_row
returns-else-is_edge_row c =
    rw (sym c.is_edge_row.ensures ∙ c.if-is_edge_row.false) c.row_inner.ensures
