-- `fill_row`: all inside, or the ends by the test of the row.
use Rattle.std.proofs.Common.{sym, ◌∙◌, arith}
use Rattle.fill.proofs.Laws.{cols_of, full_row_is}
use Rattle.fill.proofs.fill_row.Goals as goal

pub fill_spans-requires-clause-columns : goal.fill_spans-requires-clause-columns
fill_spans-requires-clause-columns c = cols_of (omega arith) (sym c.is_corner_row.ensures ∙ c.if-is_corner_row.true) c.requires.far

pub fill_spans-requires-else-is_corner_row-clause-columns : goal.fill_spans-requires-else-is_corner_row-clause-columns
fill_spans-requires-else-is_corner_row-clause-columns c = cols_of (omega arith) (sym c.is_corner_row.ensures ∙ c.if-is_corner_row.false) c.requires.near

pub returns-then-is_full_row : goal.returns-then-is_full_row
returns-then-is_full_row c =
    let a = c.args in
    c.row_inner.ensures ∙ full_row_is a.x0 a.y a.shape.paint a.dst.now (c.requires.full c.if-full.true) (sym c.is_full_row.ensures ∙ c.if-is_full_row.true)
