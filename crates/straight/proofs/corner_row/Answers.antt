-- `corner_row`: three spans lent one after the other; the two corners may overlap.
use Rattle.straight.proofs.Rows.{corners}
use Rattle.straight.proofs.corner_row.Goals as goal

pub returns : goal.returns
returns c =
    let a = c.args in
    corners a.mask a.row.now a.dst.now a.a a.b a.x a.y c.max-end.ensures c.requires.source.1 c.requires.source.2 c.requires.source.0 c.row_inner.ensures c.row_edge.ensures c.row_edge-2.ensures
