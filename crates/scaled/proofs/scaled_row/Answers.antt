-- `scaled_row`: by the tests of the row.
use mathlib.Core.Path.{sym, ◌∙◌}
use Rattle.scaled.specs.Private.{mixed}
use Rattle.scaled.proofs.Rows.{whole_edge, full_alike}
use Rattle.scaled.proofs.scaled_row.Goals as goal

pub cut_row-requires-clause-alike : goal.cut_row-requires-clause-alike
cut_row-requires-clause-alike c =
    let a = c.args in
    full_alike a.k a.x a.y _ (sym c.row_full.ensures ∙ c.if-row_full.true) c.requires.clear

pub returns-else-row_near : goal.returns-else-row_near
returns-else-row_near c =
    let a = c.args in
    c.row_edge.ensures ∙ whole_edge a.k a.x a.y (mixed a.mix.above.now a.mix.below.now a.mix.t) a.dst.now
