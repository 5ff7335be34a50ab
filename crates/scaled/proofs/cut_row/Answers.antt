-- `cut_row`: the three spans join from left to right.
use Rattle.scaled.specs.Private.{mixed}
use Rattle.scaled.proofs.Rows.{three}
use Rattle.scaled.proofs.cut_row.Goals as goal

pub returns : goal.returns
returns c =
    let a = c.args in
    three a.k a.x a.y (mixed a.mix.above.now a.mix.below.now a.mix.t) a.dst.now a.mid c.requires.alike c.row_edge.ensures c.row_inner.ensures c.row_edge-2.ensures
