-- `near_row`: beyond the edge pixel by pixel; otherwise it is covered alike between the columns that another edge is nearer to.
use Prim.Native.Nat.{◌+◌}
use mathlib.Core.Path.{◌∙◌}
use Rattle.std.proofs.Common.{rules}
use Rattle.scaled.specs.Private.{mixed, beside}
use Rattle.scaled.proofs.Rows.{whole_edge, near_alike}
use Rattle.scaled.proofs.near_row.Goals as goal

pub returns-then-sd : goal.returns-then-sd
returns-then-sd c =
    let a = c.args in
    c.row_edge.ensures ∙ whole_edge a.k a.x a.y (mixed a.mix.above.now a.mix.below.now a.mix.t) a.dst.now

pub cut_row-requires-clause-alike : goal.cut_row-requires-clause-alike
cut_row-requires-clause-alike c =
    let a = c.args in
    near_alike a.k a.x a.y _ c.requires.near_edge c.row_axis-q.ensures (c.clear_of-mid.ensures.clear (λ i. beside a.k c.row_axis-q.result (a.x + i)) (λ i b l p. search rules)) c.if-sd.false c.covered.ensures
