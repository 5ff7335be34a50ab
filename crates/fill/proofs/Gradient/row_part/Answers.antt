-- `row_part`: the places are found, and each pixel is mixed by its own.
use Rattle.std.proofs.Common.{rules, arith, ◌+◌, length, ◌∙◌, length-take}
use Rattle.edge.specs.Edge.{centre}
use Rattle.fill.specs.Private.{Lined, place_at}
use Rattle.fill.proofs.Laws.{placed_row, lined_all, lined_part}
use Rattle.fill.proofs.Gradient.row_part.Goals as goal

pub returns : goal.returns
returns c =
    let a = c.args in
    let found : Lined (λ i. place_at a.self.paint (centre (a.x + i)) (centre a.y)) (length a.dst.now) c.find_places.new.line = lined_all c.find_places.ensures (simp length-take (omega arith)) in
    c.row_mixed.ensures ∙ placed_row a.x a.y a.dst.now a.self.between (lined_part _ _ found (search rules))
