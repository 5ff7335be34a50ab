-- `inner_row`: the three spans join from left to right.
use Rattle.std.proofs.Common.{rules}
use Rattle.frame.proofs.Parts.{three}
use Rattle.frame.proofs.inner_row.Goals as goal

pub returns : goal.returns
returns c =
    let a = c.args in
    three a.look a.dst.now a.left a.right c.requires.0 c.requires.1 c.row_fill.ensures (c.map_pixels.ensures _ (λ i p r h e. search rules)) c.row_fill-2.ensures
