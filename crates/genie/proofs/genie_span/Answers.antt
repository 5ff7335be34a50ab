-- `genie_span`: the source's columns are found, then its colours in them, and these are mixed in.
use mathlib.Core.Path.{sym, ◌∙◌}
use native.Mathlib.Omega.{arith}
use Rattle.canvas.proofs.Laws.Rows.{map_row_same}
use Rattle.genie.proofs.Strips.{columns_in, colour_pix}
use Rattle.genie.proofs.genie_span.Goals as goal

pub find_colours-requires : goal.find_colours-requires
find_colours-requires c = let a = c.args in columns_in a.band.row.now a.band.strip a.x a.line.now c.find_columns.ensures a.band.sized.0

pub returns : goal.returns
returns c =
    let a = c.args in
    c.mix_span.ensures
    ∙ map_row_same _ _ a.dst.now (λ i h. sym (colour_pix a.band.row.now a.band.strip a.x a.line.now c.find_columns.ensures c.find_colours.ensures a.band.full i _ (omega (arith, c.requires))))
