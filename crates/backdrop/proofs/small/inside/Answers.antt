-- `inside`: the cell counted from its own first column.
use Prim.Native.Nat.{◌*◌}
use Rattle.backdrop.proofs.Bytes.{cell_from, scale_size}
use Rattle.backdrop.proofs.small.inside.Goals as goal

pub returns : goal.returns
returns g c =
    let a = c.args in
    cell_from g.row.K a.px.now a.s (g.row.K * a.i) c.from_column.result _ (scale_size _ c.requires.1).1 c.from_column.ensures c.cell.ensures
