-- `edge_pix`: by the distance from the edge.
use Rattle.glass.specs.General as General
use Rattle.glass.proofs.Sizes.{edge_col_in, edge_row_in}
use Rattle.glass.proofs.general.edge_pix.Goals as goal

pub returns-then-s : goal.returns-then-s
unfolding General.edge_pix
returns-then-s c = rw (← c.slope_at-s.ensures, c.if-s.true)

pub soft-requires : goal.soft-requires
soft-requires c =
    let a = c.args in
    let p = c.slope_at-s.result in (
      rw c.sight-a.ensures (edge_col_in a.view.p a.view.table.now p a.x c.args.view.sized.wide),
      rw c.sight-a.ensures (edge_row_in a.view.p a.view.table.now p a.y c.args.view.sized.tall),
    )

pub returns : goal.returns
unfolding General.edge_pix
returns c =
    rw (← c.slope_at-s.ensures, c.if-s.false, c.laid.ensures, c.cov8.ensures, c.soft.ensures, c.sight-a.ensures)
