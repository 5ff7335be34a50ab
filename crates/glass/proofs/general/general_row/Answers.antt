-- `general_row`: by the test of the row; where it is cut, the three spans join from left to right.
use mathlib.Core.Path.{sym, ◌∙◌}
use native.Mathlib.Omega.{arith}
use Prim.Native.Nat.{◌+◌}
use Rattle.canvas.proofs.Laws.Rows.{map_row_same, rowed_end}
use Rattle.glass.proofs.SoftRow.{edge_is, three}
use Rattle.glass.proofs.general.general_row.Goals as goal

pub returns-then-row_inside : goal.returns-then-row_inside
returns-then-row_inside c =
    let a = c.args in
    let R = three a.view.p a.view.table.now a.view.lo.now a.x a.y (sym c.row_inside.ensures ∙ c.if-row_inside.true) c.requires.inside c.requires.row.1 c.requires.row.2 c.edge_row.ensures c.inside_row.ensures c.edge_row-then-row_inside.ensures in
    rowed_end R (omega (arith, R.long))

pub returns : goal.returns
returns c =
    let a = c.args in
    c.level_row.ensures ∙ map_row_same _ _ a.dst.now (λ i _. edge_is a.view.p a.view.table.now a.view.lo.now (a.x + i) a.y _ (sym c.row_inside.ensures ∙ c.if-row_inside.false))
