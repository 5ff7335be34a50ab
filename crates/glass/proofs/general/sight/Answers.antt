-- `sight`: where the bezel bends the view, and where not.
use mathlib.Core.Path.{sym, ◌∙◌}
use Rattle.glass.specs.General as General
use Rattle.glass.proofs.SoftRow.{bent_some, bent_none}
use Rattle.glass.proofs.general.sight.Goals as goal

pub returns-in-Some : goal.returns-in-Some
unfolding General.edge_col_place General.edge_row_place
returns-in-Some c =
    let e = bent_some c.args.view.p c.args.view.table.now c.depth.result (sym c.in-Some.is ∙ c.bent.ensures) in
    rw (← c.depth.ensures, e.0, ← e.1) (cc)

pub returns : goal.returns
unfolding General.edge_col_place General.edge_row_place
returns c =
    let e = bent_none c.args.view.p c.args.view.table.now c.depth.result (sym c.in_default.is ∙ c.bent.ensures) in
    rw (← c.depth.ensures, e) (cc)
