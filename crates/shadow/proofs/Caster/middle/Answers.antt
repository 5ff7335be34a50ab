-- `middle`: the columns are held in their order.
use Rattle.edge.proofs.Held.{starts_in, goes_on, ends_in}
use Rattle.shadow.proofs.Caster.middle.Goals as goal

pub returns-clause-ordered : goal.returns-clause-ordered
returns-clause-ordered c =
    let a = c.args in
    let m = c.middle_cols.result in
    let held = c.middle_cols.ensures in
    (starts_in _ _ a.x0 a.x1 m c.requires held, goes_on _ _ a.x0 a.x1 m c.requires held, ends_in _ _ a.x0 a.x1 m c.requires held)
