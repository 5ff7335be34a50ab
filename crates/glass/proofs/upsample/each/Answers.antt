-- `each`: by the kind of panel.
use Rattle.glass.proofs.upsample.each.Goals as goal

pub mixed_row-requires : goal.mixed_row-requires
mixed_row-requires c = let s = c.requires in let n = s.1 c.if-flat.true in (n.0, n.1, s.0)

pub returns-then-flat : goal.returns-then-flat
returns-then-flat c = rw c.if-flat.true c.mixed_row.ensures

pub returns-else-flat : goal.returns-else-flat
returns-else-flat c = rw c.if-flat.false c.soft_row.ensures
