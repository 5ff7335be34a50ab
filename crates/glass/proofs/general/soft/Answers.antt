-- `soft`: the columns about the place.
use mathlib.Core.Path.{ap, ◌∙◌}
use native.Mathlib.Omega.{arith}
use Rattle.panel.specs.Panel.{lit}
use Rattle.glass.proofs.SoftRow.{from_columns}
use Rattle.glass.proofs.general.soft.Goals as goal

pub returns : goal.returns
returns c =
    let a = c.args in
    c.lit.ensures ∙ ap (lit a.view.p) c.between.ensures ∙ from_columns a.view.p a.view.lo.now a.fx a.fy c.columns_at-k.ensures

pub columns_at-k-requires : goal.columns_at-k-requires
columns_at-k-requires c = (c.requires.1, omega (arith, c.requires.0))

pub between-requires : goal.between-requires
between-requires c = let k = c.columns_at-k.ensures in (k.left.small, k.right.small, omega arith)
