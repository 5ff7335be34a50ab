-- `Rect::inset` meets its contract.
use Rattle.geom.specs.Geom.{inset}
use Rattle.geom.proofs.Rect.inset.Goals as goal

pub returns : goal.returns
unfolding inset
returns c = cc
