-- `IRect::w` meets its contract: the difference of two sides fits.
use Rattle.geom.proofs.Sides.{Sides, sides, columns}
use Rattle.geom.proofs.IRect.w.Goals as goal
use Rattle.geom.proofs.IRect.w.Goals.{After-struct_told-1}

known : (c : After-struct_told-1) → Sides c.args.self
known c = sides c.args.self c.struct_told-1.given

pub overflow_cast-result : goal.overflow_cast-result
overflow_cast-result c = (columns (known c)).first

pub overflow_cast-result-2 : goal.overflow_cast-result-2
overflow_cast-result-2 c = (columns (known (goal.at.overflow_cast-result-2 c).After-struct_told-1)).second

pub overflow_sub-result : goal.overflow_sub-result
overflow_sub-result c = (columns (known (goal.at.overflow_sub-result c).After-struct_told-1)).fits

pub returns : goal.returns
returns c = (columns (known (goal.at.returns c).After-struct_told-1)).is
