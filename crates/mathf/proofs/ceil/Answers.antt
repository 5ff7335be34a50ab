-- `ceil` meets its contract: ceil(x) is -floor(-x).
use Rattle.std.proofs.Common.{ap, ◌∙◌}
use lib.Ieee.{neg}
use Rattle.mathf.proofs.Rounding.{turned}
use Rattle.mathf.proofs.ceil.Goals as goal

pub returns : goal.returns
returns c = ap neg c.floor.ensures ∙ turned c.args.x
