-- A signed number comes out of a call by its bits: what is read from them is the number.
use Rattle.std.proofs.Common.{ap, ◌∙◌, to_z-of_z}
use mir.Syntax.{w32}
use lib.Ieee.{to_signed}
use Rattle.records.specs.Record.{whole}
use Rattle.records.proofs.whole.Goals as goal

pub returns : goal.returns
unfolding whole
returns c = to_z-of_z {w = w32} (record { sfits = c.to_i32.type_inv }) ∙ c.to_i32.ensures ∙ ap (to_signed 31) c.real.ensures
