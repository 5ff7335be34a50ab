-- The number that is passed on is the one that came: reading it back from its 32 bits changes nothing.
use mathlib.Core.Path.{◌∙◌, ap}
use lib.Ieee.{binary32, of_int}
use mir.Syntax.{w32}
use mir.ValLaws.{to_z-of_z}
use Rattle.c_leaves.proofs.leaf_of_i32.Goals as goal

pub returns : goal.returns
returns c = c.of_i32.ensures ∙ ap (of_int binary32) (to_z-of_z w32 c.args.n c.ranges.n)
