-- `column_ch`: a mean of two bytes.
use native.Mathlib.Omega.{arith}
use Rattle.glass.proofs.Means.{of_bytes}
use Rattle.glass.proofs.general.column_ch.Goals as goal

pub returns : goal.returns
returns c = (cc, omega (arith, c.blend.ensures, of_bytes c.args.t c.from.result c.from-2.result c.requires.2 (omega arith) (omega arith)))
