-- `begin`: past the table's last source all begin at one place.
use native.Mathlib.Omega.{arith}
use Rattle.sources.proofs.Table.{begin_held}
use Rattle.sources.proofs.begin.Goals as goal

pub returns : goal.returns
returns c = omega (arith, c.loop-i.invariant, begin_held c.args.table.now c.args.t c.loop-i.i (omega arith))
